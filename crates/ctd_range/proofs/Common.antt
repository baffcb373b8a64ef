-- What the proofs take from elsewhere.
pub use Rattle.ctd_outcome.specs.declared.reason.Fault.TheVariants.{Exponent, Overflow}
pub use Rattle.ctd_range.specs.calls.Ranges.{Covers, IsIn, Relates}
pub use Rattle.ctd_range.specs.declared.arithmetic.Computed.{Computed}
pub use Rattle.ctd_range.specs.declared.arithmetic.Corner.{Corner}
pub use Rattle.ctd_range.specs.declared.arithmetic.End.{End}
pub use Rattle.ctd_range.specs.declared.range.Range.{Range}
pub use Rattle.ctd_range.specs.inner.Ends.{IsCorner, IsEnd, IsGreatestOf, IsLeastOf}
pub use Rattle.ctd_range.specs.inner.Ranges.{IsCount, IsDivisor, IsNoFurther, IsTowardsZero}
pub use Rattle.ctd_value.specs.Arithmetic.{checked_divide, in_range, is_value, power, quotient, remainder}
pub use Rattle.std.proofs.Common.{Bool, Err, None, Ok, Option, Some, ap, arith, div-le_self, false, if◌then◌else◌, inl, inr, le_trans, nat_lt, neg_ℤ, negsuc, not, of_z, pos, pow-suc, refl, rules, subst, suc, sym, to_z, true, unsigned_abs, unwrap_or, zero, ℕ, ℤ, ◌%◌, ◌*ℤ◌, ◌*◌, ◌+ℤ◌, ◌+◌, ◌-ℤ◌, ◌-◌, ◌/◌, ◌<ℤ◌, ◌<◌, ◌^◌, ◌||◌, ◌∙◌, ◌≡◌, ◌≤ℤ◌, ◌≤◌}
pub use Rattle.std.proofs.Math.Bool.{or-true}
pub use Rattle.std.proofs.Math.IntN.{*ℤ-zero, *ℤ_comm}
pub use Rattle.std.proofs.Math.Nat.{div-mul-le_self, le-div_iff_mul-le, mod-le, mod-lt, mul-le-mul_left, mul-le-mul_right, pow-le-pow_left, pow-le-pow_right, zero-div}
pub use Rattle.std.proofs.lemmas.Bool.Decides.{nat_tests}
pub use Rattle.std.proofs.lemmas.Int.{by_lt_z, ints, quot_fits, to_z-of_z}
pub use Rattle.std.specs.Int.{int_pow, saturate_signed, saturate_to_bits, w128}
pub use Rattle.std.specs.Int.RustNames.{FitsSigned}
pub use Rattle.std.specs.Option.{SomeIff, is_some}
pub use Rattle.std.specs.Prelude.{IfSome, int_div, int_rem}
