use Rattle.std.proofs.Common.{IfSome, rules, subst, sym}
use Rattle.std.specs.Int.RustNames.{FitsSigned}
use Rattle.std.specs.Int.{w64}
use Rattle.std.proofs.lemmas.Int.{to_z-of_z}
use Rattle.ctd_limits.specs.inner.Numbers.{IsFromNumber}
use Rattle.ctd_limits.proofs.NumberBounds.{from_number, one_of_both}
use Rattle.ctd_limits.proofs.numbers.least_number.Goals.{in-Some, in_default}
use Rattle.ctd_limits.proofs.numbers.least_number.Goals as goal

pub loop-b-preserved : goal.loop-b-preserved
loop-b-preserved c = elim c.match-number_alone.branch [
  | in-Some w ↦
      let fits : FitsSigned w64 w.in-Some.n = search rules in
      let result_fits : FitsSigned w64 w.greater.result = search rules in
      subst (λ o. IfSome o (λ n. IsFromNumber c.args.lows.now n)) (sym (rw (to_z-of_z w64 w.greater.result result_fits) at w.least-is))
      (one_of_both (λ n. IsFromNumber c.args.lows.now n) c.loop-b.least w.in-Some.n w.greater.result c.loop-b.invariant
      (from_number c.args.lows.now c.loop-b.b-index _ w.in-Some.n c.loop-b-test.true w.in-Some.ensures) (rw (to_z-of_z w64 w.in-Some.n fits) at w.greater.ensures))
  | in_default w ↦ subst (λ o. IfSome o (λ n. IsFromNumber c.args.lows.now n)) (sym w.least-is) c.loop-b.invariant
]
