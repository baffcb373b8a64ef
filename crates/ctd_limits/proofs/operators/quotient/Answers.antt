use Rattle.std.proofs.Common.{None, pos, refl, subst, ◌∙◌}
use Rattle.ctd_limits.specs.declared.known.ValueLimits.{ValueLimits}
use Rattle.ctd_limits.specs.inner.Numbers.{IsFromNumber}
use Rattle.ctd_limits.proofs.Dividing.{quotient_known}
use Rattle.ctd_limits.proofs.operators.quotient.Goals as goal

pub returns : goal.returns
returns c =
    let l : ValueLimits = record { exact = None; lows = c.in_ok-from_zero.field-0; highs = c.in_ok-highs.highs; source = None } in
    quotient_known c.args.a.now c.args.b.now l (subst (λ q. IsFromNumber q (pos 0)) c.as_slice.ensures.value (c.if-not-is_from_number.ensures refl)) (subst (λ q. IsFromNumber q (pos 1)) c.as_slice-2.ensures.value (c.if-not-is_from_number-2.ensures refl)) (c.in_ok-highs.ensures ∙ c.as_slice-3.ensures.value) c.in_ok-from_zero.ensures refl refl
