use Rattle.ctd_traps.proofs.Common.{None, ValueLimits, refl, subst}
use Rattle.ctd_traps.proofs.KeptLimits.{limits_last}
use Rattle.ctd_traps.specs.inner.Turns.{AreLasting}
use Rattle.ctd_traps.proofs.lasting.lasting_limits.Goals as goal

pub returns : goal.returns
returns c =
    let names = c.args.context.names.now in
    let l = c.args.repeated.now in
    let kept : ValueLimits = record { exact = c.lasting_index.result; lows = c.in_ok-lows.lows; highs = c.in_ok-highs.highs; source = None } in
    limits_last names l c.args.count.now kept c.lasting_index.ensures (subst (λ bs. AreLasting names l bs c.in_ok-lows.lows.items) c.as_slice.ensures.value c.in_ok-lows.ensures) (subst (λ bs. AreLasting names l bs c.in_ok-highs.highs.items) c.as_slice-2.ensures.value c.in_ok-highs.ensures) refl
