use Rattle.ctd_traps.proofs.Common.{PinsStand, [], ap, named_values, refl, subst, sym, values_push, ◌∙◌}
use Rattle.ctd_traps.proofs.Pinning.{one_more_name}
use Rattle.ctd_traps.proofs.program.unset.Goals as goal

pub loop-preserved : goal.loop-preserved
loop-preserved c = λ q.
    let before = c.loop.entries.items in
    subst (λ l. PinsStand l []) (sym (ap (named_values q) c.in_ok-push.ensures.items ∙ values_push q before _)) (one_more_name (named_values q before) _ refl (c.loop.invariant q))

pub returns : goal.returns
returns c = λ q.
    let before = c.loop.entries.items in
    subst (λ l. PinsStand l []) (sym (ap (named_values q) c.in_ok-push-2.ensures.items ∙ values_push q before _)) (one_more_name (named_values q before) _ refl (c.loop.invariant q))
