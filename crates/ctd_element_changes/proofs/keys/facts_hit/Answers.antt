use Rattle.ctd_element_changes.proofs.Common.{ap, subst, sym, ◌∙◌}
use Rattle.ctd_element_changes.specs.calls.Tests.{IsHit}
use Rattle.ctd_element_changes.proofs.KeyTests.{hit_push}
use Rattle.ctd_element_changes.proofs.keys.facts_hit.Goals.{then-stands_hit+in_ok-push, else-stands_hit}
use Rattle.ctd_element_changes.proofs.keys.facts_hit.Goals as goal

pub loop-fact-preserved : goal.loop-fact-preserved
loop-fact-preserved c = elim c.if-stands_hit.branch [
  | then-stands_hit+in_ok-push w ↦ subst (λ l. IsHit c.args.state c.args.limits c.args.array l) (sym (ap (λ q. q.items) w.after-is ∙ w.in_ok-push.ensures.items))
      (hit_push c.args.state c.args.limits c.args.array c.loop-fact.after.items _ c.loop-fact.invariant (c.stands_hit.ensures w.if-stands_hit.true))
  | else-stands_hit w ↦ subst (λ l. IsHit c.args.state c.args.limits c.args.array l) (sym (ap (λ q. q.items) w.after-is)) c.loop-fact.invariant
]
