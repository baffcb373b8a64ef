use Rattle.ctd_element_changes.proofs.Common.{ap, subst, sym, ◌∙◌}
use Rattle.ctd_element_changes.specs.calls.Joins.{ImpliesAll, IsPartOf}
use Rattle.ctd_element_changes.proofs.Joined.{implied_push, part_push}
use Rattle.ctd_element_changes.proofs.join.facts_that_follow.Goals.{then-follows+in_ok-push, else-follows}
use Rattle.ctd_element_changes.proofs.join.facts_that_follow.Goals as goal

pub loop-fact-preserved : goal.loop-fact-preserved
loop-fact-preserved c = elim c.if-follows.branch [
  | then-follows+in_ok-push w ↦ subst (λ l. IsPartOf l c.args.candidates.now × ImpliesAll c.args.state l) (sym (ap (λ q. q.items) w.after-is ∙ w.in_ok-push.ensures.items))
      (part_push c.args.candidates.now c.loop-fact.after.items c.loop-fact.fact-index _ c.loop-fact-test.true c.loop-fact.invariant.0, implied_push c.args.state c.loop-fact.after.items _ c.loop-fact.invariant.1 (c.follows.ensures w.if-follows.true))
  | else-follows w ↦ subst (λ l. IsPartOf l c.args.candidates.now × ImpliesAll c.args.state l) (sym (ap (λ q. q.items) w.after-is)) c.loop-fact.invariant
]
