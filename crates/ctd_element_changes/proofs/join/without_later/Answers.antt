use Rattle.ctd_element_changes.proofs.Common.{ap, subst, sym, ◌∙◌}
use Rattle.ctd_element_changes.specs.calls.Joins.{IsPartOf}
use Rattle.ctd_element_changes.proofs.Joined.{part_push}
use Rattle.ctd_element_changes.proofs.join.without_later.Goals.{then-is_kept+in_ok-push+in_ok-push-2, else-is_kept}
use Rattle.ctd_element_changes.proofs.join.without_later.Goals as goal

pub loop-fact-preserved : goal.loop-fact-preserved
loop-fact-preserved c = elim c.if-is_kept.branch [
  | then-is_kept+in_ok-push+in_ok-push-2 w ↦ subst (λ l. IsPartOf l c.args.facts.now) (sym (ap (λ q. q.items) w.kept-is ∙ w.in_ok-push-2.ensures.items))
      (part_push c.args.facts.now c.loop-fact.kept.items c.loop-fact.fact-index _ c.loop-fact-test.true c.loop-fact.invariant)
  | else-is_kept w ↦ subst (λ l. IsPartOf l c.args.facts.now) (sym (ap (λ q. q.items) w.kept-is)) c.loop-fact.invariant
]
