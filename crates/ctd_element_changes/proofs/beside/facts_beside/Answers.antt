use Rattle.ctd_element_changes.proofs.Common.{ap, subst, sym, ◌∙◌}
use Rattle.ctd_element_changes.specs.calls.Changes.{KeepsBeside}
use Rattle.ctd_element_changes.proofs.Sparing.{beside_push}
use Rattle.ctd_element_changes.proofs.beside.facts_beside.Goals.{then-is_free+in_ok-push, else-is_free}
use Rattle.ctd_element_changes.proofs.beside.facts_beside.Goals as goal

pub loop-fact-preserved : goal.loop-fact-preserved
loop-fact-preserved c = elim c.if-is_free.branch [
  | then-is_free+in_ok-push w ↦ subst (λ l. KeepsBeside c.args.names.now c.args.facts.now c.args.name.now l) (sym (ap (λ q. q.items) w.after-is ∙ w.in_ok-push.ensures.items))
      (beside_push c.args.names.now c.args.facts.now c.args.name.now c.loop-fact.after.items c.loop-fact.fact-index _ c.loop-fact-test.true (c.is_free.ensures w.if-is_free.true) c.loop-fact.invariant)
  | else-is_free w ↦ subst (λ l. KeepsBeside c.args.names.now c.args.facts.now c.args.name.now l) (sym (ap (λ q. q.items) w.after-is)) c.loop-fact.invariant
]
