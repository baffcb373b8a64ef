use Rattle.ctd_element_changes.proofs.Common.{ap, subst, sym, ◌∙◌}
use Rattle.ctd_element_changes.specs.calls.Changes.{GivesName}
use Rattle.ctd_element_changes.proofs.Assigned.{given_push}
use Rattle.ctd_element_changes.proofs.assign.facts_with_name.Goals.{then-stands_given+in_ok-push, else-stands_given}
use Rattle.ctd_element_changes.proofs.assign.facts_with_name.Goals as goal

pub loop-fact-preserved : goal.loop-fact-preserved
loop-fact-preserved c = elim c.if-stands_given.branch [
  | then-stands_given+in_ok-push w ↦ subst (λ l. GivesName c.args.state c.args.name.now c.args.limits l) (sym (ap (λ q. q.items) w.after-is ∙ w.in_ok-push.ensures.items))
      (given_push c.args.state c.args.name.now c.args.limits c.loop-fact.after.items _ c.loop-fact.invariant (c.stands_given.ensures w.if-stands_given.true))
  | else-stands_given w ↦ subst (λ l. GivesName c.args.state c.args.name.now c.args.limits l) (sym (ap (λ q. q.items) w.after-is)) c.loop-fact.invariant
]
