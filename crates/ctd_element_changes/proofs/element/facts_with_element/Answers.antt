use Rattle.ctd_element_changes.proofs.Common.{ap, subst, sym, ◌∙◌}
use Rattle.ctd_element_changes.specs.calls.Changes.{GivesElement}
use Rattle.ctd_element_changes.proofs.Giving.{with_push}
use Rattle.ctd_element_changes.proofs.element.facts_with_element.Goals.{then-stands_with+in_ok-push, else-stands_with}
use Rattle.ctd_element_changes.proofs.element.facts_with_element.Goals as goal

pub loop-fact-preserved : goal.loop-fact-preserved
loop-fact-preserved c = elim c.if-stands_with.branch [
  | then-stands_with+in_ok-push w ↦ subst (λ l. GivesElement c.args.state c.args.target c.args.limits l) (sym (ap (λ q. q.items) w.after-is ∙ w.in_ok-push.ensures.items))
      (with_push c.args.state c.args.target c.args.limits c.loop-fact.after.items _ c.loop-fact.invariant (c.stands_with.ensures w.if-stands_with.true))
  | else-stands_with w ↦ subst (λ l. GivesElement c.args.state c.args.target c.args.limits l) (sym (ap (λ q. q.items) w.after-is)) c.loop-fact.invariant
]
