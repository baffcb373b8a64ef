use Rattle.ctd_element_changes.proofs.Common.{ap, subst, sym, ◌∙◌}
use Rattle.ctd_element_changes.specs.calls.Tests.{Compares}
use Rattle.ctd_element_changes.proofs.Comparing.{compared_push}
use Rattle.ctd_element_changes.proofs.compare.facts_compared.Goals.{then-stands_compared+in_ok-push, else-stands_compared}
use Rattle.ctd_element_changes.proofs.compare.facts_compared.Goals as goal

pub loop-fact-preserved : goal.loop-fact-preserved
loop-fact-preserved c = elim c.if-stands_compared.branch [
  | then-stands_compared+in_ok-push w ↦ subst (λ l. Compares c.args.state c.args.by c.args.a c.args.b l) (sym (ap (λ q. q.items) w.after-is ∙ w.in_ok-push.ensures.items))
      (compared_push c.args.state c.args.by c.args.a c.args.b c.loop-fact.after.items _ c.loop-fact.invariant (c.stands_compared.ensures w.if-stands_compared.true))
  | else-stands_compared w ↦ subst (λ l. Compares c.args.state c.args.by c.args.a c.args.b l) (sym (ap (λ q. q.items) w.after-is)) c.loop-fact.invariant
]
