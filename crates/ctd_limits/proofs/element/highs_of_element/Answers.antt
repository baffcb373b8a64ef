use Rattle.std.proofs.Common.{ap, subst, sym, ◌∙◌}
use Rattle.ctd_limits.specs.inner.Elements.{HighsOfElement}
use Rattle.ctd_limits.proofs.Valuing.{high_push}
use Rattle.ctd_limits.proofs.element.highs_of_element.Goals.{in-Some+in_ok-push, in_default}
use Rattle.ctd_limits.proofs.element.highs_of_element.Goals as goal

pub loop-fact-preserved : goal.loop-fact-preserved
loop-fact-preserved c = elim c.match-most_of.branch [
  | in-Some+in_ok-push w ↦ subst (λ l. HighsOfElement c.args.state c.args.array c.args.first c.args.second l) (sym (ap (λ q. q.items) w.all-is ∙ w.in_ok-push.ensures.items))
      (high_push c.args.state c.args.array c.args.first c.args.second c.loop-fact.all.items w.in-Some.m c.loop-fact.fact-index _ c.loop-fact-test.true w.in-Some.ensures c.loop-fact.invariant)
  | in_default w ↦ subst (λ l. HighsOfElement c.args.state c.args.array c.args.first c.args.second l) (sym (ap (λ q. q.items) w.all-is)) c.loop-fact.invariant
]
