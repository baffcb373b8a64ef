use Rattle.std.proofs.Common.{ap, subst, sym, ◌∙◌}
use Rattle.ctd_limits.specs.inner.Operators.{LessOne}
use Rattle.ctd_limits.proofs.Dividing.{less_push}
use Rattle.ctd_limits.proofs.operators.ones_less.Goals.{in-Some+in_ok-push, in_default}
use Rattle.ctd_limits.proofs.operators.ones_less.Goals as goal

pub loop-b-preserved : goal.loop-b-preserved
loop-b-preserved c = elim c.match-one_less.branch [
  | in-Some+in_ok-push w ↦ subst (λ l. LessOne c.args.bounds.now l) (sym (ap (λ q. q.items) w.all-is ∙ w.in_ok-push.ensures.items))
      (less_push c.args.bounds.now c.loop-b.all.items c.loop-b.b-index _ w.in-Some.c c.loop-b-test.true w.in-Some.ensures c.loop-b.invariant)
  | in_default w ↦ subst (λ l. LessOne c.args.bounds.now l) (sym (ap (λ q. q.items) w.all-is)) c.loop-b.invariant
]
