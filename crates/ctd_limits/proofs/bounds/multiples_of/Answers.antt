use Rattle.std.proofs.Common.{ap, subst, sym, ◌∙◌}
use Rattle.ctd_limits.specs.inner.Listed.{Multiplies}
use Rattle.ctd_limits.proofs.Listing.{one_multiplied}
use Rattle.ctd_limits.proofs.bounds.multiples_of.Goals.{in-Some+in_ok-push, in_default}
use Rattle.ctd_limits.proofs.bounds.multiples_of.Goals as goal

pub loop-a-preserved : goal.loop-a-preserved
loop-a-preserved c = elim c.match-multiple.branch [
  | in-Some+in_ok-push w ↦ subst (λ l. Multiplies c.args.times c.args.bounds.now l) (sym (ap (λ q. q.items) w.all-is ∙ w.in_ok-push.ensures.items))
      (one_multiplied c.args.times c.args.bounds.now c.loop-a.all.items c.loop-a.a-index _ w.in-Some.c c.loop-a-test.true w.in-Some.ensures c.loop-a.invariant)
  | in_default w ↦ subst (λ l. Multiplies c.args.times c.args.bounds.now l) (sym (ap (λ q. q.items) w.all-is)) c.loop-a.invariant
]
