use Rattle.std.proofs.Common.{ap, subst, sym, ◌∙◌}
use Rattle.ctd_limits.specs.inner.Listed.{SubtractsEach}
use Rattle.ctd_limits.proofs.Listing.{each_difference}
use Rattle.ctd_limits.proofs.bounds.subtract_each.Goals.{in-Some+in_ok-push, in_default}
use Rattle.ctd_limits.proofs.bounds.subtract_each.Goals as goal

pub loop-b-preserved : goal.loop-b-preserved
loop-b-preserved c = elim c.match-new_difference.branch [
  | in-Some+in_ok-push w ↦ subst (λ l. SubtractsEach c.args.after.items c.args.a c.args.others.now l) (sym (ap (λ q. q.items) w.after-is ∙ w.in_ok-push.ensures.items))
      (each_difference c.args.after.items c.args.a c.args.others.now c.loop-b.after.items c.loop-b.b-index _ w.in-Some.c c.loop-b-test.true w.in-Some.ensures c.loop-b.invariant)
  | in_default w ↦ subst (λ l. SubtractsEach c.args.after.items c.args.a c.args.others.now l) (sym (ap (λ q. q.items) w.after-is)) c.loop-b.invariant
]
