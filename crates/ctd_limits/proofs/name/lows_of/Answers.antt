use Rattle.std.proofs.Common.{ap, subst, sym, ◌∙◌}
use Rattle.ctd_limits.specs.inner.Named.{LowsOf}
use Rattle.ctd_limits.proofs.Naming.{fact_low}
use Rattle.ctd_limits.proofs.name.lows_of.Goals.{in-Some+in_ok-push, in_default}
use Rattle.ctd_limits.proofs.name.lows_of.Goals as goal

pub loop-fact-preserved : goal.loop-fact-preserved
loop-fact-preserved c = elim c.match-below_by.branch [
  | in-Some+in_ok-push w ↦ subst (λ l. LowsOf c.args.state c.args.b l) (sym (ap (λ q. q.items) w.all-is ∙ w.in_ok-push.ensures.items))
      (fact_low c.args.state c.args.b w.in-Some.c c.loop-fact.all.items c.loop-fact.fact-index _ c.loop-fact-test.true w.in-Some.ensures c.loop-fact.invariant)
  | in_default w ↦ subst (λ l. LowsOf c.args.state c.args.b l) (sym (ap (λ q. q.items) w.all-is)) c.loop-fact.invariant
]
