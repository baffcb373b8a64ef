use Rattle.ctd_element_changes.proofs.Common.{refl}
use Rattle.ctd_element_changes.proofs.Joined.{rest_done, rest_step}
use Rattle.ctd_element_changes.proofs.join.all_follow.Goals as goal

pub loop-fact-preserved : goal.loop-fact-preserved
loop-fact-preserved c = rest_step c.args.state c.args.facts.now c.loop-fact.fact-index _ c.loop-fact-test.true (c.if-not-follows.ensures refl) c.loop-fact.invariant

pub returns : goal.returns
returns c = λ yes. rest_done c.args.state c.args.facts.now c.loop-fact.fact-index c.loop-fact-test.false c.loop-fact.invariant
