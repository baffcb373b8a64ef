use Rattle.ctd_elements.proofs.ElementsRead.{element_of}
use Rattle.ctd_elements.proofs.read.is_filled.Goals as goal

pub returns-then-is_filled_by : goal.returns-then-is_filled_by
returns-then-is_filled_by c = λ yes. element_of c.args.state c.loop-fact.fact-index _ c.args.array c.args.first c.args.second c.loop-fact-test.true (c.is_filled_by.ensures c.if-is_filled_by.true)
