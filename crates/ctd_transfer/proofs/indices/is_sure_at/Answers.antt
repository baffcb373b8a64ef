use Rattle.ctd_transfer.proofs.Indexing.{one_sure, two_sure}
use Rattle.ctd_transfer.proofs.indices.is_sure_at.Goals as goal

pub returns-in-One : goal.returns-in-One
returns-in-One c = λ sure. one_sure c.args.state c.args.index c.in-Some.array c.args.indices.now c.in-One.index c.as_limits.result c.in-Some.is c.in-One.is c.as_limits.ensures (c.is_filled.ensures sure)

pub returns-in-Two : goal.returns-in-Two
returns-in-Two c = λ sure.
    two_sure c.args.state c.args.index c.in-Some.array c.args.indices.now c.in-Two.index c.in-Two.other c.as_limits-in-Two.result c.as_limits-in-Two-2.result c.in-Some.is c.in-Two.is c.as_limits-in-Two.ensures c.as_limits-in-Two-2.ensures (c.is_filled-in-Two.ensures sure)
