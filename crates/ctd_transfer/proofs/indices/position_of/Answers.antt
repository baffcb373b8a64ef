use Rattle.ctd_transfer.proofs.Indexing.{one_position, two_position}
use Rattle.ctd_transfer.proofs.indices.position_of.Goals as goal

pub returns-in-One : goal.returns-in-One
returns-in-One c = λ g n h i is are. one_position g n h c.in-One.index c.args.indices.now c.as_limits.result c.cell_at.result c.only_number.result i is c.in-One.is c.as_limits.ensures c.cell_at.ensures are

pub returns-in-Two : goal.returns-in-Two
returns-in-Two c = λ g n h i is are.
    two_position g n h c.in-Two.index c.in-Two.other c.args.indices.now c.as_limits-in-Two.result c.as_limits-in-Two-2.result c.cell_at-in-Two.result c.only_number-in-Two.result i is c.in-Two.is c.as_limits-in-Two.ensures c.as_limits-in-Two-2.ensures c.cell_at-in-Two.ensures are
