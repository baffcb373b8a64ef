use Rattle.ctd_partitions.proofs.Denying.{denies_at_least, denies_at_most, denies_equal_above, denies_equal_below, denies_greater, denies_less, denies_unequal}
use Rattle.ctd_partitions.proofs.denied.is_denied.Goals as goal

pub returns-in-Less : goal.returns-in-Less
returns-in-Less c = λ yes. denies_less c.args.state c.args.by c.args.a c.args.b c.in-Less.is (c.is_at_least.ensures yes)

pub returns-in-Greater : goal.returns-in-Greater
returns-in-Greater c = λ yes. denies_greater c.args.state c.args.by c.args.a c.args.b c.in-Greater.is (c.is_at_least-in-Greater.ensures yes)

pub returns-in-AtMost : goal.returns-in-AtMost
returns-in-AtMost c = λ yes. denies_at_most c.args.state c.args.by c.args.a c.args.b c.in-AtMost.is (c.is_above.ensures yes)

pub returns-in-AtLeast : goal.returns-in-AtLeast
returns-in-AtLeast c = λ yes. denies_at_least c.args.state c.args.by c.args.a c.args.b c.in-AtLeast.is (c.is_above-in-AtLeast.ensures yes)

pub returns-then-is_above : goal.returns-then-is_above
returns-then-is_above c = λ yes. denies_equal_above c.args.state c.args.by c.args.a c.args.b c.in-Equal.is (c.is_above-in-Equal.ensures c.if-is_above.true)

pub returns-then-is_above-2 : goal.returns-then-is_above-2
returns-then-is_above-2 c = λ yes. denies_equal_below c.args.state c.args.by c.args.a c.args.b c.in-Equal.is (c.is_above-in-Equal-2.ensures c.if-is_above-2.true)

pub returns-else-not-is_at_least : goal.returns-else-not-is_at_least
returns-else-not-is_at_least c = λ yes. denies_unequal c.args.state c.args.by c.args.a c.args.b c.in-Unequal.is (c.is_at_least-in-Unequal.ensures c.if-not-is_at_least.false) (c.is_at_least-in-Unequal-2.ensures yes)
