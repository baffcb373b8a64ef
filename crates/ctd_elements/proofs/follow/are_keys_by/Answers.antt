use Rattle.ctd_elements.proofs.Following.{keys_by, values_by}
use Rattle.ctd_elements.proofs.follow.are_keys_by.Goals as goal

pub returns-clause-within : goal.returns-clause-within
returns-clause-within c = λ yes. keys_by c.args.state c.args.k c.args.other c.if-k-other.false c.if-k-other-2.false (c.is_excepted.ensures yes)

pub returns-clause-values : goal.returns-clause-values
returns-clause-values c = λ yes. values_by c.args.state c.args.k c.args.other c.if-k-other.false c.if-k-other-2.false (c.is_excepted.ensures yes)
