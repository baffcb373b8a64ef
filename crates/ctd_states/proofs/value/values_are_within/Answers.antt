use Rattle.ctd_states.proofs.Standing.{values_within}
use Rattle.ctd_states.proofs.value.values_are_within.Goals as goal

pub returns-then-lengths_are_within : goal.returns-then-lengths_are_within
returns-then-lengths_are_within c = record { within = λ is. values_within c.args.a c.args.b (c.lengths_are_within.ensures.within c.if-lengths_are_within.true) (c.numbers_are_within.ensures.within is) }
