use Rattle.ctd_states.proofs.Standing.{name_within}
use Rattle.ctd_states.proofs.value.name_is_within.Goals as goal

pub returns-then-values_are_within : goal.returns-then-values_are_within
returns-then-values_are_within c = record { within = λ is. name_within c.args.a c.args.b (c.lacks_are_within.ensures c.if-not-lacks_are_within.false) (c.values_are_within.ensures.within c.if-values_are_within.true) (c.values_are_within-then-values_are_within.ensures.within is) }
