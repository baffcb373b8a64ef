use Rattle.ctd_states.proofs.NamedValues.{impossible_value}
use Rattle.ctd_states.proofs.value.is_unreachable.Goals as goal

pub returns-then-is_impossible : goal.returns-then-is_impossible
returns-then-is_impossible c = record { never = λ is names. impossible_value names c.args.entries.now c.loop-value.value-index _ c.loop-value-test.true (c.is_impossible.ensures.none c.if-is_impossible.true) }
