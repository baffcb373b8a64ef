use Rattle.std.proofs.Common.{arith}
use Rattle.ctd_states.proofs.NamedValues.{values_all_replaced, values_replaced}
use Rattle.ctd_states.proofs.value.replace_value.Goals as goal

pub loop-i-preserved : goal.loop-i-preserved
loop-i-preserved c = values_replaced c.args.names.now c.args.entries.now c.loop-i.entries c.args.name.now c.name_at.result.now c.args.value _ _ c.loop-i.i (omega arith) c.name_at.ensures c.with_value.ensures c.loop-i.invariant

pub returns : goal.returns
returns c = values_all_replaced c.args.names.now c.args.entries.now c.loop-i.entries c.args.name.now c.args.value c.loop-i.i c.loop-i-test.false c.loop-i.invariant
