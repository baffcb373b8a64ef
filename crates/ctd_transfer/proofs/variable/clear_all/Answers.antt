use Rattle.ctd_transfer.proofs.Acting.{clear_from_copy}
use Rattle.ctd_transfer.proofs.Rows.{clear_done, clear_step}
use Rattle.ctd_transfer.proofs.variable.clear_all.Goals as goal

pub loop-name-init : goal.loop-name-init
loop-name-init c = clear_from_copy c.args.context c.args.state.now c.in_ok-after.after c.args.names.now c.in_ok-after.ensures

pub loop-name-preserved : goal.loop-name-preserved
loop-name-preserved c = clear_step c.args.context c.args.state.now c.loop-name.after c.in_ok-after-2.after c.args.names.now c.loop-name.name-index c.name-item.result c.as_slice.result.now c.as_slice.ensures.whole c.loop-name-test.true c.name-item.is c.in_ok-after-2.ensures c.loop-name.invariant

pub returns : goal.returns
returns c = clear_done c.args.context c.args.state.now c.loop-name.after c.args.names.now c.loop-name.name-index c.loop-name-test.false c.loop-name.invariant
