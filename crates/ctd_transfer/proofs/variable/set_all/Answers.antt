use Rattle.ctd_transfer.proofs.Common.{assignment, map}
use Rattle.ctd_transfer.proofs.Acting.{set_from_copy}
use Rattle.ctd_transfer.proofs.Rows.{set_done, set_step}
use Rattle.ctd_transfer.proofs.variable.set_all.Goals as goal

pub loop-a-init : goal.loop-a-init
loop-a-init c = set_from_copy c.args.context c.args.state.now c.in_ok-after.after c.no_faults-faults.result (map assignment c.args.assignments.now) c.in_ok-after.ensures

pub loop-a-preserved : goal.loop-a-preserved
loop-a-preserved c =
    let own = c.in_ok-own.own in
    set_step c.args.context c.args.state.now c.loop-a.after own.after c.loop-a.faults c.union-faults.result own.faults c.args.assignments.now c.loop-a.a-index c.a-item.result c.loop-a-test.true c.a-item.is c.in_ok-own.ensures c.union-faults.ensures.first c.union-faults.ensures.second c.loop-a.invariant

pub returns : goal.returns
returns c = set_done c.args.context c.args.state.now c.loop-a.after c.loop-a.faults c.args.assignments.now c.loop-a.a-index c.loop-a-test.false c.loop-a.invariant
