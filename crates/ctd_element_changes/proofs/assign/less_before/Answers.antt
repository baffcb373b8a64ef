use Rattle.ctd_element_changes.proofs.Assigned.{less_some}
use Rattle.ctd_element_changes.proofs.assign.less_before.Goals as goal

pub returns : goal.returns
returns c = less_some c.args.names.now c.args.name.now c.args.exact c.args.b c.in_ok-bound_before.field-0 c.args.by.add c.less.result c.in_ok-bound_before.ensures c.less.ensures
