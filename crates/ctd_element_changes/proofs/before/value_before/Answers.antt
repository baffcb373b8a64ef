use Rattle.ctd_element_changes.proofs.Common.{refl}
use Rattle.ctd_element_changes.proofs.Earlier.{other_value_was, own_value_some}
use Rattle.ctd_element_changes.proofs.before.value_before.Goals as goal

pub returns-then-is_name : goal.returns-then-is_name
returns-then-is_name c = own_value_some c.args.names.now c.args.name.now c.args.exact c.args.i (c.if-is_name.ensures.same refl)

pub returns-else-is_name : goal.returns-else-is_name
returns-else-is_name c = other_value_was c.args.names.now c.args.name.now c.args.exact c.args.i (c.if-is_name.ensures.other refl)
