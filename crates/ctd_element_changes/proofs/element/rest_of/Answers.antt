use Rattle.ctd_elements.specs.declared.fact.Side.TheVariants as sides
use Rattle.ctd_element_changes.proofs.Giving.{leaves_by}
use Rattle.ctd_element_changes.proofs.element.rest_of.Goals as goal

pub returns-in_ok-rest_of_interval-in-Some : goal.returns-in_ok-rest_of_interval-in-Some
returns-in_ok-rest_of_interval-in-Some c = leaves_by c.args.state c.args.side (sides.Between c.in_ok-rest_of_interval-in-Some.field-0) c.in-Between.s c.args.at c.in-Some.number c.in-Between.is c.in-Some.ensures c.in_ok-rest_of_interval-in-Some.ensures
