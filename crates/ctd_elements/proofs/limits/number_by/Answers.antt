use Rattle.ctd_elements.proofs.Differing.{limited_as_some}
use Rattle.ctd_elements.proofs.limits.number_by.Goals as goal

pub returns-in-Some : goal.returns-in-Some
returns-in-Some c = limited_as_some c.args.state c.args.limits c.in-Some.index c.number_of.result c.in-Some.is c.number_of.ensures
