use Rattle.std.proofs.Common.{rules}
use Rattle.ctd_elements.proofs.Common.{name_is, no_name_is}
use Rattle.ctd_elements.proofs.names.name_at.Goals as goal

pub returns-in-Some : goal.returns-in-Some
returns-in-Some c = search (rules, name_is)

pub returns-in-None : goal.returns-in-None
returns-in-None c = search (rules, no_name_is)
