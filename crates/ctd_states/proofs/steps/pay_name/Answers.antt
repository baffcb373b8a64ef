use Rattle.std.proofs.Common.{rules}
use Rattle.ctd_states.proofs.Standing.{name_pays}
use Rattle.ctd_states.proofs.steps.pay_name.Goals as goal

pub returns : goal.returns
returns c = search (rules, name_pays)
