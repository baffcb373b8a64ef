use Rattle.std.proofs.Common.{rules}
use Rattle.ctd_command.proofs.digits.DigitSummary.judge.Goals as goal

pub returns : goal.returns
returns g c = search rules
