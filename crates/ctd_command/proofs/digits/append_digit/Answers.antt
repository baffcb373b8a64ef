use Rattle.std.proofs.Common.{rules}
use Rattle.ctd_command.proofs.digits.append_digit.Goals as goal

pub returns-then-grown-lt-BEYOND : goal.returns-then-grown-lt-BEYOND
returns-then-grown-lt-BEYOND c = search rules
