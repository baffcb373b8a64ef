use Rattle.std.proofs.Common.{rules}
use Rattle.ctd_loader.proofs.plan.pattern_fault.Goals as goal

pub returns-in-NotText : goal.returns-in-NotText
returns-in-NotText c = search rules
