use Rattle.ctd_lint_report.proofs.VerdictText.{verdict_every}
use Rattle.ctd_lint_report.proofs.traps.write_said.Goals as goal

pub returns : goal.returns
returns c = verdict_every c.write_every.result c.args.traps.now c.some_unconditional.result c.args.said.now.items c.write_every.new.text.items c.some_unconditional.ensures c.condition_of.result.now c.if-some_unconditional.false c.condition_of.ensures c.write_every.ensures
