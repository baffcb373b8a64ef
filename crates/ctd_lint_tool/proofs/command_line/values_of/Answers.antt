use Rattle.ctd_lint_tool.proofs.Common.{found_of, raw_values-rows, ◌∙◌}
use Rattle.ctd_lint_tool.proofs.command_line.values_of.Goals as goal

pub returns : goal.returns
returns c = c.get_strs.ensures ∙ raw_values-rows (found_of c.args.matches.now) c.args.name.now
