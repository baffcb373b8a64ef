use Rattle.ctd_lint_tool.proofs.Common.{YieldsList-from_str_split, lit<, map_from_collect}
use Rattle.ctd_lint_tool.proofs.command_line.parts_of.Goals as goal

pub returns : goal.returns
returns c = map_from_collect _ c.collect.ensures.ran (YieldsList-from_str_split 44 c.args.text.now (lit< tt) c.split.ensures.text c.split.ensures.has_more c.split.ensures.pattern)
