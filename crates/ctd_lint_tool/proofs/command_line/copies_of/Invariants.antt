use Rattle.ctd_lint_tool.proofs.Common.{map, take, ◌≡◌}
use Rattle.ctd_lint_tool.proofs.command_line.copies_of.Given as goal

abbrev pub invariant-loop-name : goal.invariant-loop-name
invariant-loop-name l = l.copies.items ≡ map (λ n. n.now) (take l.name-index l.names)
