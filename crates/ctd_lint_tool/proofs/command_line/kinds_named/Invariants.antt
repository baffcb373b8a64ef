use Rattle.ctd_lint_tool.proofs.Common.{Some, drop, first_unknown, lint_kind_named, map, take, ◌≡◌}
use Rattle.ctd_lint_tool.proofs.command_line.kinds_named.Given as goal

abbrev pub invariant-loop-name : goal.invariant-loop-name
invariant-loop-name l = record {
  kinds : map Some l.kinds.items ≡ map lint_kind_named (map (λ n. n.now) (take l.name-index l.names));
  unknown : first_unknown (map (λ n. n.now) (drop l.name-index l.names)) ≡ first_unknown (map (λ n. n.now) l.names);
}
