use Rattle.ctd_findings.proofs.Common.{drop, expr_list, ◌≡◌}
use Rattle.ctd_findings.proofs.same.+same.Given as goal

abbrev pub invariant-are_same-loop-x : goal.invariant-are_same-loop-x
invariant-are_same-loop-x l = expr_list (drop l.x-index l.a) ≡ expr_list l.left → expr_list l.a ≡ expr_list l.b
