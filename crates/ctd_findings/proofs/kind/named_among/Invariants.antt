use Rattle.ctd_findings.proofs.Common.{drop, named_among, ◌≡◌}
use Rattle.ctd_findings.proofs.kind.named_among.Given as goal

abbrev pub invariant-loop-kind : goal.invariant-loop-kind
invariant-loop-kind l = named_among (drop l.kind-index l.kinds) l.name ≡ named_among l.kinds l.name
