use Rattle.std.proofs.Common.{drop}
use Rattle.ctd_element_changes.proofs.Joined.{RestLeads}
use Rattle.ctd_element_changes.proofs.join.all_follow.Given as goal

abbrev pub invariant-loop-fact : goal.invariant-loop-fact
invariant-loop-fact l = RestLeads l.state (drop l.fact-index l.facts) l.facts
