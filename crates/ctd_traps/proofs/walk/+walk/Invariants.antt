use Rattle.ctd_traps.proofs.Common.{AreNoted, IfSome, IsPart, Passage, PassesOnceBegun, command_trees, drop}
use Rattle.ctd_traps.proofs.Unrolling.{UnrollLeads}
use Rattle.ctd_traps.proofs.Walking.{WalkLeads}
use Rattle.ctd_traps.proofs.walk.+walk.Given as goal

abbrev pub invariant-walk-loop-command : goal.invariant-walk-loop-command
invariant-walk-loop-command l = record {
  more : IsPart l.context l.initial.noted l.noted;
  leads : WalkLeads l.context l.initial.after.items l.after.items l.noted (command_trees (drop l.command-index l.commands)) (command_trees l.commands);
}

abbrev pub invariant-unroll-loop-k : goal.invariant-unroll-loop-k
invariant-unroll-loop-k l = record {
  start : AreNoted l.inside l.place l.counting.turns.faults;
  leads : UnrollLeads l.context l.states l.before.items l.after.items l.inside l.place l.repeated l.counting l.k;
}

abbrev pub invariant-search-loop-round : goal.invariant-search-loop-round
invariant-search-loop-round l = IfSome l.found (λ (p : Passage). PassesOnceBegun l.context l.begun l.place l.repeated p)
