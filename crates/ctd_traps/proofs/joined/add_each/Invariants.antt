use Rattle.ctd_traps.proofs.Common.{AreWithin, length}
use Rattle.ctd_traps.proofs.Joining.{LastOr}
use Rattle.ctd_traps.proofs.joined.add_each.Given as goal

abbrev pub invariant-loop-one : goal.invariant-loop-one
invariant-loop-one l = record {
  others : AreWithin l.context l.initial.states.items l.states.items;
  added : LastOr l.context l.more.items l.initial.more.items l.states.items;
}

-- each turn takes one
abbrev pub decreases-loop-one : goal.decreases-loop-one
decreases-loop-one l = length l.more.items
