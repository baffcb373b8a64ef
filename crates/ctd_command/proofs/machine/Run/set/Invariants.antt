use Rattle.std.proofs.Common.{◌≡◌, drop, map}
use Rattle.ctd_source.specs.calls.Received.{AdvancesSuchThat}
use Rattle.ctd_program.specs.calls.View.{assignment}
use Rattle.ctd_command.specs.Commands.{set}
use Rattle.ctd_command.specs.calls.Performs.{IsSound, state}
use Rattle.ctd_command.proofs.machine.Run.set.Given as goal

-- the assignments that are left are what is left of all
abbrev pub invariant-loop-assignment : goal.invariant-loop-assignment
invariant-loop-assignment g l = record {
  sound : IsSound l.self;
  goes : AdvancesSuchThat l.initial.self.cursor l.self.cursor (λ d. set (map assignment l.assignments) d (state l.initial.self) ≡ set (map assignment (drop l.assignment-index l.assignments)) d (state l.self));
}
