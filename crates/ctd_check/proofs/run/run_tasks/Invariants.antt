use Rattle.std.proofs.Common.{◌≡◌, ◌≤◌, ◌+◌, ◌*◌, length}
use Rattle.ctd_source.specs.calls.Received.{AdvancesSuchThat}
use Rattle.ctd_command.specs.calls.Performs.{IsSound, state}
use Rattle.ctd_check.specs.Run.{run}
use Rattle.ctd_check.specs.inner.FrameTasks.{to_do, all_to_do, IsInHand}
use Rattle.ctd_check.proofs.run.run_tasks.Given as goal

-- the list in hand, and then what the frames have to do, are what is left of the whole
abbrev pub invariant-loop-command : goal.invariant-loop-command
invariant-loop-command g l = record {
  sound : IsSound l.run;
  spent : l.stack.left ≤ l.fn.stack.left;
  in_hand : IsInHand l.list l.stack.frames.items;
  goes : AdvancesSuchThat l.fn.run.cursor l.run.cursor (λ d. run d l.fn.stack.left (to_do l.fn.stack.frames.items) (state l.fn.run) ≡ run d l.stack.left (all_to_do l.list l.stack.frames.items) (state l.run));
}

abbrev pub decreases-loop-command : goal.decreases-loop-command
decreases-loop-command g l = 2 * l.stack.left + length l.stack.frames.items
