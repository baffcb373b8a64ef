-- What the definitions take from elsewhere.
pub use Rattle.ctd_check.specs.Loops.{Guard, Loop as Started, Task, finish, guard_of, start, take_turn, tasks, times, turn, while_true}
pub use Rattle.ctd_check.specs.Run.{at_start, meaning, perform, run, site_of, stopped}
pub use Rattle.ctd_check.specs.calls.BigSteps.{IsSimple, separator_before}
pub use Rattle.ctd_check.specs.calls.Loops.{loop_of}
pub use Rattle.ctd_check.specs.calls.Run.{place_of}
pub use Rattle.ctd_check.specs.inner.Loops.{count_turn}
pub use Rattle.ctd_command.specs.Blanks.{first_skip}
pub use Rattle.ctd_command.specs.Commands.{answer, keep}
pub use Rattle.ctd_command.specs.State.{Act, Effect, State, done, faulty, rejected}
pub use Rattle.ctd_limits.specs.calls.Known.{IsKnown}
pub use Rattle.ctd_outcome.specs.declared.outcome.Outcome.TheVariants.{Accepted, Rejected, Stopped}
pub use Rattle.ctd_outcome.specs.declared.outcome.Outcome.{Outcome}
pub use Rattle.ctd_outcome.specs.declared.outcome.Site.TheVariants.{At}
pub use Rattle.ctd_outcome.specs.declared.outcome.Site.{Site}
pub use Rattle.ctd_outcome.specs.declared.reason.Fault.{Fault}
pub use Rattle.ctd_partitions.specs.calls.Partitions.{OneStands, PartitionIsWithin}
pub use Rattle.ctd_partitions.specs.calls.States.{StateStands}
pub use Rattle.ctd_partitions.specs.declared.state.State.{State as AbstractState}
pub use Rattle.ctd_program.specs.Tree.{CommandList, CommandTree, ExprList, ExprTree, GuardTree, Separator, TestTree, VarTree}
pub use Rattle.ctd_program.specs.calls.View.{boxed_target, command_list, command_tree, guard_tree, test_tree}
pub use Rattle.ctd_program.specs.declared.mode.Mode.{Mode}
pub use Rattle.ctd_program.specs.declared.preset.Preset.{Preset}
pub use Rattle.ctd_program.specs.declared.tree.Choice.{Choice, out-Choice}
pub use Rattle.ctd_program.specs.declared.tree.Loop.{out-Loop}
pub use Rattle.ctd_program.specs.inner.View.{boxed_separator}
pub use Rattle.ctd_range.specs.calls.Ranges.{IsIn}
pub use Rattle.ctd_range.specs.declared.range.Range.{Range}
pub use Rattle.ctd_source.specs.TestData.{TestData}
pub use Rattle.ctd_source.specs.declared.spot.Spot.{Spot}
pub use Rattle.ctd_states.specs.calls.Faults.{IsAmong}
pub use Rattle.ctd_states.specs.calls.States.{EachStands, MayBe, PinsStand, pins_in}
pub use Rattle.ctd_states.specs.declared.assign.Context.{Context}
pub use Rattle.ctd_states.specs.declared.faults.Faults.{Faults}
pub use Rattle.ctd_states.specs.declared.faults.TrapKind.{TrapKind}
pub use Rattle.ctd_states.specs.declared.value.AbstractValue.{AbstractValue}
pub use Rattle.ctd_states.specs.declared.value.PossibleValues.{PossibleValues}
pub use Rattle.ctd_store.specs.Store.{Bindings, Variables, assign, unset, value_at}
pub use Rattle.ctd_store.specs.declared.value.Value.{Value}
pub use Rattle.ctd_token.specs.declared.text.Place.{Place}
pub use Rattle.ctd_transfer.specs.calls.Acts.{Fits, StaysIn}
pub use Rattle.ctd_transfer.specs.declared.answer.SplitStates.{SplitStates}
pub use Rattle.ctd_traps.specs.declared.block.CommandInBlock.{CommandInBlock}
pub use Rattle.ctd_traps.specs.declared.collector.Collector.{Collector}
pub use Rattle.ctd_traps.specs.declared.joined.JoinedState.{JoinedState}
pub use Rattle.ctd_traps.specs.declared.joined.JoinedStates.{JoinedStates}
pub use Rattle.ctd_traps.specs.declared.joined.Moment.{Moment}
pub use Rattle.ctd_traps.specs.declared.note.EventKind.{EventKind}
pub use Rattle.ctd_traps.specs.declared.note.Note.{Note}
pub use Rattle.ctd_traps.specs.declared.note.Noted.{Noted}
pub use Rattle.ctd_traps.specs.declared.passage.Passage.{Passage}
pub use Rattle.ctd_traps.specs.declared.trap.Trap.{Trap}
pub use Rattle.ctd_traps.specs.declared.turn.Counting.{Counting}
pub use Rattle.ctd_traps.specs.declared.turn.LoopStart.{LoopStart}
pub use Rattle.ctd_traps.specs.declared.turn.Phase.{Phase}
pub use Rattle.ctd_traps.specs.declared.start.Turns.{Turns}
pub use Rattle.ctd_value.specs.Truth.{truth}
pub use Rattle.ctd_value.specs.Val.{count, key, number, text, val, vals}
pub use Rattle.std.specs.HashSet.{HashSet, contains}
pub use Rattle.std.specs.Ordering.{eq_of_both, on}
