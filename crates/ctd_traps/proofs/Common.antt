-- What the proofs take from elsewhere.
pub use Rattle.ctd_check.proofs.Running.{place_is}
pub use Rattle.ctd_check.specs.Loops.{Guard, Task, finish, guard_of, start, take_turn, tasks, tasks_before_turn, times, turn, turn_tasks, while_true}
pub use Rattle.ctd_check.specs.Run.{RunResult, all_done, at_start, command, perform, resume, run, run_from, simple, site_of, stopped, with_steps}
pub use Rattle.ctd_check.specs.calls.BigSteps.{IsSimple, is_assert, is_eof, is_int, is_newline, is_regex, is_set, is_space, is_string, is_unset, separator_before}
pub use Rattle.ctd_check.specs.calls.Loops.{loop_of}
pub use Rattle.ctd_check.specs.calls.Run.{place_of}
pub use Rattle.ctd_check.specs.inner.Loops.{count_turn}
pub use Rattle.ctd_command.specs.Blanks.{end, first_skip, is_blank, newline, skip_blanks, some_blanks, space}
pub use Rattle.ctd_command.specs.Commands.{answer, assert, assign_key, decide, eof, give_value, int, integer, keep, match_bytes, one_byte, set, set_to, string, unset_all}
pub use Rattle.ctd_command.specs.Integer.{digits_of, digits_value, in_interval, is_minus, is_zero_first, judge, prefix_len_of, with_sign}
pub use Rattle.ctd_command.specs.Regex.{leading_match, regex, shorter_match}
pub use Rattle.ctd_command.specs.State.{Act, Effect, done, evaluate, faulty, lift, pass, proceed, reject, rejected, return, see_next, stop}
pub use Rattle.ctd_command.specs.inner.Blanks.{blank_next, end_in, newline_in, space_in, start_in}
pub use Rattle.ctd_limits.specs.calls.Known.{IsKnown}
pub use Rattle.ctd_limits.specs.declared.known.ValueLimits.{ValueLimits}
pub use Rattle.ctd_outcome.specs.declared.outcome.Outcome.TheVariants.{Accepted, Stopped}
pub use Rattle.ctd_outcome.specs.declared.outcome.Outcome.{Outcome}
pub use Rattle.ctd_outcome.specs.declared.outcome.Site.TheVariants.{At, Start}
pub use Rattle.ctd_outcome.specs.declared.outcome.Site.{Site}
pub use Rattle.ctd_outcome.specs.declared.reason.Fault.TheVariants.{Count, MatchTooLong, Shape, StepLimit, Undefined, WrongType}
pub use Rattle.ctd_outcome.specs.declared.reason.Fault.{Fault}
pub use Rattle.ctd_outcome.specs.declared.reason.Reason.TheVariants.{AssertFailed, ExpectedEof, ExpectedInt, ExpectedNewline, ExpectedSpace, LeadingZero, MinusZero, OutOfRange, StringMismatch}
pub use Rattle.ctd_outcome.specs.declared.reason.Reason.{Reason}
pub use Rattle.ctd_partitions.specs.calls.Partitions.{OneStands, PartitionIsWithin, IsInPartition, IsUpperBound}
pub use Rattle.ctd_partitions.specs.calls.States.{IsCopyOf, IsPinnedBy, IsStateWithin, PaysOne, StateStands}
pub use Rattle.ctd_partitions.specs.inner.States.{IsNever}
pub use Rattle.ctd_partitions.specs.declared.state.State.{State as AbstractState}
pub use Rattle.ctd_pattern.specs.Pattern.{length_at_start}
pub use Rattle.ctd_program.proofs.Trees.{boxed_element, choice_tree, list_commands, loop_tree}
pub use Rattle.ctd_program.specs.Tree.{CommandList, CommandTree, ExprList, ExprTree, GuardTree, Separator, TestTree, VarTree}
pub use Rattle.ctd_program.specs.calls.View.{action_tree, assignment, assignments_of, boxed_target, command_list, command_tree, command_trees, commands_of, expr_list, expr_tree, exprs_of, guard_tree, names_of, target, test_tree, var_tree}
pub use Rattle.ctd_program.specs.declared.mode.Mode.TheVariants.{BlanksOk, Exact}
pub use Rattle.ctd_program.specs.declared.mode.Mode.{Mode}
pub use Rattle.ctd_program.specs.declared.preset.Preset.{Preset}
pub use Rattle.ctd_program.specs.declared.preset.PresetValue.{PresetValue}
pub use Rattle.ctd_program.specs.declared.tree.Action.TheVariants.{If}
pub use Rattle.ctd_program.specs.declared.tree.Action.{Action}
pub use Rattle.ctd_program.specs.declared.tree.Assignment.{Assignment}
pub use Rattle.ctd_program.specs.declared.tree.Assignments.{Assignments}
pub use Rattle.ctd_program.specs.declared.tree.Choice.{Choice, out-Choice}
pub use Rattle.ctd_program.specs.declared.tree.Command.{Command}
pub use Rattle.ctd_program.specs.declared.tree.Commands.{Commands}
pub use Rattle.ctd_program.specs.declared.tree.Compare.{Compare}
pub use Rattle.ctd_program.specs.declared.tree.Element.{Element}
pub use Rattle.ctd_program.specs.declared.tree.Expr.{Expr}
pub use Rattle.ctd_program.specs.declared.tree.IntArguments.{IntArguments}
pub use Rattle.ctd_program.specs.declared.tree.Loop.{out-Loop}
pub use Rattle.ctd_program.specs.declared.tree.Names.{Names}
pub use Rattle.ctd_program.specs.declared.tree.RegexArguments.{RegexArguments}
pub use Rattle.ctd_program.specs.declared.tree.Test.{Test}
pub use Rattle.ctd_program.specs.declared.tree.Var.{Var}
pub use Rattle.ctd_program.specs.inner.View.{boxed_separator}
pub use Rattle.ctd_range.specs.calls.Ranges.{IsIn, Relates}
pub use Rattle.ctd_range.specs.declared.range.Range.{Range}
pub use Rattle.ctd_range.specs.inner.Ranges.{IsCount}
pub use Rattle.ctd_source.specs.TestData.{TestData, is_byte, look, next_byte, visible}
pub use Rattle.ctd_source.specs.declared.limits.TheConstants.{WINDOW}
pub use Rattle.ctd_source.specs.declared.spot.LookFault.{LookFault}
pub use Rattle.ctd_source.specs.declared.spot.Spot.{Spot}
pub use Rattle.ctd_states.proofs.NamedValues.{values_push}
pub use Rattle.ctd_states.proofs.Results.{if_ok_both, if_ok_more}
pub use Rattle.ctd_states.proofs.Standing.{each_changed, each_push, each_same}
pub use Rattle.ctd_states.specs.calls.Changed.{AssignsAlone, AssignsElements, Clears, PaysStep, with_value}
pub use Rattle.ctd_states.specs.calls.Faults.{IsAmong, IsOfKind}
pub use Rattle.ctd_states.specs.calls.States.{EachStands, MayBe, MayHave, NameStands, NamedValue, PinsStand, Tells, at_key, entries_in, named_values, pins_alone, pins_in}
pub use Rattle.ctd_states.specs.declared.assign.Context.{Context}
pub use Rattle.ctd_states.specs.declared.faults.Faults.{Faults}
pub use Rattle.ctd_states.specs.declared.faults.TrapKind.{TrapKind}
pub use Rattle.ctd_states.specs.declared.stop.Stop.{Stop}
pub use Rattle.ctd_states.specs.declared.value.AbstractValue.{AbstractValue}
pub use Rattle.ctd_states.specs.declared.value.Lengths.{Lengths}
pub use Rattle.ctd_states.specs.declared.value.PossibleValues.{PossibleValues}
pub use Rattle.ctd_store.proofs.StoreLaws.{assignment_keeps_pins}
pub use Rattle.ctd_store.specs.Store.{Array, Bindings, Key, Variables, assign, initial, unset, value_at, value_of, value_under, values_of, with_pin}
pub use Rattle.ctd_store.specs.declared.value.Value.{Value}
pub use Rattle.ctd_store.specs.inner.Store.{pins_of}
pub use Rattle.ctd_token.specs.declared.text.Place.{Place}
pub use Rattle.ctd_transfer.specs.calls.Acts.{ActsKeep, ActsTo, Does, Fits, IsPlain, StaysIn}
pub use Rattle.ctd_transfer.specs.calls.Results.{FailsBy, IsPossible, as_number}
pub use Rattle.ctd_transfer.specs.calls.Tests.{Divides, DividesTo}
pub use Rattle.ctd_transfer.specs.calls.Values.{Assigns, Evaluates, Expects, IsAssigned, IsEvaluated}
pub use Rattle.ctd_transfer.specs.declared.answer.SplitStates.{SplitStates}
pub use Rattle.ctd_transfer.specs.declared.expression.Evaluation.{Evaluation}
pub use Rattle.ctd_transfer.specs.declared.result.PossibleResult.{PossibleResult}
pub use Rattle.ctd_transfer.specs.declared.transfer.StatesAfter.{StatesAfter}
pub use Rattle.ctd_transfer.specs.declared.variable.StateAfter.{StateAfter}
pub use Rattle.ctd_traps.specs.calls.Collector.{Adds}
pub use Rattle.ctd_traps.specs.calls.Commands.{all_commands, commands_within, separator_commands}
pub use Rattle.ctd_traps.specs.calls.Events.{Comes, Event, Events, Happens, HasEachEvent, NeverHappens, PlacedEvent, answers, assert_answers, at_once, begins, by_step, command_begins, command_finds, command_goes_on, end_finds, event_of, event_of_kind, events_of, fails, finds, if_answers, program_end, task_fails, turn_answers, turn_finds}
pub use Rattle.ctd_traps.specs.calls.Laws.{ComesAsItRuns, EachEndIsReached, EndsAt, IsAt}
pub use Rattle.ctd_traps.specs.calls.Traps.{HasEachTrap, IsOfValue, PlacedFault, fault_of, fault_of_kind, faults_of}
pub use Rattle.ctd_traps.specs.declared.joined.JoinedState.{JoinedState}
pub use Rattle.ctd_traps.specs.declared.joined.JoinedStates.{JoinedStates}
pub use Rattle.ctd_traps.specs.declared.joined.Moment.{Moment}
pub use Rattle.ctd_traps.specs.declared.note.EventKind.{EventKind}
pub use Rattle.ctd_traps.specs.declared.note.Note.{Note}
pub use Rattle.ctd_traps.specs.declared.note.Noted.{Noted}
pub use Rattle.ctd_traps.specs.declared.passage.Passage.{Passage}
pub use Rattle.ctd_traps.specs.declared.trap.Trap.{Trap}
pub use Rattle.ctd_traps.specs.declared.turn.Counting.{Counting}
pub use Rattle.ctd_traps.specs.declared.turn.LoopStart.{LoopStart}
pub use Rattle.ctd_traps.specs.declared.turn.Phase.{Phase}
pub use Rattle.ctd_traps.specs.declared.start.Turns.{Turns}
pub use Rattle.ctd_traps.specs.inner.Absent.{AreAbsent, HasAll, has_key, key_of}
pub use Rattle.ctd_traps.specs.inner.Holds.{AreListed, ArePart, Holds, PinsAreIn}
pub use Rattle.ctd_traps.specs.inner.Joined.{AreWithin, Describes, IsAdded, IsFound, IsOf, IsWithin, OneDescribes}
pub use Rattle.ctd_traps.specs.inner.Listed.{trees_in}
pub use Rattle.ctd_traps.specs.inner.Noted.{AreNoted, BeginsBy, BegunIn, FoundIn, IsPart, NotedIn, noted_in}
pub use Rattle.ctd_traps.specs.inner.Passages.{BegunFrom, IsEither, IsJoined, IsOneOf, IsSameOrNone, Passes, PassesOnceBegun}
pub use Rattle.ctd_traps.specs.inner.PostFixpoint.{Candidate, InTurn, IsPostFixpoint}
pub use Rattle.ctd_traps.specs.inner.Sparing.{Spares, SparesAll, SparesBetween, SparesEach, SparesLoop, SparesNames, SparesTarget, SparesTurns, SparesVariable}
pub use Rattle.ctd_traps.specs.inner.Triples.{Before, CommandLeads, GoesOn, Leads, Leaves, LoopLeads, Safe, Splits, TurnLeads}
pub use Rattle.ctd_traps.specs.inner.Unrolled.{BeginsAt, SeparatesAt, TurnKeeps, TurnsKeep, started_of}
pub use Rattle.ctd_traps.specs.inner.Walk.{AreBranches, AreCounted, Asks, BeginsLater, ByTurn, Enters, HasNumber, HasTurns, HoldsBeside, IsBegun, IsBehind, IsFreeName, IsGuard, IsSpared, IsTurn, Lasts, RoundKeeps, SeparatorKeeps, StartsIn, StepKeeps, Unchanged, WalkKeeps, choice_at, later_turn, loop_at}
pub use Rattle.ctd_value.specs.Arithmetic.{in_range}
pub use Rattle.ctd_value.specs.Fault.{fault_of_look, with_fault, ◌>>=◌}
pub use Rattle.ctd_value.specs.Truth.{compares, holds_by, truth, uniqueness, value_in_array}
pub use Rattle.ctd_value.specs.Val.{arithmetic, count, in_count, key, number_of, text_of, val, vals}
pub use Rattle.ctd_value.specs.inner.Truth.{is_end, is_one_of}
pub use Rattle.ctd_value.specs.inner.Val.{value_or_undefined}
pub use Rattle.std.proofs.Common.{Bool, Contains, Err, IfOk, IfSome, List, None, Ok, Option, Result, Some, [], ap, append_assoc, ap₂, arith, drop, false, fold, get_or, if◌then◌else◌, inl, inr, int_le, le_refl, le_trans, length, length-take, map, nat_eq, nat_lt, neg_ℤ, negsuc, not, pos, refl, rules, subst, suc, sym, take, true, zero, ℕ, ℤ, ◌&&◌, ◌*◌, ◌++◌, ◌+◌, ◌<ℤ◌, ◌<◌, ◌==◌, ◌^◌, ◌∙◌, ◌∷◌, ◌≡◌, ◌≢◌, ◌≤ℤ◌, ◌≤◌, ◌⊎◌}
pub use Rattle.std.proofs.lemmas.Bool.Decides.{nat_tests}
pub use Rattle.std.proofs.lemmas.Cmp.{int_ranked}
pub use Rattle.std.proofs.lemmas.Grind.{common_steps}
pub use Rattle.std.proofs.lemmas.Int.{ints, to_z-of_z}
pub use Rattle.std.proofs.lemmas.List.Elements.{Contains-append_cases, Contains-append_left, Contains-append_right, Contains-push, Contains-push_cases}
pub use Rattle.std.proofs.lemmas.List.{at_drop_more, drop_all, with_items_is}
pub use Rattle.std.specs.Borrow.{Bor}
pub use Rattle.std.specs.Global.{Box, Vec}
pub use Rattle.std.specs.Int.RustNames.{FitsSigned}
pub use Rattle.std.specs.Int.{w128}
pub use Rattle.std.specs.List.{prefix_len}
pub use Rattle.std.specs.Option.{ok_or, option_or}
pub use Rattle.std.specs.Ordering.{MatchOrdering, int_cmp}
pub use Rattle.std.specs.Prelude.{cond, ⊤}
pub use Rattle.std.specs.Vec.{with_items}
pub use Rattle.std.specs.declared.cmp.Ordering.{Ordering}
