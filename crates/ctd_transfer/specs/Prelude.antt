-- What the definitions take from elsewhere.
pub use Rattle.ctd_check.specs.calls.BigSteps.{IsSimple}
pub use Rattle.ctd_command.specs.Commands.{keep}
pub use Rattle.ctd_command.specs.State.{Act, Effect, State, done, faulty, rejected}
pub use Rattle.ctd_elements.specs.calls.Limits.{IsLimited}
pub use Rattle.ctd_elements.specs.declared.limits.Limits.{Limits}
pub use Rattle.ctd_limits.specs.calls.Known.{IsKnown}
pub use Rattle.ctd_limits.specs.declared.known.ValueLimits.{ValueLimits}
pub use Rattle.ctd_outcome.specs.declared.reason.Fault.{Fault}
pub use Rattle.ctd_partitions.specs.calls.Partitions.{OneStands, PartitionIsWithin}
pub use Rattle.ctd_partitions.specs.calls.States.{StateStands}
pub use Rattle.ctd_partitions.specs.declared.state.State.{State as AbstractState}
pub use Rattle.ctd_program.specs.Tree.{CommandTree, ExprList, ExprTree, TestTree, VarTree}
pub use Rattle.ctd_program.specs.declared.tree.Compare.{Compare}
pub use Rattle.ctd_program.specs.declared.tree.Expr.{Expr}
pub use Rattle.ctd_program.specs.declared.tree.Expr.TheVariants.{Add', Div', Element', Minus', Mul', Name, Numeral, Pow', Rem', Strlen', Sub', Text}
pub use Rattle.ctd_range.specs.calls.Ranges.{Covers, IsIn, Relates}
pub use Rattle.ctd_range.specs.declared.arithmetic.Computed.{Computed}
pub use Rattle.ctd_range.specs.declared.range.Range.{Range}
pub use Rattle.ctd_source.specs.TestData.{TestData}
pub use Rattle.ctd_states.specs.calls.Faults.{IsAmong}
pub use Rattle.ctd_states.specs.calls.States.{MayBe, PinsStand, pins_in}
pub use Rattle.ctd_states.specs.declared.assign.Context.{Context}
pub use Rattle.ctd_states.specs.declared.faults.Faults.{Faults}
pub use Rattle.ctd_states.specs.declared.value.PossibleValues.{PossibleValues}
pub use Rattle.ctd_store.specs.Store.{Bindings, Variables, assign, unset}
pub use Rattle.ctd_store.specs.declared.value.Value.{Value}
pub use Rattle.ctd_transfer.specs.declared.variable.StateAfter.{StateAfter}
pub use Rattle.ctd_transfer.specs.declared.condition.SplitState.{SplitState}
pub use Rattle.ctd_transfer.specs.declared.answer.SplitStates.{SplitStates}
pub use Rattle.ctd_transfer.specs.declared.expression.Evaluation.{Evaluation}
pub use Rattle.ctd_transfer.specs.declared.indices.Indices.{Indices}
pub use Rattle.ctd_transfer.specs.declared.result.Operator.{Operator}
pub use Rattle.ctd_transfer.specs.declared.result.PossibleResult.{PossibleResult}
pub use Rattle.ctd_value.specs.Arithmetic.{in_range, power, quotient, remainder}
pub use Rattle.ctd_value.specs.Truth.{truth}
pub use Rattle.ctd_value.specs.Val.{key, number, text, val, vals}
