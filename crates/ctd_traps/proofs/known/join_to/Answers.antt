use Rattle.ctd_partitions.specs.calls.States.{IsCopyOf, IsStateWithin}
use Rattle.ctd_partitions.specs.declared.state.State.{State}
use Rattle.ctd_traps.proofs.Common.{None, Some, if_ok_both, if_ok_more}
use Rattle.ctd_traps.proofs.Knowing.{both_join, copy_joins}
use Rattle.ctd_traps.specs.inner.Knowing.{IsJoinOf}
use Rattle.ctd_traps.proofs.known.join_to.Goals as goal

pub returns-in-None : goal.returns-in-None
returns-in-None c = rw c.in-None.is (if_ok_more (λ (s : State). IsCopyOf c.args.state.now s) (λ (s : State). IsJoinOf c.args.context None c.args.state.now s) c.copy_of_state.result (λ s is. copy_joins c.args.context c.args.state.now s is) c.copy_of_state.ensures)

pub returns-in-Some : goal.returns-in-Some
returns-in-Some c = rw c.in-Some.is (if_ok_both (λ (s : State). IsStateWithin c.args.context c.in-Some.other s) (λ (s : State). IsStateWithin c.args.context c.args.state.now s) (λ (s : State). IsJoinOf c.args.context (Some c.in-Some.other) c.args.state.now s) c.join.result (λ s left right. both_join c.args.context c.in-Some.other c.args.state.now s left right) c.join.ensures.left c.join.ensures.right)
