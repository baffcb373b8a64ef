use Rattle.ctd_outcome.specs.declared.reason.Reason.TheVariants.{AssertFailed}
use Rattle.ctd_command.proofs.Acts.{and_then, early_by, given, rejecting}
use Rattle.ctd_command.proofs.machine.Run.any_assert.Goals as goal

pub returns-in_err-any_answer : goal.returns-in_err-any_answer
returns-in_err-any_answer g c = record { performs = early_by _ _ c.from_residual.ensures c.in_err-any_answer.ensures.performs }

pub returns-then-not-branch : goal.returns-then-not-branch
returns-then-not-branch g c = record { performs = and_then _ c.in_ok-any_answer.ensures.performs (rw (c.if-not-branch.true, c.rejected.ensures) (rejecting c.any_answer.new.self AssertFailed)) }

pub returns : goal.returns
returns g c = record { performs = and_then _ c.in_ok-any_answer.ensures.performs (rw c.if-not-branch.false (given c.any_answer.new.self tt c.in_ok-any_answer.ensures.performs.sound)) }
