use Rattle.ctd_program.specs.calls.View.{command_list}
use Rattle.ctd_command.proofs.Acts.{and_then, early_map_ok, given}
use Rattle.ctd_check.specs.Loops.{tasks}
use Rattle.ctd_check.proofs.loops.choose.Goals as goal

pub returns-in_err-answer-clause-performs : goal.returns-in_err-answer-clause-performs
returns-in_err-answer-clause-performs g c = early_map_ok (λ list. tasks (command_list list.now)) _ _ c.from_residual.ensures c.in_err-answer.ensures.performs

pub returns-then-branch-clause-performs : goal.returns-then-branch-clause-performs
returns-then-branch-clause-performs g c =
    and_then _ c.in_ok-answer.ensures.performs (rw c.if-branch.true (given c.answer.new.self _ c.in_ok-answer.ensures.performs.sound))

pub returns-clause-performs : goal.returns-clause-performs
returns-clause-performs g c =
    and_then _ c.in_ok-answer.ensures.performs (rw c.if-branch.false (given c.answer.new.self _ c.in_ok-answer.ensures.performs.sound))
