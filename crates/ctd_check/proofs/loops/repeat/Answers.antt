use Rattle.ctd_command.proofs.Acts.{and_then, early_map_ok, given_as}
use Rattle.ctd_check.specs.inner.FrameTasks.{frame_tasks}
use Rattle.ctd_check.proofs.loops.repeat.Goals as goal

pub returns-in_err-guard-clause-performs : goal.returns-in_err-guard-clause-performs
returns-in_err-guard-clause-performs g c = early_map_ok frame_tasks _ _ c.from_residual.ensures c.in_err-guard.ensures.performs

pub returns-clause-performs : goal.returns-clause-performs
returns-clause-performs g c = and_then _ c.in_ok-guard.ensures.performs (given_as c.args.run.now _ _ c.loop_frame.ensures.tasks c.requires.sound)
