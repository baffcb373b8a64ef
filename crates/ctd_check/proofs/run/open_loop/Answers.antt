use Rattle.ctd_check.specs.inner.FrameTasks.{frame_tasks}
use Rattle.ctd_check.specs.inner.Progress.{loop_at}
use Rattle.ctd_check.proofs.Running.{opens_none}
use Rattle.ctd_check.proofs.run.open_loop.Goals as goal

pub returns-in_err-frame-clause-opens : goal.returns-in_err-frame-clause-opens
returns-in_err-frame-clause-opens g c =
    opens_none c.args.run.now c.repeat.new.run _ _ (loop_at c.args.place c.args.parts.now) _ c.from_residual.result c.from_residual.ensures c.in_err-frame.ensures.performs

pub returns-clause-opens : goal.returns-clause-opens
returns-clause-opens g c = record {
  more = frame_tasks c.in_ok-frame.frame;
  performs = c.in_ok-frame.ensures.performs;
  comes_first = c.open.ensures.to_do;
}
