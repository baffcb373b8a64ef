use Rattle.ctd_check.specs.inner.FrameTasks.{to_do}
use Rattle.ctd_check.proofs.Running.{start_done, start_failed}
use Rattle.ctd_check.proofs.run.run_program.Goals as goal

pub returns-in-Ok-clause-ends : goal.returns-in-Ok-clause-ends
returns-in-Ok-clause-ends g c = start_done c.args.run.now c.first_skip.new.self c.run_tasks.new.run c.args.stack.now.left c.run_tasks.new.stack.left (to_do c.args.stack.now.frames.items) c.run_tasks.result c.in-Ok.ensures.performs c.run_tasks.ensures.ends

pub returns-in-Err-clause-ends : goal.returns-in-Err-clause-ends
returns-in-Err-clause-ends g c = start_failed c.args.run.now c.first_skip.new.self c.args.stack.now.left (to_do c.args.stack.now.frames.items) c.spot-spot.result c.of.result c.in-Err.failure c.spot-spot.ensures c.of.ensures c.in-Err.ensures.performs
