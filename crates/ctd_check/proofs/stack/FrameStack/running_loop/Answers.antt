use Rattle.std.proofs.Common.{ap, sym, ◌∙◌, arith}
use Rattle.std.proofs.lemmas.Grind.{common_steps}
use Rattle.ctd_check.specs.inner.FrameTasks.{top_loop}
use Rattle.ctd_check.proofs.Turns.{top_seen, loop_room}
use Rattle.ctd_check.proofs.stack.FrameStack.running_loop.Goals as goal

pub returns-in-Some-clause-value : goal.returns-in-Some-clause-value
returns-in-Some-clause-value c = c.as_ref.ensures.value ∙ sym (top_seen c.as_slice.result.now c.in-Some.frame.now c.in-Some.ensures.value) ∙ ap top_loop c.as_slice.ensures.value

pub returns-in-Some-clause-room : goal.returns-in-Some-clause-room
returns-in-Some-clause-room c =
    loop_room c.args.self.now.left c.args.self.now.frames.items c.as_ref.result (c.as_ref.ensures.value ∙ sym (top_seen c.as_slice.result.now c.in-Some.frame.now c.in-Some.ensures.value) ∙ ap top_loop c.as_slice.ensures.value) c.args.self.now.fits

pub returns-in-None-clause-value : goal.returns-in-None-clause-value
returns-in-None-clause-value c = grind (arith, common_steps)
