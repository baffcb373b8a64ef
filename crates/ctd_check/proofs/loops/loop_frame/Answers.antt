use Rattle.std.proofs.Common.{arith, ◌∷◌, [], ap, sym, ◌∙◌}
use Rattle.ctd_program.specs.calls.Blocks.{list_blocks, separator_blocks}
use Rattle.ctd_program.specs.calls.View.{command_trees, boxed_target}
use Rattle.ctd_program.specs.inner.View.{boxed_separator}
use Rattle.ctd_program.proofs.Trees.{list_commands}
use Rattle.ctd_check.specs.Loops.{turn}
use Rattle.ctd_check.specs.calls.Loops.{loop_of}
use Rattle.ctd_check.specs.inner.FrameTasks.{guard_in, separator_in}
use Rattle.ctd_check.proofs.loops.loop_frame.Goals as goal

pub returns-clause-tasks : goal.returns-clause-tasks
returns-clause-tasks c =
    let body = ap command_trees c.as_slice.ensures ∙ sym (list_commands c.args.body.now) in
    ap (λ v. turn (loop_of c.args.place (guard_in c.args.guard) v (separator_in c.unbox-between.result) (command_trees c.as_slice.result.now)) 0 ∷ []) c.unbox_counter-counter.ensures.same
    ∙ ap (λ s. turn (loop_of c.args.place (guard_in c.args.guard) (boxed_target c.args.counter.now) s (command_trees c.as_slice.result.now)) 0 ∷ []) c.unbox-between.ensures.same
    ∙ ap (λ b. turn (loop_of c.args.place (guard_in c.args.guard) (boxed_target c.args.counter.now) (boxed_separator c.args.between.now) b) 0 ∷ []) body

pub returns-clause-blocks : goal.returns-clause-blocks
returns-clause-blocks c =
    let body = ap command_trees c.as_slice.ensures ∙ sym (list_commands c.args.body.now) in
    omega (arith, ap separator_blocks c.unbox-between.ensures.same, ap list_blocks body)
