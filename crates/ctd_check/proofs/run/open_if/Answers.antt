use Rattle.std.proofs.Common.{arith, ap, sym, ◌∙◌, ◌++◌}
use Rattle.ctd_program.specs.calls.Blocks.{list_blocks}
use Rattle.ctd_program.specs.declared.tree.Choice.{out-Choice}
use Rattle.ctd_program.specs.calls.View.{command_list, command_trees, test_tree}
use Rattle.ctd_program.proofs.Trees.{list_commands}
use Rattle.ctd_command.proofs.Acts.{performs_as}
use Rattle.ctd_check.specs.Loops.{choice, tasks}
use Rattle.ctd_check.specs.inner.FrameTasks.{all_to_do}
use Rattle.ctd_check.specs.inner.Progress.{if_at}
use Rattle.ctd_check.proofs.Running.{opens_none}
use Rattle.ctd_check.proofs.run.open_if.Goals as goal

pub returns-in_err-picked-clause-opens : goal.returns-in_err-picked-clause-opens
returns-in_err-picked-clause-opens g c place =
    let parts = out-Choice c.args.parts.now in
    opens_none c.args.run.now c.choose.new.run _ _ (if_at place c.args.parts.now) _ c.from_residual.result c.from_residual.ensures
    (performs_as (λ d s. ap (λ t. choice (test_tree t) (command_list parts.then_do) (command_list parts.else_do) d s) c.deref.ensures) c.in_err-picked.ensures.performs)

pub returns-clause-opens : goal.returns-clause-opens
returns-clause-opens g c place =
    let parts = out-Choice c.args.parts.now in
    record {
      more = tasks (command_list c.in_ok-picked.picked.now);
      performs = performs_as (λ d s. ap (λ t. choice (test_tree t) (command_list parts.then_do) (command_list parts.else_do) d s) c.deref.ensures) c.in_ok-picked.ensures.performs;
      comes_first = c.take_up.ensures.to_do ∙ ap (λ ts. ts ++ all_to_do c.args.list.now.now c.args.stack.now.frames.items) (ap tasks (ap command_trees c.as_slice.ensures ∙ sym (list_commands c.in_ok-picked.picked.now)));
    }

pub take_up-requires-clause-room : goal.take_up-requires-clause-room
take_up-requires-clause-room g c =
    let same = ap list_blocks (ap command_trees c.as_slice.ensures ∙ sym (list_commands c.in_ok-picked.picked.now)) in
    omega (arith, same, c.in_ok-picked.ensures.room, c.requires.room)
