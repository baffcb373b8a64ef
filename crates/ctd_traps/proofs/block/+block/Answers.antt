use Rattle.ctd_traps.proofs.Common.{all_commands, arith, boxed_separator, command_trees, common_steps, out-Loop, separator_commands}
use Rattle.ctd_traps.proofs.Additions.{adds_both}
use Rattle.ctd_traps.proofs.Trees.{within_loop, within_choice}
use Rattle.ctd_traps.proofs.block.+block.Goals as goal

pub list_within-returns-in-Loop : goal.list_within-returns-in-Loop
list_within-returns-in-Loop t c = record {
  adds = adds_both _ _ _ (separator_commands (boxed_separator (out-Loop c.deref.result.now).between)) (all_commands (command_trees c.as_slice.result.now)) _
      c.list_separator.ensures.adds c.list_block.ensures.adds
      (within_loop _ c.in-Loop.repeated c.deref.result.now c.args.command.now.place c.as_slice.result.now c.in-Loop.is c.deref.ensures c.as_slice.ensures);
}

pub list_within-returns-in-If : goal.list_within-returns-in-If
list_within-returns-in-If t c = record {
  adds = adds_both _ _ _ (all_commands (command_trees c.as_slice-in-If.result.now)) (all_commands (command_trees c.as_slice-in-If-2.result.now)) _
      c.list_block-in-If.ensures.adds c.list_block-in-If-2.ensures.adds
      (within_choice _ c.in-If.choice c.deref-in-If.result.now c.args.command.now.place c.as_slice-in-If.result.now c.as_slice-in-If-2.result.now c.in-If.is c.deref-in-If.ensures
      c.as_slice-in-If.ensures c.as_slice-in-If-2.ensures);
}

pub list_block-loop-i-preserved : goal.list_block-loop-i-preserved
list_block-loop-i-preserved t c = grind (arith, common_steps)

pub list_separator-returns-in-Some : goal.list_separator-returns-in-Some
list_separator-returns-in-Some t c = grind (arith, common_steps)
