use Rattle.ctd_program.specs.inner.View.{boxed_separator}
use Rattle.ctd_program.specs.calls.View.{command_trees}
use Rattle.ctd_program.specs.declared.tree.Loop.{out-Loop}
use Rattle.ctd_syntax.specs.inner.PatternLiterals.{separator_literals, literals}
use Rattle.ctd_loader.proofs.Listing.{loop_literals, choice_literals, listed_both}
use Rattle.ctd_loader.proofs.literals.+literals.Goals as goal

pub command_literals-returns-in_ok-separator_literals-in-Loop : goal.command_literals-returns-in_ok-separator_literals-in-Loop
command_literals-returns-in_ok-separator_literals-in-Loop t c = record {
  lists = listed_both c.list_literals.result _ _ _ (separator_literals (boxed_separator (out-Loop c.deref-in-Loop.result.now).between)) (literals (command_trees c.as_slice.result.now)) _ c.in_ok-separator_literals-in-Loop.ensures.lists c.list_literals.ensures.lists
      (loop_literals _ c.in-Loop.repeated c.deref-in-Loop.result.now c.args.command.now.place c.as_slice.result.now c.in-Loop.is c.deref-in-Loop.ensures c.as_slice.ensures);
}

pub command_literals-returns-in_ok-list_literals-in-If : goal.command_literals-returns-in_ok-list_literals-in-If
command_literals-returns-in_ok-list_literals-in-If t c = record {
  lists = listed_both c.list_literals-in-If-2.result _ _ _ (literals (command_trees c.as_slice-in-If.result.now)) (literals (command_trees c.as_slice-in-If-2.result.now)) _ c.in_ok-list_literals-in-If.ensures.lists c.list_literals-in-If-2.ensures.lists
      (choice_literals _ c.in-If.choice c.deref-in-If.result.now c.args.command.now.place c.as_slice-in-If.result.now c.as_slice-in-If-2.result.now c.in-If.is c.deref-in-If.ensures c.as_slice-in-If.ensures c.as_slice-in-If-2.ensures);
}
