use Rattle.std.proofs.Common.{refl, arith, ap, ◌∙◌}
use Rattle.std.specs.Prelude.{map}
use Rattle.std.proofs.lemmas.List.{length-map}
use Rattle.ctd_program.specs.Tree
use Rattle.ctd_syntax.specs.inner.Front.{Always, IsBefore, IsPair, lexeme}
use Rattle.ctd_syntax.specs.Grammar.{IsTest, IsCommand, IsCommands}
use Rattle.ctd_syntax.specs.inner.TestGrammar.{test_ends}
use Rattle.ctd_syntax.specs.inner.CommandWords.{IsCommandRest, CommandsEnd, IsBlock, IsBranchEnd, IsLoopHead, IsLoopEnd, IsLoopRest}
use Rattle.ctd_token.specs.declared.token.Mark.TheVariants.{Close}
use Rattle.ctd_syntax.specs.declared.keyword.Keyword.TheVariants as words
use Rattle.ctd_syntax.proofs.StayFronts.{reads_as, refused_as, built, not_built, before_reads, word_reads, before_none, none_before, word_none, none_word, pair_reads, first_none, second_none, no_tree_as, counted_as}
use Rattle.ctd_syntax.proofs.CommandReads.{before_loop_end, before_branch_end, whatever, begins_at}
use Rattle.ctd_syntax.proofs.StayCommands.{opened_reads, opened_none, command_reads, command_none, commands_start, commands_next, commands_no_next, commands_end, loop_end_plain, loop_end_no_block, loop_end_separated, loop_end_no_separated, loop_end_other, branch_other, no_command, branch_ended, branch_goes_on, branch_no_block, not_opened, pair_of, before_of, some_test, some_branches, some_loop_end, some_branch_end, some_block}
use Rattle.ctd_program.specs.calls.View.{command_trees}
use Rattle.ctd_program.specs.declared.tree.Choice.{rolls-Choice'}
use Rattle.ctd_program.proofs.Trees.{list_commands, trees_then}
use Rattle.ctd_syntax.proofs.command.+command.Goals as goal

pub loop_command-returns-in-Err-clause-tree : goal.loop_command-returns-in-Err-clause-tree
loop_command-returns-in-Err-clause-tree t c = refused_as (IsLoopHead c.args.word) (IsLoopRest c.args.word c.args.place) (test_ends 1) Always (map lexeme c.args.tokens.now) (map lexeme c.args.tokens.now) c.in-Err.fault (λ left not. not_built (λ x. Tree.loop c.args.place x.0.1 x.0.0 x.1.0 x.1.1) (IsPair (IsLoopHead c.args.word) IsLoopEnd) Always (map lexeme c.args.tokens.now) left (first_none (IsLoopHead c.args.word) IsLoopEnd (test_ends 1) Always before_loop_end some_loop_end (map lexeme c.args.tokens.now) left not)) c.in-Err.ensures.tree

pub loop_command-returns-in-Err-loop_end-clause-tree : goal.loop_command-returns-in-Err-loop_end-clause-tree
loop_command-returns-in-Err-loop_end-clause-tree t c = refused_as IsLoopEnd (IsLoopRest c.args.word c.args.place) Always Always (map lexeme c.in-Ok.read.1.now) (map lexeme c.args.tokens.now) c.in-Err-loop_end.fault (λ left not. not_built (λ x. Tree.loop c.args.place x.0.1 x.0.0 x.1.0 x.1.1) (IsPair (IsLoopHead c.args.word) IsLoopEnd) Always (map lexeme c.args.tokens.now) left (second_none (IsLoopHead c.args.word) IsLoopEnd (test_ends 1) Always before_loop_end (map lexeme c.args.tokens.now) (map lexeme c.in-Ok.read.1.now) _ c.in-Ok.ensures.tree left not)) c.in-Err-loop_end.ensures.tree

pub loop_command-returns-in_ok-action-in-Ok-loop_end-clause-tree : goal.loop_command-returns-in_ok-action-in-Ok-loop_end-clause-tree
loop_command-returns-in_ok-action-in-Ok-loop_end-clause-tree t c = rw (c.in_ok-action-in-Ok-loop_end.ensures.tree c.args.place) (built (λ x. Tree.loop c.args.place x.0.1 x.0.0 x.1.0 x.1.1) (IsPair (IsLoopHead c.args.word) IsLoopEnd) Always (map lexeme c.args.tokens.now) (map lexeme c.in-Ok-loop_end.rest.now) _ (pair_reads (IsLoopHead c.args.word) IsLoopEnd (test_ends 1) Always before_loop_end (map lexeme c.args.tokens.now) (map lexeme c.in-Ok.read.1.now) (map lexeme c.in-Ok-loop_end.rest.now) _ _ c.in-Ok.ensures.tree c.in-Ok-loop_end.ensures.tree))

pub command_rest-returns-in-Rep-clause-tree : goal.command_rest-returns-in-Rep-clause-tree
command_rest-returns-in-Rep-clause-tree t c = rw c.in-Rep.is c.loop_command.ensures.tree

pub command_rest-returns-in-RepI-clause-tree : goal.command_rest-returns-in-RepI-clause-tree
command_rest-returns-in-RepI-clause-tree t c = rw c.in-RepI.is c.loop_command-in-RepI.ensures.tree

pub command_rest-returns-in-While-clause-tree : goal.command_rest-returns-in-While-clause-tree
command_rest-returns-in-While-clause-tree t c = rw c.in-While.is c.loop_command-in-While.ensures.tree

pub command_rest-returns-in-WhileI-clause-tree : goal.command_rest-returns-in-WhileI-clause-tree
command_rest-returns-in-WhileI-clause-tree t c = rw c.in-WhileI.is c.loop_command-in-WhileI.ensures.tree

pub branches-returns-in-Err-branch_end-clause-tree : goal.branches-returns-in-Err-branch_end-clause-tree
branches-returns-in-Err-branch_end-clause-tree t c = refused_as IsBranchEnd (IsPair IsCommands IsBranchEnd) Always Always (map lexeme c.in-Ok.read.1.now) (map lexeme c.args.tokens.now) c.in-Err-branch_end.fault (second_none IsCommands IsBranchEnd CommandsEnd Always before_branch_end (map lexeme c.args.tokens.now) (map lexeme c.in-Ok.read.1.now) _ c.in-Ok.ensures.tree) c.in-Err-branch_end.ensures.tree

pub branches-returns-clause-tree : goal.branches-returns-clause-tree
branches-returns-clause-tree t c = pair_reads IsCommands IsBranchEnd CommandsEnd Always before_branch_end (map lexeme c.args.tokens.now) (map lexeme c.in-Ok.read.1.now) (map lexeme c.in-Ok-branch_end.read.1.now) _ _ c.in-Ok.ensures.tree c.in-Ok-branch_end.ensures.tree

pub if_command-returns-in-Err-clause-tree : goal.if_command-returns-in-Err-clause-tree
if_command-returns-in-Err-clause-tree t c = no_tree_as (IsCommandRest words.If c.args.place) Always (map lexeme c.args.tokens.now) _ c.in-Err.fault c.in-Err.ensures.left (counted_as (IsCommandRest words.If c.args.place) Always (map lexeme c.args.tokens.now) _ _ (length-map c.args.tokens.now lexeme) (not_opened (λ x. Tree.choice c.args.place x.0 x.1.0 x.1.1) (IsPair (IsBefore Close IsTest) (IsPair IsCommands IsBranchEnd)) Always (pair_of (IsBefore Close IsTest) (IsPair IsCommands IsBranchEnd) (before_of Close IsTest some_test) some_branches) (map lexeme c.args.tokens.now) c.in-Err.ensures.none))

pub if_command-returns-in-Err-test_before-clause-tree : goal.if_command-returns-in-Err-test_before-clause-tree
if_command-returns-in-Err-test_before-clause-tree t c = refused_as (IsBefore Close IsTest) (IsCommandRest words.If c.args.place) Always Always (map lexeme c.in-Ok.read.now) (map lexeme c.args.tokens.now) c.in-Err-test_before.fault (λ left not. opened_none (λ x. Tree.choice c.args.place x.0 x.1.0 x.1.1) (IsPair (IsBefore Close IsTest) (IsPair IsCommands IsBranchEnd)) Always (map lexeme c.args.tokens.now) (map lexeme c.in-Ok.read.now) c.in-Ok.ensures.found left (first_none (IsBefore Close IsTest) (IsPair IsCommands IsBranchEnd) Always Always (whatever (IsPair IsCommands IsBranchEnd)) some_branches (map lexeme c.in-Ok.read.now) left not)) c.in-Err-test_before.ensures.tree

pub if_command-returns-in-Err-branches-clause-tree : goal.if_command-returns-in-Err-branches-clause-tree
if_command-returns-in-Err-branches-clause-tree t c = refused_as (IsPair IsCommands IsBranchEnd) (IsCommandRest words.If c.args.place) Always Always (map lexeme c.in-Ok-test_before.read.1.now) (map lexeme c.args.tokens.now) c.in-Err-branches.fault (λ left not. opened_none (λ x. Tree.choice c.args.place x.0 x.1.0 x.1.1) (IsPair (IsBefore Close IsTest) (IsPair IsCommands IsBranchEnd)) Always (map lexeme c.args.tokens.now) (map lexeme c.in-Ok.read.now) c.in-Ok.ensures.found left (second_none (IsBefore Close IsTest) (IsPair IsCommands IsBranchEnd) Always Always (whatever (IsPair IsCommands IsBranchEnd)) (map lexeme c.in-Ok.read.now) (map lexeme c.in-Ok-test_before.read.1.now) _ c.in-Ok-test_before.ensures.tree left not)) c.in-Err-branches.ensures.tree

pub if_command-returns-clause-tree : goal.if_command-returns-clause-tree
if_command-returns-clause-tree t c = rw (c.in_ok-new.ensures.ok, rolls-Choice') (opened_reads (λ x. Tree.choice c.args.place x.0 x.1.0 x.1.1) (IsPair (IsBefore Close IsTest) (IsPair IsCommands IsBranchEnd)) Always (map lexeme c.args.tokens.now) (map lexeme c.in-Ok.read.now) (map lexeme c.in-Ok-branches.read.1.now) _ c.in-Ok.ensures.found (pair_reads (IsBefore Close IsTest) (IsPair IsCommands IsBranchEnd) Always Always (whatever (IsPair IsCommands IsBranchEnd)) (map lexeme c.in-Ok.read.now) (map lexeme c.in-Ok-test_before.read.1.now) (map lexeme c.in-Ok-branches.read.1.now) _ _ c.in-Ok-test_before.ensures.tree c.in-Ok-branches.ensures.tree))

pub separator_before-returns-in-Some-clause-tree : goal.separator_before-returns-in-Some-clause-tree
separator_before-returns-in-Some-clause-tree t c = before_reads IsCommand Always Close (λ us. tt) (map lexeme c.args.tokens.now) (map lexeme c.in-Ok.read.1.now) (map lexeme c.in-Some.rest.now) _ c.in-Ok.ensures.tree c.in-Some.ensures.found

pub block-returns-in-Some-clause-tree : goal.block-returns-in-Some-clause-tree
block-returns-in-Some-clause-tree t c = word_reads IsCommands CommandsEnd words.End (λ at us. refl) (map lexeme c.args.tokens.now) (map lexeme c.in-Ok.read.1.now) (map lexeme c.in-Some.rest.now) _ c.in-Some.ensures.found.0 c.in-Ok.ensures.tree c.in-Some.ensures.found.1

pub branch_end-returns-in-Some-clause-tree : goal.branch_end-returns-in-Some-clause-tree
branch_end-returns-in-Some-clause-tree t c = rw (list_commands c.from_vec.result ∙ ap command_trees (c.from_vec.ensures ∙ c.new.ensures.items)) (branch_ended (map lexeme c.args.tokens.now) (map lexeme c.in-Some.rest.now) c.in-Some.ensures.found.0 c.in-Some.ensures.found.1)

pub branch_end-returns-in-Some-after_word-clause-tree : goal.branch_end-returns-in-Some-after_word-clause-tree
branch_end-returns-in-Some-after_word-clause-tree t c = reads_as IsBlock IsBranchEnd Always Always _ (map lexeme c.in-Some-after_word.after.now) (map lexeme c.args.tokens.now) c.block.result (branch_goes_on (map lexeme c.args.tokens.now) (map lexeme c.in-Some-after_word.after.now) c.in-Some-after_word.ensures.found.0 c.in-Some-after_word.ensures.found.1) (branch_no_block (map lexeme c.args.tokens.now) (map lexeme c.in-Some-after_word.after.now) c.in-Some-after_word.ensures.found.0 c.in-Some-after_word.ensures.found.1) c.block.ensures.tree

pub command-returns-in-Some-clause-tree : goal.command-returns-in-Some-clause-tree
command-returns-in-Some-clause-tree t c = reads_as (IsCommandRest c.in-Some.word c.in-Some.place) IsCommand Always Always _ (map lexeme c.in-Some.rest.now) (map lexeme c.args.tokens.now) c.command_rest.result (command_reads (map lexeme c.args.tokens.now) (map lexeme c.in-Some.rest.now) c.in-Some.word c.in-Some.place c.in-Some.ensures.found) (command_none (map lexeme c.args.tokens.now) (map lexeme c.in-Some.rest.now) c.in-Some.word c.in-Some.place c.in-Some.ensures.found) c.command_rest.ensures.tree

pub commands-loop-word-init : goal.commands-loop-word-init
commands-loop-word-init t c = record { part = rw (c.split_at.ensures.back, c.in_ok-items.ensures.items) (commands_start (map lexeme c.args.tokens.now)); shorter = rw c.split_at.ensures.back (omega arith) }

pub commands-returns-in-Err-clause-tree : goal.commands-returns-in-Err-clause-tree
commands-returns-in-Err-clause-tree t c = refused_as (IsCommandRest c.in-Some.word c.in-Some.place) IsCommands Always CommandsEnd (map lexeme c.in-Some.after.now) (map lexeme c.args.tokens.now) c.in-Err.fault (λ left not. commands_no_next (map lexeme c.args.tokens.now) (map lexeme c.loop-word.rest.now) _ c.loop-word.invariant.part (begins_at (map lexeme c.loop-word.rest.now) (map lexeme c.in-Some.after.now) c.in-Some.word c.in-Some.place c.in-Some.ensures.found c.in-Some.ensures.word) left (command_none (map lexeme c.loop-word.rest.now) (map lexeme c.in-Some.after.now) c.in-Some.word c.in-Some.place c.in-Some.ensures.found left not)) c.in-Err.ensures.tree

pub commands-loop-word-preserved : goal.commands-loop-word-preserved
commands-loop-word-preserved t c = record { part = rw (ap command_trees c.in_ok-push.ensures.items ∙ trees_then c.loop-word.items.items c.in-Ok.read.0) (commands_next (map lexeme c.args.tokens.now) (map lexeme c.loop-word.rest.now) (map lexeme c.in-Ok.read.1.now) _ _ c.loop-word.invariant.part (begins_at (map lexeme c.loop-word.rest.now) (map lexeme c.in-Some.after.now) c.in-Some.word c.in-Some.place c.in-Some.ensures.found c.in-Some.ensures.word) (command_reads (map lexeme c.loop-word.rest.now) (map lexeme c.in-Some.after.now) c.in-Some.word c.in-Some.place c.in-Some.ensures.found _ _ c.in-Ok.ensures.tree)); shorter = omega (arith, c.loop-word.invariant.shorter, c.in-Some.ensures.shorter, c.in-Ok.ensures.shorter) }

pub commands-returns-clause-tree : goal.commands-returns-clause-tree
commands-returns-clause-tree t c = rw (list_commands c.from_vec.result ∙ ap command_trees (c.from_vec.ensures ∙ c.shrink_to_fit.ensures.items)) (commands_end (map lexeme c.args.tokens.now) (map lexeme c.loop-word.rest.now) _ c.loop-word.invariant.part c.in_default.ensures.none)

pub loop_end-returns-in-Err-clause-tree : goal.loop_end-returns-in-Err-clause-tree
loop_end-returns-in-Err-clause-tree t c = refused_as IsBlock IsLoopEnd Always Always (map lexeme c.in-Some.rest.now) (map lexeme c.args.tokens.now) c.in-Err.fault (loop_end_no_block (map lexeme c.args.tokens.now) (map lexeme c.in-Some.rest.now) c.in-Some.ensures.found) c.in-Err.ensures.tree

pub loop_end-returns-in-Some-clause-tree : goal.loop_end-returns-in-Some-clause-tree
loop_end-returns-in-Some-clause-tree t c = loop_end_plain (map lexeme c.args.tokens.now) (map lexeme c.in-Some.rest.now) (map lexeme c.in-Ok.read.1.now) _ c.in-Some.ensures.found c.in-Ok.ensures.tree

pub loop_end-returns-in-Err-separator_before-clause-tree : goal.loop_end-returns-in-Err-separator_before-clause-tree
loop_end-returns-in-Err-separator_before-clause-tree t c = refused_as (IsBefore Close IsCommand) IsLoopEnd Always Always (map lexeme c.in-Some-after_mark.after.now) (map lexeme c.args.tokens.now) c.in-Err-separator_before.fault (λ left not. loop_end_no_separated (map lexeme c.args.tokens.now) (map lexeme c.in-Some-after_mark.after.now) c.in-Some-after_mark.ensures.found left (first_none (IsBefore Close IsCommand) IsBlock Always Always (whatever IsBlock) some_block (map lexeme c.in-Some-after_mark.after.now) left not)) c.in-Err-separator_before.ensures.tree

pub loop_end-returns-in-Err-block-clause-tree : goal.loop_end-returns-in-Err-block-clause-tree
loop_end-returns-in-Err-block-clause-tree t c = refused_as IsBlock IsLoopEnd Always Always (map lexeme c.in-Ok-separator_before.read.1.now) (map lexeme c.args.tokens.now) c.in-Err-block.fault (λ left not. loop_end_no_separated (map lexeme c.args.tokens.now) (map lexeme c.in-Some-after_mark.after.now) c.in-Some-after_mark.ensures.found left (second_none (IsBefore Close IsCommand) IsBlock Always Always (whatever IsBlock) (map lexeme c.in-Some-after_mark.after.now) (map lexeme c.in-Ok-separator_before.read.1.now) _ c.in-Ok-separator_before.ensures.tree left not)) c.in-Err-block.ensures.tree

pub loop_end-returns-clause-tree : goal.loop_end-returns-clause-tree
loop_end-returns-clause-tree t c = rw c.in_ok-between.ensures.ok (loop_end_separated (map lexeme c.args.tokens.now) (map lexeme c.in-Some-after_mark.after.now) (map lexeme c.in-Ok-block.read.1.now) _ _ c.in-Some-after_mark.ensures.found (pair_reads (IsBefore Close IsCommand) IsBlock Always Always (whatever IsBlock) (map lexeme c.in-Some-after_mark.after.now) (map lexeme c.in-Ok-separator_before.read.1.now) (map lexeme c.in-Ok-block.read.1.now) _ _ c.in-Ok-separator_before.ensures.tree c.in-Ok-block.ensures.tree))

pub separator_before-returns-in-Err-clause-tree : goal.separator_before-returns-in-Err-clause-tree
separator_before-returns-in-Err-clause-tree t c = refused_as IsCommand (IsBefore Close IsCommand) Always Always (map lexeme c.args.tokens.now) (map lexeme c.args.tokens.now) c.in-Err.fault (none_before IsCommand Always Close (λ us. tt) (map lexeme c.args.tokens.now)) c.in-Err.ensures.tree

pub separator_before-returns-in-None-clause-tree : goal.separator_before-returns-in-None-clause-tree
separator_before-returns-in-None-clause-tree t c = counted_as (IsBefore Close IsCommand) Always (map lexeme c.args.tokens.now) _ _ (length-map c.in-Ok.read.1.now lexeme) (before_none IsCommand Always Close (λ us. tt) (map lexeme c.args.tokens.now) (map lexeme c.in-Ok.read.1.now) _ c.in-Ok.ensures.tree c.in-None.ensures.none)

pub block-returns-in-Err-clause-tree : goal.block-returns-in-Err-clause-tree
block-returns-in-Err-clause-tree t c = refused_as IsCommands IsBlock CommandsEnd Always (map lexeme c.args.tokens.now) (map lexeme c.args.tokens.now) c.in-Err.fault (none_word IsCommands CommandsEnd words.End (λ at us. refl) (map lexeme c.args.tokens.now)) c.in-Err.ensures.tree

pub block-returns-in-None-clause-tree : goal.block-returns-in-None-clause-tree
block-returns-in-None-clause-tree t c = counted_as IsBlock Always (map lexeme c.args.tokens.now) _ _ (length-map c.in-Ok.read.1.now lexeme) (word_none IsCommands CommandsEnd words.End (λ at us. refl) (map lexeme c.args.tokens.now) (map lexeme c.in-Ok.read.1.now) _ c.in-Ok.ensures.tree c.in-None.ensures.none)

pub branches-returns-in-Err-clause-tree : goal.branches-returns-in-Err-clause-tree
branches-returns-in-Err-clause-tree t c = refused_as IsCommands (IsPair IsCommands IsBranchEnd) CommandsEnd Always (map lexeme c.args.tokens.now) (map lexeme c.args.tokens.now) c.in-Err.fault (first_none IsCommands IsBranchEnd CommandsEnd Always before_branch_end some_branch_end (map lexeme c.args.tokens.now)) c.in-Err.ensures.tree

pub branch_end-returns-in-None-clause-tree : goal.branch_end-returns-in-None-clause-tree
branch_end-returns-in-None-clause-tree t c = counted_as IsBranchEnd Always (map lexeme c.args.tokens.now) _ _ (length-map c.args.tokens.now lexeme) (branch_other (map lexeme c.args.tokens.now) c.in_default.ensures.none c.in-None.ensures.none)

pub loop_end-returns-in_default-after_mark-clause-tree : goal.loop_end-returns-in_default-after_mark-clause-tree
loop_end-returns-in_default-after_mark-clause-tree t c = counted_as IsLoopEnd Always (map lexeme c.args.tokens.now) _ _ (length-map c.args.tokens.now lexeme) (loop_end_other (map lexeme c.args.tokens.now) c.in_default.ensures.none c.in_default-after_mark.ensures.none)

pub command-returns-in-None-clause-tree : goal.command-returns-in-None-clause-tree
command-returns-in-None-clause-tree t c = counted_as IsCommand Always (map lexeme c.args.tokens.now) _ _ (length-map c.args.tokens.now lexeme) (no_command (map lexeme c.args.tokens.now) c.in-None.ensures.none)
