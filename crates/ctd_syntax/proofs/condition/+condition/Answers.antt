use Rattle.std.proofs.Common.{arith}
use Rattle.std.specs.Prelude.{map}
use Rattle.std.proofs.lemmas.List.{length-map}
use Rattle.ctd_syntax.proofs.Conditions.{asks_at}
use Rattle.ctd_syntax.specs.inner.Front.{Always, IsBefore, lexeme}
use Rattle.ctd_syntax.specs.Grammar.{IsTest, IsBoth, IsNegation, IsSimpleTest}
use Rattle.ctd_syntax.specs.inner.Levels.{ends}
use Rattle.ctd_syntax.specs.inner.TestGrammar.{test_ends, IsTestCall, IsComparison}
use Rattle.ctd_token.specs.declared.token.Mark.TheVariants.{Close}
use Rattle.ctd_syntax.proofs.StayFronts.{reads_as, refused_as, before_reads, before_none, none_before, counted_as}
use Rattle.ctd_syntax.proofs.StayChains.{start, no_start, finish, next, no_next}
use Rattle.ctd_syntax.proofs.TestLevels.{ors, ands, or_at, and_at, no_or, no_and}
use Rattle.ctd_syntax.proofs.StayTests.{bang_reads, bang_none, plain_is_negated, no_plain_negated, asked_reads, asked_none, group_reads, group_none, compare_reads, compare_none}
use Rattle.ctd_syntax.proofs.condition.+condition.Goals as goal

pub test-returns-in-Err-clause-tree : goal.test-returns-in-Err-clause-tree
test-returns-in-Err-clause-tree t c = refused_as IsBoth IsTest (test_ends 2) (test_ends 1) (map lexeme c.args.tokens.now) (map lexeme c.args.tokens.now) c.in-Err.fault (no_start ors (map lexeme c.args.tokens.now)) c.in-Err.ensures.tree

pub test-loop-after-init : goal.test-loop-after-init
test-loop-after-init t c = record { partly = start ors (map lexeme c.args.tokens.now) _ (map lexeme c.in-Ok.read.1.now) c.in-Ok.ensures.tree; shorter = c.in-Ok.ensures.shorter }

pub test-returns-in-Err-both-clause-tree : goal.test-returns-in-Err-both-clause-tree
test-returns-in-Err-both-clause-tree t c = refused_as IsBoth IsTest (test_ends 2) (test_ends 1) (map lexeme c.in-Some.after.now) (map lexeme c.args.tokens.now) c.in-Err-both.fault (no_next ors (map lexeme c.args.tokens.now) _ (map lexeme c.loop-after.rest.now) (map lexeme c.in-Some.after.now) tt c.loop-after.invariant.partly (or_at (map lexeme c.loop-after.rest.now) (map lexeme c.in-Some.after.now) c.in-Some.ensures.found)) c.in-Err-both.ensures.tree

pub test-loop-after-preserved : goal.test-loop-after-preserved
test-loop-after-preserved t c = record { partly = rw c.in_ok-left-in-Ok-both.ensures (next ors (map lexeme c.args.tokens.now) _ _ (map lexeme c.loop-after.rest.now) (map lexeme c.in-Some.after.now) (map lexeme c.in-Ok-both.after.now) tt c.loop-after.invariant.partly (or_at (map lexeme c.loop-after.rest.now) (map lexeme c.in-Some.after.now) c.in-Some.ensures.found) c.in-Ok-both.ensures.tree); shorter = omega (arith, c.loop-after.invariant.shorter, c.in-Some.ensures.shorter, c.in-Ok-both.ensures.shorter) }

pub test-returns-clause-tree : goal.test-returns-clause-tree
test-returns-clause-tree t c = finish ors (map lexeme c.args.tokens.now) _ (map lexeme c.loop-after.rest.now) c.loop-after.invariant.partly (no_or (map lexeme c.loop-after.rest.now) c.in_default.ensures.none)

pub both-returns-in-Err-clause-tree : goal.both-returns-in-Err-clause-tree
both-returns-in-Err-clause-tree t c = refused_as IsNegation IsBoth (ends 1) (test_ends 2) (map lexeme c.args.tokens.now) (map lexeme c.args.tokens.now) c.in-Err.fault (no_start ands (map lexeme c.args.tokens.now)) c.in-Err.ensures.tree

pub both-loop-after-init : goal.both-loop-after-init
both-loop-after-init t c = record { partly = start ands (map lexeme c.args.tokens.now) _ (map lexeme c.in-Ok.read.1.now) c.in-Ok.ensures.tree; shorter = c.in-Ok.ensures.shorter }

pub both-returns-in-Err-negation-clause-tree : goal.both-returns-in-Err-negation-clause-tree
both-returns-in-Err-negation-clause-tree t c = refused_as IsNegation IsBoth (ends 1) (test_ends 2) (map lexeme c.in-Some.after.now) (map lexeme c.args.tokens.now) c.in-Err-negation.fault (no_next ands (map lexeme c.args.tokens.now) _ (map lexeme c.loop-after.rest.now) (map lexeme c.in-Some.after.now) tt c.loop-after.invariant.partly (and_at (map lexeme c.loop-after.rest.now) (map lexeme c.in-Some.after.now) c.in-Some.ensures.found)) c.in-Err-negation.ensures.tree

pub both-loop-after-preserved : goal.both-loop-after-preserved
both-loop-after-preserved t c = record { partly = rw c.in_ok-left-in-Ok-negation.ensures (next ands (map lexeme c.args.tokens.now) _ _ (map lexeme c.loop-after.rest.now) (map lexeme c.in-Some.after.now) (map lexeme c.in-Ok-negation.after.now) tt c.loop-after.invariant.partly (and_at (map lexeme c.loop-after.rest.now) (map lexeme c.in-Some.after.now) c.in-Some.ensures.found) c.in-Ok-negation.ensures.tree); shorter = omega (arith, c.loop-after.invariant.shorter, c.in-Some.ensures.shorter, c.in-Ok-negation.ensures.shorter) }

pub both-returns-clause-tree : goal.both-returns-clause-tree
both-returns-clause-tree t c = finish ands (map lexeme c.args.tokens.now) _ (map lexeme c.loop-after.rest.now) c.loop-after.invariant.partly (no_and (map lexeme c.loop-after.rest.now) c.in_default.ensures.none)

pub negation-returns-in-Err-clause-tree : goal.negation-returns-in-Err-clause-tree
negation-returns-in-Err-clause-tree t c = refused_as IsNegation IsNegation (ends 1) (ends 1) (map lexeme c.in-Some.after.now) (map lexeme c.args.tokens.now) c.in-Err.fault (bang_none (map lexeme c.args.tokens.now) (map lexeme c.in-Some.after.now) c.in-Some.ensures.found) c.in-Err.ensures.tree

pub negation-returns-in_ok-boxed-in-Some-clause-tree : goal.negation-returns-in_ok-boxed-in-Some-clause-tree
negation-returns-in_ok-boxed-in-Some-clause-tree t c = rw c.in_ok-boxed-in-Some.ensures (bang_reads (map lexeme c.args.tokens.now) (map lexeme c.in-Some.after.now) _ _ c.in-Some.ensures.found c.in-Ok.ensures.tree)

pub negation-returns-in-None-clause-tree : goal.negation-returns-in-None-clause-tree
negation-returns-in-None-clause-tree t c = reads_as IsSimpleTest IsNegation (ends 1) (ends 1) _ (map lexeme c.args.tokens.now) (map lexeme c.args.tokens.now) c.simple_test.result (plain_is_negated (map lexeme c.args.tokens.now) c.in-None.ensures.none) (no_plain_negated (map lexeme c.args.tokens.now) c.in-None.ensures.none) c.simple_test.ensures.tree

pub simple_test-returns-in-Some-clause-tree : goal.simple_test-returns-in-Some-clause-tree
simple_test-returns-in-Some-clause-tree t c = reads_as (IsTestCall c.in-Some.keyword) IsSimpleTest Always (ends 1) _ (map lexeme c.in-Some.rest.now) (map lexeme c.args.tokens.now) c.test_call.result (asked_reads (map lexeme c.args.tokens.now) (map lexeme c.in-Some.rest.now) c.in-Some.keyword c.in-Some.ensures.operator) (asked_none (map lexeme c.args.tokens.now) (map lexeme c.in-Some.rest.now) c.in-Some.keyword c.in-Some.ensures.operator) c.test_call.ensures.tree

pub simple_test-returns-in-Some-group_at-clause-tree : goal.simple_test-returns-in-Some-group_at-clause-tree
simple_test-returns-in-Some-group_at-clause-tree t c = reads_as (IsBefore Close IsTest) IsSimpleTest Always (ends 1) _ (map lexeme c.in-Some-group_at.rest.now) (map lexeme c.args.tokens.now) c.test_before.result (group_reads (map lexeme c.args.tokens.now) (map lexeme c.in-Some-group_at.rest.now) c.in-Some-group_at.ensures.found c.in-Some-group_at.ensures.holds) (group_none (map lexeme c.args.tokens.now) (map lexeme c.in-Some-group_at.rest.now) c.in-Some-group_at.ensures.found c.in-Some-group_at.ensures.holds) c.test_before.ensures.tree

pub simple_test-returns-clause-tree : goal.simple_test-returns-clause-tree
simple_test-returns-clause-tree t c = reads_as IsComparison IsSimpleTest (ends 1) (ends 1) _ (map lexeme c.args.tokens.now) (map lexeme c.args.tokens.now) c.comparison.result (compare_reads (map lexeme c.args.tokens.now) c.in_default.ensures.operator c.in_default-group_at.ensures.none) (compare_none (map lexeme c.args.tokens.now) c.in_default.ensures.operator c.in_default-group_at.ensures.none) c.comparison.ensures.tree

pub test_before-returns-in-Some-clause-tree : goal.test_before-returns-in-Some-clause-tree
test_before-returns-in-Some-clause-tree t c = before_reads IsTest (test_ends 1) c.args.mark (λ us. c.requires.ends) (map lexeme c.args.tokens.now) (map lexeme c.in-Ok.read.1.now) (map lexeme c.in-Some.rest.now) _ c.in-Ok.ensures.tree c.in-Some.ensures.found

pub test_before-returns-in-Err-clause-tree : goal.test_before-returns-in-Err-clause-tree
test_before-returns-in-Err-clause-tree t c = refused_as IsTest (IsBefore c.args.mark IsTest) (test_ends 1) Always (map lexeme c.args.tokens.now) (map lexeme c.args.tokens.now) c.in-Err.fault (none_before IsTest (test_ends 1) c.args.mark (λ us. c.requires.ends) (map lexeme c.args.tokens.now)) c.in-Err.ensures.tree

pub test_before-returns-in-None-clause-tree : goal.test_before-returns-in-None-clause-tree
test_before-returns-in-None-clause-tree t c = counted_as (IsBefore c.args.mark IsTest) Always (map lexeme c.args.tokens.now) _ _ (length-map c.in-Ok.read.1.now lexeme) (before_none IsTest (test_ends 1) c.args.mark (λ us. c.requires.ends) (map lexeme c.args.tokens.now) (map lexeme c.in-Ok.read.1.now) _ c.in-Ok.ensures.tree c.in-None.ensures.none)

pub simple_test-test_call-requires : goal.simple_test-test_call-requires
simple_test-test_call-requires t c = record { asks = asks_at (map lexeme c.args.tokens.now) (map lexeme c.in-Some.rest.now) c.in-Some.keyword c.in-Some.ensures.operator }
