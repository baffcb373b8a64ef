use Rattle.std.specs.Prelude.{map}
use Rattle.std.proofs.lemmas.List.{length-map}
use Rattle.ctd_syntax.specs.inner.Front.{Always, IsPair, lexeme}
use Rattle.ctd_syntax.specs.inner.TestGrammar.{test_ends}
use Rattle.ctd_syntax.specs.inner.CommandWords.{IsCounter, IsGuard, IsLoopHead}
use Rattle.ctd_token.specs.declared.token.Mark.TheVariants.{Open}
use Rattle.ctd_syntax.proofs.StayFronts.{after_reads, after_none, not_after, pair_reads, first_none, second_none, refused_as, no_tree_as, counted_as}
use Rattle.ctd_syntax.proofs.StayCommands.{pair_of, some_counter, some_guard}
use Rattle.ctd_syntax.proofs.loop_head.loop_head.Goals as goal

pub returns-in-Err-clause-tree : goal.returns-in-Err-clause-tree
returns-in-Err-clause-tree c = no_tree_as (IsLoopHead c.args.word) (test_ends 1) (map lexeme c.args.tokens.now) _ c.in-Err.fault c.in-Err.ensures.left (counted_as (IsLoopHead c.args.word) (test_ends 1) (map lexeme c.args.tokens.now) _ _ (length-map c.args.tokens.now lexeme)
    (not_after (IsPair (IsCounter c.args.word) (IsGuard c.args.word)) (test_ends 1) Open (pair_of (IsCounter c.args.word) (IsGuard c.args.word) (some_counter c.args.word) (some_guard c.args.word)) (map lexeme c.args.tokens.now) c.in-Err.ensures.none))

pub returns-in-Ok-guard-clause-tree : goal.returns-in-Ok-guard-clause-tree
returns-in-Ok-guard-clause-tree c = after_reads (IsPair (IsCounter c.args.word) (IsGuard c.args.word)) (test_ends 1) Open (map lexeme c.args.tokens.now) (map lexeme c.in-Ok.read.now) (map lexeme c.in-Ok-guard.rest.now) _ c.in-Ok.ensures.found
    (pair_reads (IsCounter c.args.word) (IsGuard c.args.word) Always (test_ends 1) (λ vs us b i h. tt) (map lexeme c.in-Ok.read.now) (map lexeme c.in-Ok-counter.read.1.now) (map lexeme c.in-Ok-guard.rest.now) _ _ c.in-Ok-counter.ensures.tree c.in-Ok-guard.ensures.tree)

pub returns-in-Err-counter-clause-tree : goal.returns-in-Err-counter-clause-tree
returns-in-Err-counter-clause-tree c = refused_as (IsCounter c.args.word) (IsLoopHead c.args.word) Always (test_ends 1) (map lexeme c.in-Ok.read.now) (map lexeme c.args.tokens.now) c.in-Err-counter.fault (λ left not. after_none (IsPair (IsCounter c.args.word) (IsGuard c.args.word)) (test_ends 1) Open (map lexeme c.args.tokens.now) (map lexeme c.in-Ok.read.now) c.in-Ok.ensures.found left
    (first_none (IsCounter c.args.word) (IsGuard c.args.word) Always (test_ends 1) (λ vs us b i h. tt) (some_guard c.args.word) (map lexeme c.in-Ok.read.now) left not)) c.in-Err-counter.ensures.tree

pub returns-in-Err-guard-clause-tree : goal.returns-in-Err-guard-clause-tree
returns-in-Err-guard-clause-tree c = refused_as (IsGuard c.args.word) (IsLoopHead c.args.word) (test_ends 1) (test_ends 1) (map lexeme c.in-Ok-counter.read.1.now) (map lexeme c.args.tokens.now) c.in-Err-guard.fault (λ left not. after_none (IsPair (IsCounter c.args.word) (IsGuard c.args.word)) (test_ends 1) Open (map lexeme c.args.tokens.now) (map lexeme c.in-Ok.read.now) c.in-Ok.ensures.found left
    (second_none (IsCounter c.args.word) (IsGuard c.args.word) Always (test_ends 1) (λ vs us b i h. tt) (map lexeme c.in-Ok.read.now) (map lexeme c.in-Ok-counter.read.1.now) _ c.in-Ok-counter.ensures.tree left not)) c.in-Err-guard.ensures.tree
