use Rattle.std.specs.Prelude.{map}
use Rattle.std.proofs.lemmas.List.{length-map}
use Rattle.ctd_program.specs.Tree
use Rattle.ctd_syntax.specs.inner.Front.{Always, IsPair, lexeme}
use Rattle.ctd_syntax.specs.Grammar.{IsTargetEnd}
use Rattle.ctd_syntax.specs.inner.CommandWords.{IsCommandRest, IsPatternText}
use Rattle.ctd_syntax.proofs.StayFronts.{pair_reads, refused_as, first_none, second_none, no_tree_as, counted_as}
use Rattle.ctd_syntax.proofs.CommandReads.{whatever}
use Rattle.ctd_syntax.proofs.StayCommands.{opened_reads, pattern_found, not_opened, pair_of, some_pattern, no_pattern, opened_none}
use Rattle.ctd_syntax.proofs.StayTargets.{some_target_end}
use Rattle.ctd_syntax.specs.declared.keyword.Keyword.TheVariants as words
use Rattle.ctd_syntax.proofs.command.regex.Goals as goal

pub returns-in-Err-clause-tree : goal.returns-in-Err-clause-tree
returns-in-Err-clause-tree c = no_tree_as (IsCommandRest words.Regex c.args.place) Always (map lexeme c.args.tokens.now) _ c.in-Err.fault c.in-Err.ensures.left (counted_as (IsCommandRest words.Regex c.args.place) Always (map lexeme c.args.tokens.now) _ _ (length-map c.args.tokens.now lexeme) (not_opened (λ x. Tree.regex c.args.place (record { bytes = x.0.0; place = x.0.1 }) x.1) (IsPair IsPatternText IsTargetEnd) Always (pair_of IsPatternText IsTargetEnd some_pattern some_target_end) (map lexeme c.args.tokens.now) c.in-Err.ensures.none))

pub returns-clause-tree : goal.returns-clause-tree
returns-clause-tree c = rw (c.in_ok-new.ensures.ok, c.in_ok-bytes.ensures) (opened_reads (λ x. Tree.regex c.args.place (record { bytes = x.0.0; place = x.0.1 }) x.1) (IsPair IsPatternText IsTargetEnd) Always (map lexeme c.args.tokens.now) (map lexeme c.in-Ok.read.now) (map lexeme c.in-Ok-target_end.read.1.now) _ c.in-Ok.ensures.found (pair_reads IsPatternText IsTargetEnd Always Always (whatever IsTargetEnd) (map lexeme c.in-Ok.read.now) (map lexeme c.in-Some.rest.now) (map lexeme c.in-Ok-target_end.read.1.now) _ _ (pattern_found (map lexeme c.in-Ok.read.now) (map lexeme c.in-Some.rest.now) _ _ c.in-Some.ensures.found) c.in-Ok-target_end.ensures.tree))

pub returns-in_default-clause-tree : goal.returns-in_default-clause-tree
returns-in_default-clause-tree c = counted_as (IsCommandRest words.Regex c.args.place) Always (map lexeme c.args.tokens.now) _ _ (length-map c.in-Ok.read.now lexeme) (opened_none (λ x. Tree.regex c.args.place (record { bytes = x.0.0; place = x.0.1 }) x.1) (IsPair IsPatternText IsTargetEnd) Always (map lexeme c.args.tokens.now) (map lexeme c.in-Ok.read.now) c.in-Ok.ensures.found _ (first_none IsPatternText IsTargetEnd Always Always (whatever IsTargetEnd) some_target_end (map lexeme c.in-Ok.read.now) _ (no_pattern (map lexeme c.in-Ok.read.now) c.in_default.ensures.none)))

pub returns-in-Err-target_end-clause-tree : goal.returns-in-Err-target_end-clause-tree
returns-in-Err-target_end-clause-tree c = refused_as IsTargetEnd (IsCommandRest words.Regex c.args.place) Always Always (map lexeme c.in-Some.rest.now) (map lexeme c.args.tokens.now) c.in-Err-target_end.fault (λ left not. opened_none (λ x. Tree.regex c.args.place (record { bytes = x.0.0; place = x.0.1 }) x.1) (IsPair IsPatternText IsTargetEnd) Always (map lexeme c.args.tokens.now) (map lexeme c.in-Ok.read.now) c.in-Ok.ensures.found left (second_none IsPatternText IsTargetEnd Always Always (whatever IsTargetEnd) (map lexeme c.in-Ok.read.now) (map lexeme c.in-Some.rest.now) _ (pattern_found (map lexeme c.in-Ok.read.now) (map lexeme c.in-Some.rest.now) _ _ c.in-Some.ensures.found) left not)) c.in-Err-target_end.ensures.tree
