use Rattle.std.specs.Prelude.{map}
use Rattle.std.proofs.lemmas.List.{length-map}
use Rattle.ctd_token.specs.declared.token.Mark.TheVariants.{Close}
use Rattle.ctd_syntax.specs.inner.Front.{Always, IsBefore, IsName, lexeme}
use Rattle.ctd_syntax.proofs.StayTests.{last_name_reads, last_name_open, no_last_name}
use Rattle.ctd_syntax.proofs.StayFronts.{counted_as}
use Rattle.ctd_syntax.proofs.condition.last_name.Goals as goal

pub returns-clause-tree : goal.returns-clause-tree
returns-clause-tree c = rw c.in_ok-numbered.ensures.equal (last_name_reads (map lexeme c.args.tokens.now) (map lexeme c.in-Some.rest.now) (map lexeme c.in-Some-after_mark.rest.now) c.in-Some.name.now c.in-Some.ensures.found c.in-Some-after_mark.ensures.found)

pub returns-in_default-clause-tree : goal.returns-in_default-clause-tree
returns-in_default-clause-tree c = counted_as (IsBefore Close IsName) Always (map lexeme c.args.tokens.now) _ _ (length-map c.args.tokens.now lexeme) (no_last_name (map lexeme c.args.tokens.now) c.in_default.ensures.none)

pub returns-in_default-after_mark-clause-tree : goal.returns-in_default-after_mark-clause-tree
returns-in_default-after_mark-clause-tree c = counted_as (IsBefore Close IsName) Always (map lexeme c.args.tokens.now) _ _ (length-map c.in-Some.rest.now lexeme) (last_name_open (map lexeme c.args.tokens.now) (map lexeme c.in-Some.rest.now) c.in-Some.name.now c.in-Some.ensures.found c.in_default-after_mark.ensures.none)
