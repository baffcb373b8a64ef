use Rattle.std.specs.Prelude.{map}
use Rattle.std.proofs.lemmas.List.{length-map}
use Rattle.ctd_syntax.specs.inner.Front.{Always, IsName, lexeme}
use Rattle.ctd_syntax.proofs.StayFronts.{name_found, name_none, counted_as}
use Rattle.ctd_syntax.proofs.names.name.Goals as goal

pub returns-in_default-clause-tree : goal.returns-in_default-clause-tree
returns-in_default-clause-tree c = counted_as IsName Always (map lexeme c.args.tokens.now) _ _ (length-map c.args.tokens.now lexeme) (name_none (map lexeme c.args.tokens.now) c.in_default.ensures.none)

pub returns-clause-tree : goal.returns-clause-tree
returns-clause-tree c = rw c.in_ok-numbered.ensures.equal (name_found (map lexeme c.args.tokens.now) (map lexeme c.in-Some.rest.now) c.in-Some.name.now c.in-Some.ensures.found)
