use Rattle.std.proofs.Common.{◌≡◌, ◌∷◌, ap, ◌∙◌, rules}
use Rattle.std.proofs.lemmas.Int.{to_z-of_z}
use Rattle.std.specs.Int.{w128}
use Rattle.std.specs.Prelude.{map}
use Rattle.ctd_syntax.specs.inner.Front.{lexeme}
use Rattle.ctd_syntax.specs.inner.Levels.{ends}
use Rattle.ctd_syntax.specs.Lexeme.{Lexeme}
use Rattle.ctd_program.specs.Tree
use Rattle.ctd_program.specs.Tree.{VarTree}
use Rattle.ctd_syntax.proofs.StayAtoms.{numeral_reads, variable_plain, variable_reads}
use Rattle.ctd_syntax.proofs.StaySingles.{atom_is_product, no_index}
use Rattle.ctd_syntax.proofs.expression.single_token.Goals as goal

pub returns-in-Numeral-clause-tree : goal.returns-in-Numeral-clause-tree
returns-in-Numeral-clause-tree c =
    let seen : map lexeme c.args.tokens.now ≡ Lexeme.numeral c.in-Numeral.n ∷ map lexeme c.in-Some.rest.now = ap (map lexeme) c.in-Some.ensures.cases.0 ∙ ap (λ x. lexeme x ∷ map lexeme c.in-Some.rest.now) c.in-Numeral.is in
    rw (c.new-numeral.ensures.same, to_z-of_z w128 c.in-Numeral.n (search rules)) (atom_is_product (map lexeme c.args.tokens.now) (map lexeme c.in-Some.rest.now) _ (λ r e. cc) (numeral_reads (map lexeme c.args.tokens.now) (map lexeme c.in-Some.rest.now) _ seen) (c.ends_product.ensures c.if-not-ends_product.false))

pub returns-in_ok-name-in-Name-clause-tree : goal.returns-in_ok-name-in-Name-clause-tree
returns-in_ok-name-in-Name-clause-tree c =
    let seen : map lexeme c.args.tokens.now ≡ Lexeme.name c.in-Name.name.now ∷ map lexeme c.in-Some.rest.now = ap (map lexeme) c.in-Some.ensures.cases.0 ∙ ap (λ x. lexeme x ∷ map lexeme c.in-Some.rest.now) c.in-Name.is in
    let ends_so : ends 2 (map lexeme c.in-Some.rest.now) = c.ends_product.ensures c.if-not-ends_product.false in
    let v : VarTree = record { name = c.in-Name.name.now; indices = Tree.none } in
    let plain = variable_plain (map lexeme c.args.tokens.now) (map lexeme c.in-Some.rest.now) c.in-Name.name.now seen (λ r e. no_index (map lexeme c.in-Some.rest.now) r ends_so e) in
    let atom = variable_reads (map lexeme c.args.tokens.now) (map lexeme c.in-Some.rest.now) (map lexeme c.in-Some.rest.now) _ v seen plain in
    rw c.in_ok-name-in-Name.ensures.equal (atom_is_product (map lexeme c.args.tokens.now) (map lexeme c.in-Some.rest.now) _ (λ r e. cc) atom ends_so)
