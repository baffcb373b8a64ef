-- An atom is a product where no tighter operator stands before it or behind it, whatever follows.
use Rattle.std.proofs.Common.{◌≡◌, ◌<◌, List, ◌∷◌, subst, arith}
use Rattle.ctd_syntax.specs.Lexeme.{Lexeme, mark}
use Rattle.ctd_program.specs.Tree.{ExprTree}
use Rattle.ctd_syntax.specs.Grammar.{IsAtom, IsProduct}
use Rattle.ctd_syntax.specs.inner.Front.{HasTree}
use Rattle.ctd_syntax.specs.inner.Levels.{ends}
use Rattle.ctd_token.specs.declared.token.Mark.TheVariants.{Minus, Caret, OpenIndex}
use Rattle.ctd_syntax.proofs.StayAtoms.{atom_is_power, power_is_signed}
use Rattle.ctd_syntax.proofs.StayChains.{start, finish}
use Rattle.ctd_syntax.proofs.Levels.{products, no_product_operator}

no_caret : (us r : List Lexeme) → ends 2 us → us ≡ mark Caret ∷ r → ⊥
no_caret us r h e = let lt : 3 < 2 = subst (ends 2) e h in omega (arith, lt)

-- no index is at the front of what ends a product
pub no_index : (us r : List Lexeme) → ends 2 us → us ≡ mark OpenIndex ∷ r → ⊥
no_index us r h e = let lt : 4 < 2 = subst (ends 2) e h in omega (arith, lt)

pub atom_is_product : (tokens rest : List Lexeme) (a : ExprTree) → ((r : List Lexeme) → tokens ≡ mark Minus ∷ r → ⊥) → HasTree IsAtom (ends 4) tokens a rest → ends 2 rest → HasTree IsProduct (ends 2) tokens a rest
atom_is_product tokens rest a no_minus atom h =
    let signed = power_is_signed tokens no_minus a rest (atom_is_power tokens rest a atom (λ r e. no_caret rest r h e)) in
    finish products tokens a rest (start products tokens a rest signed) (no_product_operator rest h)
