-- Sums and products are levels of operators.
use Rattle.std.proofs.Common.{◌≡◌, ℕ, ◌<◌, List, [], ◌∷◌, ◌++◌, Option, Some, None, refl, sym, ap, ◌∙◌, subst, append_assoc, append-nil, arith}
use Rattle.ctd_syntax.specs.Lexeme.{Lexeme, mark}
use Rattle.ctd_program.specs.Tree.{ExprTree}
use Rattle.ctd_syntax.specs.Grammar.{IsExpr, product, sum, difference, IsProduct, signed, times, quotient, remainder, IsSigned}
use Rattle.ctd_syntax.specs.inner.Front.{after_operator, operator_at}
use Rattle.ctd_syntax.specs.inner.Levels.{binding, ends, sum_operator, product_operator, join}
use Rattle.ctd_token.specs.declared.token.Mark.TheVariants.{Plus, Minus, Times, Divide, Percent}
use Rattle.ctd_syntax.specs.declared.expression.Operator.{Operator}
use Rattle.ctd_syntax.specs.declared.expression.Operator.TheVariants.{Add, Sub, Mul, Div, Rem}
use Rattle.ctd_syntax.proofs.Chains.{Chain, stop, Level, longer}

-- what ends a level ends the tighter ones
pub ends_weaker : (m n : ℕ) → m < n → (us : List Lexeme) → ends m us → ends n us
ends_weaker m n lt [] h = tt
ends_weaker m n lt (t ∷ us) h = omega (arith, lt, h)

-- one item and a chain of them
abbrev First : (List Lexeme → ExprTree → Type 0) → (Lexeme → Option Operator) → List Lexeme → ExprTree → Type 0
First Item op ts a = (us vs : List Lexeme) × (p : ExprTree) × (ts ≡ us ++ vs) × Item us p × Chain Item op join p vs a

one_more : (Item : List Lexeme → ExprTree → Type 0) (op : Lexeme → Option Operator) (ts us : List Lexeme) (a b : ExprTree) (t : Lexeme) (o : Operator) → First Item op ts a → op t ≡ Some o → Item us b → First Item op (ts ++ t ∷ us) (join o a b)
one_more Item op ts us a b t o c e i =
    (c.0, c.1 ++ t ∷ us, c.2, ap (λ l. l ++ t ∷ us) c.3 ∙ append_assoc c.0 c.1 (t ∷ us), c.4, longer Item op join c.1 us b t o c.5 e i)

just_one : (Item : List Lexeme → ExprTree → Type 0) (op : Lexeme → Option Operator) (ts : List Lexeme) (a : ExprTree) → Item ts a → First Item op ts a
just_one Item op ts a i = (ts, [], a, sym (append-nil ts), i, stop)

sum_chain : (ts : List Lexeme) (a : ExprTree) → IsExpr ts a → First IsProduct sum_operator ts a
sum_chain ts a (product i) = just_one IsProduct sum_operator ts a i
sum_chain ts a (sum {ts = us} {us = vs} {a = b} {b = c} e i) = one_more IsProduct sum_operator us vs b c (mark Plus) Add (sum_chain us b e) refl i
sum_chain ts a (difference {ts = us} {us = vs} {a = b} {b = c} e i) = one_more IsProduct sum_operator us vs b c (mark Minus) Sub (sum_chain us b e) refl i

sum_more : {ts us : List Lexeme} {a b : ExprTree} (t : Lexeme) (o : Operator) → IsExpr ts a → sum_operator t ≡ Some o → IsProduct us b → IsExpr (ts ++ t ∷ us) (join o a b)
sum_more {ts} {us} {a} {b} (mark Plus) o e is i = let same : Add ≡ o = cc in subst (λ x. IsExpr (ts ++ mark Plus ∷ us) (join x a b)) same (sum e i)
sum_more {ts} {us} {a} {b} (mark Minus) o e is i = let same : Sub ≡ o = cc in subst (λ x. IsExpr (ts ++ mark Minus ∷ us) (join x a b)) same (difference e i)
sum_more _ o e is i = absurd (cc)

sum_binds : (t : Lexeme) (o : Operator) → sum_operator t ≡ Some o → binding t ≡ 1
sum_binds (mark Plus) o e = refl
sum_binds (mark Minus) o e = refl
sum_binds _ o e = absurd (cc)

pub sums : Level IsExpr IsProduct (ends 1) (ends 2) sum_operator join
sums = record {
  one = product;
  more = sum_more;
  chain = λ whole. sum_chain _ _ whole;
  weaker = ends_weaker 1 2 (omega arith);
  goes_on = λ t o us is. omega (arith, sum_binds t o is);
  ended = λ t o us is h. omega (arith, sum_binds t o is, h);
}

product_chain : (ts : List Lexeme) (a : ExprTree) → IsProduct ts a → First IsSigned product_operator ts a
product_chain ts a (signed i) = just_one IsSigned product_operator ts a i
product_chain ts a (times {ts = us} {us = vs} {a = b} {b = c} e i) = one_more IsSigned product_operator us vs b c (mark Times) Mul (product_chain us b e) refl i
product_chain ts a (quotient {ts = us} {us = vs} {a = b} {b = c} e i) = one_more IsSigned product_operator us vs b c (mark Divide) Div (product_chain us b e) refl i
product_chain ts a (remainder {ts = us} {us = vs} {a = b} {b = c} e i) = one_more IsSigned product_operator us vs b c (mark Percent) Rem (product_chain us b e) refl i

product_more : {ts us : List Lexeme} {a b : ExprTree} (t : Lexeme) (o : Operator) → IsProduct ts a → product_operator t ≡ Some o → IsSigned us b → IsProduct (ts ++ t ∷ us) (join o a b)
product_more {ts} {us} {a} {b} (mark Times) o e is i = let same : Mul ≡ o = cc in subst (λ x. IsProduct (ts ++ mark Times ∷ us) (join x a b)) same (times e i)
product_more {ts} {us} {a} {b} (mark Divide) o e is i = let same : Div ≡ o = cc in subst (λ x. IsProduct (ts ++ mark Divide ∷ us) (join x a b)) same (quotient e i)
product_more {ts} {us} {a} {b} (mark Percent) o e is i = let same : Rem ≡ o = cc in subst (λ x. IsProduct (ts ++ mark Percent ∷ us) (join x a b)) same (remainder e i)
product_more _ o e is i = absurd (cc)

product_binds : (t : Lexeme) (o : Operator) → product_operator t ≡ Some o → binding t ≡ 2
product_binds (mark Times) o e = refl
product_binds (mark Divide) o e = refl
product_binds (mark Percent) o e = refl
product_binds _ o e = absurd (cc)

-- no operator of a product is at the front of what ends one
pub no_product_operator : (us : List Lexeme) → ends 2 us → operator_at product_operator us ≡ None
no_product_operator [] h = refl
no_product_operator (t ∷ us) h = ap (λ o. after_operator o us) (none t h (product_operator t) refl)
  where
    none : (t : Lexeme) → binding t < 2 → (o : Option Operator) → product_operator t ≡ o → product_operator t ≡ None
    none t h None is = is
    none t h (Some o) is = absurd (omega (arith, product_binds t o is, h))

pub products : Level IsProduct IsSigned (ends 2) (ends 3) product_operator join
products = record {
  one = signed;
  more = product_more;
  chain = λ whole. product_chain _ _ whole;
  weaker = ends_weaker 2 3 (omega arith);
  goes_on = λ t o us is. omega (arith, product_binds t o is);
  ended = λ t o us is h. omega (arith, product_binds t o is, h);
}
