-- Parentheses hold a test or an expression, and the tokens between them tell which.
use Rattle.std.proofs.Common.{◌≡◌, ℕ, suc, List, [], ◌∷◌, ◌++◌, Some, refl, ap, ◌∙◌, append_assoc, Bool, true, false}
use Rattle.ctd_syntax.specs.Lexeme.{Lexeme, mark}
use Rattle.ctd_program.specs.Tree.{ExprTree, ExprList, TestTree}
use Rattle.ctd_syntax.specs.Grammar
use Rattle.ctd_syntax.specs.Grammar.{IsExpr, IsProduct, IsSigned, IsPower, IsExponent, IsAtom, IsVariable, IsExprs, IsTest, IsBoth, IsNegation, IsSimpleTest, compare_mark}
use Rattle.ctd_syntax.specs.inner.TestGrammar.{holds_test}
use Rattle.ctd_token.specs.declared.token.Mark.TheVariants.{Open, Close, Plus, Minus, Times, Divide, Percent, Caret, Comma, CloseIndex, OrOr, AndAnd}
use Rattle.ctd_program.specs.declared.tree.Compare.{Compare}
use Rattle.ctd_program.specs.declared.tree.Compare.TheVariants.{Less, Greater, AtMost, AtLeast, Equal, Unequal}

-- whether a test stands within so many parentheses
abbrev pub H : ℕ → List Lexeme → Bool
H n ts = holds_test (Some n) ts

-- two parts with a token between them
over : (n : ℕ) (ts us rest : List Lexeme) (t : Lexeme) → H n (ts ++ t ∷ (us ++ rest)) ≡ H n rest → H n ((ts ++ t ∷ us) ++ rest) ≡ H n rest
over n ts us rest t e = ap (H n) (append_assoc ts (t ∷ us) rest) ∙ e

mutual
  -- an expression holds no test, and closes what it opens
  pub expr_skips : (n : ℕ) (ts rest : List Lexeme) (a : ExprTree) → IsExpr ts a → H n (ts ++ rest) ≡ H n rest
  expr_skips n ts rest a (Grammar.product i) = product_skips n ts rest a i
  expr_skips n ts rest a (Grammar.sum {ts = us} {us = vs} i j) = over n us vs rest (mark Plus) (expr_skips n us (mark Plus ∷ (vs ++ rest)) _ i ∙ product_skips n vs rest _ j)
  expr_skips n ts rest a (Grammar.difference {ts = us} {us = vs} i j) = over n us vs rest (mark Minus) (expr_skips n us (mark Minus ∷ (vs ++ rest)) _ i ∙ product_skips n vs rest _ j)

  product_skips : (n : ℕ) (ts rest : List Lexeme) (a : ExprTree) → IsProduct ts a → H n (ts ++ rest) ≡ H n rest
  product_skips n ts rest a (Grammar.signed i) = signed_skips n ts rest a i
  product_skips n ts rest a (Grammar.times {ts = us} {us = vs} i j) = over n us vs rest (mark Times) (product_skips n us (mark Times ∷ (vs ++ rest)) _ i ∙ signed_skips n vs rest _ j)
  product_skips n ts rest a (Grammar.quotient {ts = us} {us = vs} i j) = over n us vs rest (mark Divide) (product_skips n us (mark Divide ∷ (vs ++ rest)) _ i ∙ signed_skips n vs rest _ j)
  product_skips n ts rest a (Grammar.remainder {ts = us} {us = vs} i j) = over n us vs rest (mark Percent) (product_skips n us (mark Percent ∷ (vs ++ rest)) _ i ∙ signed_skips n vs rest _ j)

  signed_skips : (n : ℕ) (ts rest : List Lexeme) (a : ExprTree) → IsSigned ts a → H n (ts ++ rest) ≡ H n rest
  signed_skips n ts rest a (Grammar.unsigned i) = power_skips n ts rest a i
  signed_skips n ts rest a (Grammar.minus {ts = us} i) = signed_skips n us rest _ i

  power_skips : (n : ℕ) (ts rest : List Lexeme) (a : ExprTree) → IsPower ts a → H n (ts ++ rest) ≡ H n rest
  power_skips n ts rest a (Grammar.atom i) = atom_skips n ts rest a i
  power_skips n ts rest a (Grammar.power {ts = us} {us = vs} i j) = over n us vs rest (mark Caret) (atom_skips n us (mark Caret ∷ (vs ++ rest)) _ i ∙ exponent_skips n vs rest _ j)

  exponent_skips : (n : ℕ) (ts rest : List Lexeme) (a : ExprTree) → IsExponent ts a → H n (ts ++ rest) ≡ H n rest
  exponent_skips n ts rest a (Grammar.positive i) = power_skips n ts rest a i
  exponent_skips n ts rest a (Grammar.negative {ts = us} i) = exponent_skips n us rest _ i

  atom_skips : (n : ℕ) (ts rest : List Lexeme) (a : ExprTree) → IsAtom ts a → H n (ts ++ rest) ≡ H n rest
  atom_skips n ts rest a Grammar.numeral = refl
  atom_skips n ts rest a Grammar.text = refl
  atom_skips n ts rest a (Grammar.variable i) = variable_skips n ts rest _ _ i
  atom_skips n ts rest a (Grammar.strlen {ts = us} i) = ap (H (suc n)) (append_assoc us (mark Close ∷ []) rest) ∙ expr_skips (suc n) us (mark Close ∷ rest) _ i
  atom_skips n ts rest a (Grammar.group {ts = us} i) = ap (H (suc n)) (append_assoc us (mark Close ∷ []) rest) ∙ expr_skips (suc n) us (mark Close ∷ rest) _ i

  variable_skips : (n : ℕ) (ts rest : List Lexeme) (b : List ℕ) (l : ExprList) → IsVariable ts b l → H n (ts ++ rest) ≡ H n rest
  variable_skips n ts rest b l Grammar.unindexed = refl
  variable_skips n ts rest b l (Grammar.indexed {ts = us} i) = ap (H n) (append_assoc us (mark CloseIndex ∷ []) rest) ∙ exprs_skips n us (mark CloseIndex ∷ rest) _ i

  exprs_skips : (n : ℕ) (ts rest : List Lexeme) (l : ExprList) → IsExprs ts l → H n (ts ++ rest) ≡ H n rest
  exprs_skips n ts rest l (Grammar.one i) = expr_skips n ts rest _ i
  exprs_skips n ts rest l (Grammar.more {ts = us} {us = vs} i j) = over n us vs rest (mark Comma) (expr_skips n us (mark Comma ∷ (vs ++ rest)) _ i ∙ exprs_skips n vs rest _ j)

pub compare_tells : (by : Compare) (n : ℕ) (ts : List Lexeme) → H n (mark (compare_mark by) ∷ ts) ≡ true
compare_tells Less n ts = refl
compare_tells Greater n ts = refl
compare_tells AtMost n ts = refl
compare_tells AtLeast n ts = refl
compare_tells Equal n ts = refl
compare_tells Unequal n ts = refl

mutual
  -- a test says that it is one
  pub test_tells : (n : ℕ) (ts rest : List Lexeme) (a : TestTree) → IsTest ts a → H n (ts ++ rest) ≡ true
  test_tells n ts rest a (Grammar.both i) = both_tells n ts rest a i
  test_tells n ts rest a (Grammar.or {ts = us} {us = vs} i j) = ap (H n) (append_assoc us (mark OrOr ∷ vs) rest) ∙ test_tells n us (mark OrOr ∷ (vs ++ rest)) _ i

  both_tells : (n : ℕ) (ts rest : List Lexeme) (a : TestTree) → IsBoth ts a → H n (ts ++ rest) ≡ true
  both_tells n ts rest a (Grammar.negation i) = negated_tells n ts rest a i
  both_tells n ts rest a (Grammar.and {ts = us} {us = vs} i j) = ap (H n) (append_assoc us (mark AndAnd ∷ vs) rest) ∙ both_tells n us (mark AndAnd ∷ (vs ++ rest)) _ i

  negated_tells : (n : ℕ) (ts rest : List Lexeme) (a : TestTree) → IsNegation ts a → H n (ts ++ rest) ≡ true
  negated_tells n ts rest a (Grammar.simple i) = plain_tells n ts rest a i
  negated_tells n ts rest a (Grammar.not i) = refl

  plain_tells : (n : ℕ) (ts rest : List Lexeme) (a : TestTree) → IsSimpleTest ts a → H n (ts ++ rest) ≡ true
  plain_tells n ts rest a (Grammar.compare {ts = us} {us = vs} {by} i j) = ap (H n) (append_assoc us (mark (compare_mark by) ∷ vs) rest) ∙ expr_skips n us (mark (compare_mark by) ∷ (vs ++ rest)) _ i ∙ compare_tells by n (vs ++ rest)
  plain_tells n ts rest a (Grammar.matches i) = refl
  plain_tells n ts rest a Grammar.at_end = refl
  plain_tells n ts rest a (Grammar.unique i) = refl
  plain_tells n ts rest a (Grammar.in_array i) = refl
  plain_tells n ts rest a (Grammar.group {ts = us} i) = ap (H (suc n)) (append_assoc us (mark Close ∷ []) rest) ∙ test_tells (suc n) us (mark Close ∷ rest) _ i

-- what an expression begins with
abbrev pub Opening : List Lexeme → List Lexeme → Type 0
Opening ts us = (r : List Lexeme) → mark Open ∷ r ≡ ts ++ us → H 0 r ≡ false

pub split_over : (r ts vs us : List Lexeme) (t : Lexeme) → mark Open ∷ r ≡ (ts ++ t ∷ vs) ++ us → mark Open ∷ r ≡ ts ++ t ∷ (vs ++ us)
split_over r ts vs us t e = e ∙ append_assoc ts (t ∷ vs) us

atom_opening : (ts us : List Lexeme) (a : ExprTree) → IsAtom ts a → Opening ts us
atom_opening ts us a Grammar.numeral r e = absurd (cc)
atom_opening ts us a Grammar.text r e = absurd (cc)
atom_opening ts us a (Grammar.variable i) r e = absurd (no_variable _ _ _ us r i e)
  where
    no_variable : (ts : List Lexeme) (b : List ℕ) (l : ExprList) (us r : List Lexeme) → IsVariable ts b l → mark Open ∷ r ≡ ts ++ us → ⊥
    no_variable ts b l us r Grammar.unindexed e = cc
    no_variable ts b l us r (Grammar.indexed i) e = cc
atom_opening ts us a (Grammar.strlen i) r e = absurd (cc)
atom_opening ts us a (Grammar.group {ts = vs} i) r e =
    let k : r ≡ (vs ++ mark Close ∷ []) ++ us = cc in
    ap (H 0) (k ∙ append_assoc vs (mark Close ∷ []) us) ∙ expr_skips 0 vs (mark Close ∷ us) _ i

power_opening : (ts us : List Lexeme) (a : ExprTree) → IsPower ts a → Opening ts us
power_opening ts us a (Grammar.atom i) r e = atom_opening ts us a i r e
power_opening ts us a (Grammar.power {ts = vs} {us = ws} i j) r e = atom_opening vs (mark Caret ∷ (ws ++ us)) _ i r (split_over r vs ws us (mark Caret) e)

signed_opening : (ts us : List Lexeme) (a : ExprTree) → IsSigned ts a → Opening ts us
signed_opening ts us a (Grammar.unsigned i) r e = power_opening ts us a i r e
signed_opening ts us a (Grammar.minus i) r e = absurd (cc)

product_opening : (ts us : List Lexeme) (a : ExprTree) → IsProduct ts a → Opening ts us
product_opening ts us a (Grammar.signed i) r e = signed_opening ts us a i r e
product_opening ts us a (Grammar.times {ts = vs} {us = ws} i j) r e = product_opening vs (mark Times ∷ (ws ++ us)) _ i r (split_over r vs ws us (mark Times) e)
product_opening ts us a (Grammar.quotient {ts = vs} {us = ws} i j) r e = product_opening vs (mark Divide ∷ (ws ++ us)) _ i r (split_over r vs ws us (mark Divide) e)
product_opening ts us a (Grammar.remainder {ts = vs} {us = ws} i j) r e = product_opening vs (mark Percent ∷ (ws ++ us)) _ i r (split_over r vs ws us (mark Percent) e)

-- where an expression begins with a parenthesis, no test is in it
pub expr_opening : (ts us : List Lexeme) (a : ExprTree) → IsExpr ts a → Opening ts us
expr_opening ts us a (Grammar.product i) r e = product_opening ts us a i r e
expr_opening ts us a (Grammar.sum {ts = vs} {us = ws} i j) r e = expr_opening vs (mark Plus ∷ (ws ++ us)) _ i r (split_over r vs ws us (mark Plus) e)
expr_opening ts us a (Grammar.difference {ts = vs} {us = ws} i j) r e = expr_opening vs (mark Minus ∷ (ws ++ us)) _ i r (split_over r vs ws us (mark Minus) e)
