-- What a parenthesis holds is told before it closes; where a token before that fits nowhere, it fits in neither.
use Rattle.std.proofs.Common.{◌≡◌, ℕ, suc, List, [], ◌∷◌, ◌++◌, refl, sym, ap, ◌∙◌, subst, append_assoc, append-nil, true, false, ◌⊎◌, inl, inr}
use Rattle.ctd_syntax.specs.Lexeme.{Lexeme, mark, keyword}
use Rattle.ctd_program.specs.Tree
use Rattle.ctd_program.specs.Tree.{ExprTree, ExprList, TestTree}
use Rattle.ctd_syntax.specs.Grammar
use Rattle.ctd_syntax.specs.Grammar.{IsExpr, IsProduct, IsSigned, IsPower, IsAtom, IsVariable, IsTest, IsBoth, IsNegation, IsSimpleTest, compare_mark}
use Rattle.ctd_syntax.specs.inner.Front.{NoTree, Always, IsBefore, first_of}
use Rattle.ctd_syntax.specs.inner.Levels.{ends}
use Rattle.ctd_syntax.specs.inner.TestGrammar.{IsComparison}
use Rattle.ctd_token.specs.declared.token.Mark.TheVariants.{Open, Close, Bang, Plus, Minus, Times, Divide, Percent, Caret, OrOr, AndAnd}
use Rattle.ctd_token.specs.declared.token.Mark.TheVariants as marks
use Rattle.ctd_program.specs.declared.tree.Compare.TheVariants.{Less}
use Rattle.ctd_syntax.specs.declared.keyword.Keyword.TheVariants.{Match, IsEof, Unique, InArray}
use Rattle.ctd_syntax.proofs.Groups.{H, split_over, expr_skips, compare_tells}
use Rattle.ctd_syntax.proofs.Staying.{begins}
use Rattle.ctd_syntax.proofs.StayAtoms.{some_expr}

-- two ways to part the same tokens
parted : (a b c ms : List Lexeme) (t : Lexeme) → a ++ b ≡ c ++ t ∷ ms → ((xs : List Lexeme) × (c ≡ a ++ xs) × (b ≡ xs ++ t ∷ ms)) ⊎ ((xs : List Lexeme) × (a ≡ c ++ t ∷ xs))
parted [] b c ms t e = inl (c, refl, e)
parted (x ∷ a) b [] ms t e = let same : x ≡ t = cc in inr (a, ap (λ y. y ∷ a) same)
parted (x ∷ a) b (y ∷ c) ms t e =
    let same : x ≡ y = cc in
    let tails : a ++ b ≡ c ++ t ∷ ms = cc in
    elim (parted a b c ms t tails) [
      | inl p ↦ inl (p.0, ap (λ z. z ∷ c) (sym same) ∙ ap (λ l. x ∷ l) p.1, p.2)
      | inr p ↦ inr (p.0, ap (λ z. z ∷ a) same ∙ ap (λ l. y ∷ l) p.1)
    ]

-- an expression that begins with a parenthesis begins with one in parentheses
abbrev Grouped : List Lexeme → List Lexeme → Type 0
Grouped ts us = (r : List Lexeme) → mark Open ∷ r ≡ ts ++ us → (es ms : List Lexeme) × (b : ExprTree) × (r ≡ es ++ mark Close ∷ ms) × IsExpr es b

atom_grouped : (ts us : List Lexeme) (a : ExprTree) → IsAtom ts a → Grouped ts us
atom_grouped ts us a Grammar.numeral r e = absurd (cc)
atom_grouped ts us a Grammar.text r e = absurd (cc)
atom_grouped ts us a (Grammar.variable i) r e = absurd (no_variable _ _ _ us r i e)
  where
    no_variable : (ts : List Lexeme) (b : List ℕ) (l : ExprList) (us r : List Lexeme) → IsVariable ts b l → mark Open ∷ r ≡ ts ++ us → ⊥
    no_variable ts b l us r Grammar.unindexed e = cc
    no_variable ts b l us r (Grammar.indexed i) e = cc
atom_grouped ts us a (Grammar.strlen i) r e = absurd (cc)
atom_grouped ts us a (Grammar.group {ts = vs} i) r e =
    let k : r ≡ (vs ++ mark Close ∷ []) ++ us = cc in
    (vs, us, a, k ∙ append_assoc vs (mark Close ∷ []) us, i)

power_grouped : (ts us : List Lexeme) (a : ExprTree) → IsPower ts a → Grouped ts us
power_grouped ts us a (Grammar.atom i) r e = atom_grouped ts us a i r e
power_grouped ts us a (Grammar.power {ts = vs} {us = ws} i j) r e = atom_grouped vs (mark Caret ∷ (ws ++ us)) _ i r (split_over r vs ws us (mark Caret) e)

signed_grouped : (ts us : List Lexeme) (a : ExprTree) → IsSigned ts a → Grouped ts us
signed_grouped ts us a (Grammar.unsigned i) r e = power_grouped ts us a i r e
signed_grouped ts us a (Grammar.minus i) r e = absurd (cc)

product_grouped : (ts us : List Lexeme) (a : ExprTree) → IsProduct ts a → Grouped ts us
product_grouped ts us a (Grammar.signed i) r e = signed_grouped ts us a i r e
product_grouped ts us a (Grammar.times {ts = vs} {us = ws} i j) r e = product_grouped vs (mark Times ∷ (ws ++ us)) _ i r (split_over r vs ws us (mark Times) e)
product_grouped ts us a (Grammar.quotient {ts = vs} {us = ws} i j) r e = product_grouped vs (mark Divide ∷ (ws ++ us)) _ i r (split_over r vs ws us (mark Divide) e)
product_grouped ts us a (Grammar.remainder {ts = vs} {us = ws} i j) r e = product_grouped vs (mark Percent ∷ (ws ++ us)) _ i r (split_over r vs ws us (mark Percent) e)

expr_grouped : (ts us : List Lexeme) (a : ExprTree) → IsExpr ts a → Grouped ts us
expr_grouped ts us a (Grammar.product i) r e = product_grouped ts us a i r e
expr_grouped ts us a (Grammar.sum {ts = vs} {us = ws} i j) r e = expr_grouped vs (mark Plus ∷ (ws ++ us)) _ i r (split_over r vs ws us (mark Plus) e)
expr_grouped ts us a (Grammar.difference {ts = vs} {us = ws} i j) r e = expr_grouped vs (mark Minus ∷ (ws ++ us)) _ i r (split_over r vs ws us (mark Minus) e)

-- an expression compared with a numeral
compared : {es : List Lexeme} {b : ExprTree} → IsExpr es b → IsTest (es ++ mark marks.Less ∷ some_expr.0) (Tree.compare Less b some_expr.1)
compared i = Grammar.both (Grammar.negation (Grammar.simple (Grammar.compare {by = Less} i some_expr.2)))

-- where no test goes on in a parenthesis that holds one, no expression does
pub no_expr_in_test : (r seen rest others : List Lexeme) → H 0 r ≡ true → r ≡ seen ++ rest → first_of others ≡ first_of rest → ((others : List Lexeme) → first_of others ≡ first_of rest → NoTree (IsBefore Close IsTest) Always (seen ++ others)) → (ls vs : List Lexeme) (a : ExprTree) → mark Open ∷ (seen ++ others) ≡ ls ++ vs → IsExpr ls a → ⊥
no_expr_in_test r seen rest others q split g none ls vs a parts i =
    let w = expr_grouped ls vs a i (seen ++ others) parts in
    elim (parted seen others w.0 w.1 (mark Close) w.3) [
      | inl p ↦ behind p.0 p.1 p.2
      | inr p ↦ (let closes : H 0 r ≡ false = ap (H 0) (split ∙ ap (λ l. l ++ rest) p.1 ∙ append_assoc w.0 (mark Close ∷ p.0) rest) ∙ expr_skips 0 w.0 (mark Close ∷ (p.0 ++ rest)) w.2 w.4 in cc)
    ]
  where
    regroup : (seen xs more es : List Lexeme) → es ≡ seen ++ xs → seen ++ (xs ++ (more ++ mark Close ∷ [])) ≡ ((es ++ more) ++ mark Close ∷ []) ++ []
    regroup seen xs more es same =
        sym (append_assoc seen xs (more ++ mark Close ∷ [])) ∙ ap (λ l. l ++ (more ++ mark Close ∷ [])) (sym same) ∙ sym (append_assoc es more (mark Close ∷ [])) ∙ sym (append-nil ((es ++ more) ++ mark Close ∷ []))

    behind : (xs : List Lexeme) → (expr_grouped ls vs a i (seen ++ others) parts).0 ≡ seen ++ xs → others ≡ xs ++ mark Close ∷ (expr_grouped ls vs a i (seen ++ others) parts).1 → ⊥
    behind [] same others_are =
        let w = expr_grouped ls vs a i (seen ++ others) parts in
        let s = begins rest (mark Close) (sym g ∙ ap first_of others_are) in
        let whole : r ≡ w.0 ++ mark Close ∷ s.0 = split ∙ ap (λ l. seen ++ l) s.1 ∙ ap (λ l. l ++ mark Close ∷ s.0) (sym (same ∙ append-nil seen)) in
        let closes : H 0 r ≡ false = ap (H 0) whole ∙ expr_skips 0 w.0 (mark Close ∷ s.0) w.2 w.4 in
        cc
    behind (x ∷ xs) same others_are =
        let w = expr_grouped ls vs a i (seen ++ others) parts in
        let more : List Lexeme = mark marks.Less ∷ some_expr.0 in
        none ((x ∷ xs) ++ (more ++ mark Close ∷ [])) (sym (ap first_of others_are) ∙ g) ((w.0 ++ more) ++ mark Close ∷ []) [] (Tree.compare Less w.2 some_expr.1)
        (regroup seen (x ∷ xs) more w.0 same) tt (w.0 ++ more, refl, compared w.4)

-- the first token of a test that tells it; an expression can begin with those before
abbrev FirstTest : List Lexeme → Type 0
FirstTest ws = (ys zs vs : List Lexeme) × (t : Lexeme) × (b : ExprTree) × (ws ≡ ys ++ t ∷ zs) × IsExpr (ys ++ vs) b × ((n : ℕ) (rest : List Lexeme) → H n (ys ++ t ∷ rest) ≡ true)

-- the first token alone tells it
at_once : (t : Lexeme) (ts : List Lexeme) → ((n : ℕ) (rest : List Lexeme) → H n (t ∷ rest) ≡ true) → FirstTest (t ∷ ts)
at_once t ts tells = ([], ts, some_expr.0, t, some_expr.1, refl, some_expr.2, tells)

longer : (ws us : List Lexeme) → FirstTest ws → FirstTest (ws ++ us)
longer ws us f = (f.0, f.1 ++ us, f.2, f.3, f.4, ap (λ l. l ++ us) f.5 ∙ append_assoc f.0 (f.3 ∷ f.1) us, f.6, f.7)

-- in parentheses it is the same
in_group : (us : List Lexeme) → FirstTest us → FirstTest (mark Open ∷ us ++ mark Close ∷ [])
in_group us f =
    let same : (f.0 ++ f.2) ++ mark Close ∷ [] ≡ f.0 ++ (f.2 ++ mark Close ∷ []) = append_assoc f.0 f.2 (mark Close ∷ []) in
    let inner : IsExpr (mark Open ∷ (f.0 ++ f.2) ++ mark Close ∷ []) f.4 = Grammar.product (Grammar.signed (Grammar.unsigned (Grammar.atom (Grammar.group f.6)))) in
    (mark Open ∷ f.0, f.1 ++ mark Close ∷ [], f.2 ++ mark Close ∷ [], f.3, f.4, ap (λ l. mark Open ∷ l ++ mark Close ∷ []) f.5 ∙ ap (λ l. mark Open ∷ l) (append_assoc f.0 (f.3 ∷ f.1) (mark Close ∷ [])), subst (λ l. IsExpr (mark Open ∷ l) f.4) same inner, λ n rest. f.7 (suc n) rest)

mutual
  test_first : (ts : List Lexeme) (a : TestTree) → IsTest ts a → FirstTest ts
  test_first ts a (Grammar.both i) = both_first ts a i
  test_first ts a (Grammar.or {ts = us} {us = vs} i j) = longer us (mark OrOr ∷ vs) (test_first us _ i)

  both_first : (ts : List Lexeme) (a : TestTree) → IsBoth ts a → FirstTest ts
  both_first ts a (Grammar.negation i) = negated_first ts a i
  both_first ts a (Grammar.and {ts = us} {us = vs} i j) = longer us (mark AndAnd ∷ vs) (both_first us _ i)

  negated_first : (ts : List Lexeme) (a : TestTree) → IsNegation ts a → FirstTest ts
  negated_first ts a (Grammar.simple i) = plain_first ts a i
  negated_first ts a (Grammar.not {ts = us} i) = at_once (mark Bang) us (λ n rest. refl)

  plain_first : (ts : List Lexeme) (a : TestTree) → IsSimpleTest ts a → FirstTest ts
  plain_first ts a (Grammar.compare {ts = us} {us = vs} {a = b} {by} i j) =
      (us, vs, [], mark (compare_mark by), b, refl, subst (λ l. IsExpr l b) (sym (append-nil us)) i, λ n rest. expr_skips n us (mark (compare_mark by) ∷ rest) b i ∙ compare_tells by n rest)
  plain_first ts a (Grammar.matches {ts = us} {at} i) = at_once (keyword Match at) (mark Open ∷ us ++ mark Close ∷ []) (λ n rest. refl)
  plain_first ts a (Grammar.at_end {at}) = at_once (keyword IsEof at) [] (λ n rest. refl)
  plain_first ts a (Grammar.unique {ts = us} {at} i) = at_once (keyword Unique at) (mark Open ∷ us ++ mark Close ∷ []) (λ n rest. refl)
  plain_first ts a (Grammar.in_array {ts = us} {name} {at} i) = at_once (keyword InArray at) (mark Open ∷ us ++ mark marks.Comma ∷ Lexeme.name name ∷ mark Close ∷ []) (λ n rest. refl)
  plain_first ts a (Grammar.group {ts = us} i) = in_group us (test_first us _ i)

-- an expression in parentheses, compared with a numeral
group_compared : (es : List Lexeme) (b : ExprTree) → IsExpr es b → IsComparison ((mark Open ∷ es ++ mark Close ∷ []) ++ mark marks.Less ∷ some_expr.0) (Tree.compare Less b some_expr.1)
group_compared es b i =
    let group : List Lexeme = mark Open ∷ es ++ mark Close ∷ [] in
    (((b, Less), some_expr.1), refl, (group ++ mark marks.Less ∷ [], some_expr.0, sym (append_assoc group (mark marks.Less ∷ []) some_expr.0), (group, refl, Grammar.product (Grammar.signed (Grammar.unsigned (Grammar.atom (Grammar.group i))))), some_expr.2))

-- where no comparison goes on at a parenthesis that holds no test, no test in parentheses does
pub no_test_in_expr : (tokens seen rest others : List Lexeme) → ((r : List Lexeme) → tokens ≡ mark Open ∷ r → H 0 r ≡ false) → tokens ≡ seen ++ rest → first_of others ≡ first_of rest → ((others : List Lexeme) → first_of others ≡ first_of rest → NoTree IsComparison (ends 1) (seen ++ others)) → (ws us : List Lexeme) (u : TestTree) → seen ++ others ≡ mark Open ∷ (ws ++ mark Close ∷ us) → IsTest ws u → ⊥
no_test_in_expr tokens [] rest others holds split g none ws us u parts i =
    let group : List Lexeme = mark Open ∷ some_expr.0 ++ mark Close ∷ [] in
    none (group ++ mark marks.Less ∷ some_expr.0) (sym (ap first_of parts) ∙ g) (group ++ mark marks.Less ∷ some_expr.0) [] (Tree.compare Less some_expr.1 some_expr.1) (sym (append-nil (group ++ mark marks.Less ∷ some_expr.0))) tt (group_compared some_expr.0 some_expr.1 some_expr.2)
no_test_in_expr tokens (s ∷ seen) rest others holds split g none ws us u parts i =
    let paren : s ≡ mark Open = cc in
    let tail : seen ++ others ≡ ws ++ mark Close ∷ us = cc in
    let opened : tokens ≡ mark Open ∷ (seen ++ rest) = split ∙ ap (λ x. x ∷ (seen ++ rest)) paren in
    in_parentheses (seen ++ rest) seen rest others (holds (seen ++ rest) opened) refl g (λ os e. subst (λ x. NoTree IsComparison (ends 1) (x ∷ (seen ++ os))) paren (none os e)) ws us u tail i
  where
    regroup : (seen xs vs ys : List Lexeme) → ys ≡ seen ++ xs → seen ++ (xs ++ (vs ++ mark Close ∷ mark marks.Less ∷ some_expr.0)) ≡ (((ys ++ vs) ++ mark Close ∷ []) ++ mark marks.Less ∷ some_expr.0) ++ []
    regroup seen xs vs ys same =
        let more : List Lexeme = mark Close ∷ mark marks.Less ∷ some_expr.0 in
        sym (append_assoc seen xs (vs ++ more)) ∙ ap (λ l. l ++ (vs ++ more)) (sym same) ∙ sym (append_assoc ys vs more) ∙ sym (append_assoc (ys ++ vs) (mark Close ∷ []) (mark marks.Less ∷ some_expr.0)) ∙ sym (append-nil (((ys ++ vs) ++ mark Close ∷ []) ++ mark marks.Less ∷ some_expr.0))

    behind : (r seen rest others : List Lexeme) → H 0 r ≡ false → r ≡ seen ++ rest → first_of others ≡ first_of rest → ((others : List Lexeme) → first_of others ≡ first_of rest → NoTree IsComparison (ends 1) (mark Open ∷ (seen ++ others))) → (ys vs : List Lexeme) (t : Lexeme) (b : ExprTree) (ms : List Lexeme) → IsExpr (ys ++ vs) b → ((n : ℕ) (rest : List Lexeme) → H n (ys ++ t ∷ rest) ≡ true) → (xs : List Lexeme) → ys ≡ seen ++ xs → others ≡ xs ++ t ∷ ms → ⊥
    behind r seen rest others q split g none ys vs t b ms i tells [] same others_are =
        let s = begins rest t (sym g ∙ ap first_of others_are) in
        let whole : r ≡ ys ++ t ∷ s.0 = split ∙ ap (λ l. seen ++ l) s.1 ∙ ap (λ l. l ++ t ∷ s.0) (sym (same ∙ append-nil seen)) in
        let told : H 0 r ≡ true = ap (H 0) whole ∙ tells 0 s.0 in
        cc
    behind r seen rest others q split g none ys vs t b ms i tells (x ∷ xs) same others_are =
        let more : List Lexeme = mark Close ∷ mark marks.Less ∷ some_expr.0 in
        let group : List Lexeme = mark Open ∷ (ys ++ vs) ++ mark Close ∷ [] in
        none ((x ∷ xs) ++ (vs ++ more)) (sym (ap first_of others_are) ∙ g) (group ++ mark marks.Less ∷ some_expr.0) [] (Tree.compare Less b some_expr.1)
        (ap (λ l. mark Open ∷ l) (regroup seen (x ∷ xs) vs ys same)) tt (group_compared (ys ++ vs) b i)

    in_parentheses : (r seen rest others : List Lexeme) → H 0 r ≡ false → r ≡ seen ++ rest → first_of others ≡ first_of rest → ((others : List Lexeme) → first_of others ≡ first_of rest → NoTree IsComparison (ends 1) (mark Open ∷ (seen ++ others))) → (ws us : List Lexeme) (u : TestTree) → seen ++ others ≡ ws ++ mark Close ∷ us → IsTest ws u → ⊥
    in_parentheses r seen rest others q split g none ws us u tail i =
        let f = test_first ws u i in
        let whole : seen ++ others ≡ f.0 ++ f.3 ∷ (f.1 ++ mark Close ∷ us) = tail ∙ ap (λ l. l ++ mark Close ∷ us) f.5 ∙ append_assoc f.0 (f.3 ∷ f.1) (mark Close ∷ us) in
        elim (parted seen others f.0 (f.1 ++ mark Close ∷ us) f.3 whole) [
          | inl p ↦ behind r seen rest others q split g none f.0 f.2 f.3 f.4 (f.1 ++ mark Close ∷ us) f.6 f.7 p.0 p.1 p.2
          | inr p ↦ (let tells : H 0 r ≡ true = ap (H 0) (split ∙ ap (λ l. l ++ rest) p.1 ∙ append_assoc f.0 (f.3 ∷ p.0) rest) ∙ f.7 0 (p.0 ++ rest) in cc)
        ]
