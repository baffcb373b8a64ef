-- A test without operators is told by its first token, and a parenthesis by what it holds.
use Rattle.std.proofs.Common.{◌≡◌, ℕ, ◌<◌, List, [], ◌∷◌, ◌++◌, Some, None, refl, sym, ap, ◌∙◌, subst, append_assoc, arith, Bool, true, false}
use Rattle.ctd_syntax.specs.Lexeme.{Lexeme, mark, keyword}
use Rattle.ctd_program.specs.Tree
use Rattle.ctd_program.specs.Tree.{ExprTree, ExprList, TestTree}
use Rattle.ctd_syntax.specs.Grammar
use Rattle.ctd_syntax.specs.Grammar.{IsExpr, IsProduct, IsSigned, IsPower, IsAtom, IsVariable, IsNames, IsTest, IsNegation, IsSimpleTest, compare_mark}
use Rattle.ctd_syntax.specs.inner.Front.{OneTree, NoTree, Always, IsBefore, IsAfter, IsPair, IsName, Spelling, operator_at, after_operator}
use Rattle.ctd_syntax.specs.inner.Levels.{binding, ends}
use Rattle.ctd_syntax.specs.inner.TestGrammar.{test_keyword, asks, IsTestCall, IsLeft, IsComparison, compare_operator, holds_test}
use Rattle.ctd_token.specs.declared.token.Mark.TheVariants.{Open, Close, Comma, Plus, Minus, Times, Divide, Percent, Caret, Bang}
use Rattle.ctd_token.specs.declared.token.Mark.TheVariants as marks
use Rattle.ctd_program.specs.declared.tree.Compare.{Compare}
use Rattle.ctd_program.specs.declared.tree.Compare.TheVariants.{Less, Greater, AtMost, AtLeast, Equal, Unequal}
use Rattle.ctd_syntax.specs.declared.keyword.Keyword.{Keyword}
use Rattle.ctd_syntax.specs.declared.keyword.Keyword.TheVariants.{Match, IsEof, Unique, InArray, Strlen}
use Rattle.ctd_syntax.proofs.Chains.{operator_is}
use Rattle.ctd_syntax.proofs.Fronts.{built, not_built, after_reads, after_none, not_after, pair_reads, first_none, second_none, before_reads, name_found}
use Rattle.ctd_syntax.proofs.Groups.{expr_opening, test_tells}

-- comparisons and their marks
pub compare_is : (t : Lexeme) (by : Compare) → compare_operator t ≡ Some by → t ≡ mark (compare_mark by)
compare_is (mark marks.Less) by e = let h : Less ≡ by = cc in ap (λ x. mark (compare_mark x)) h
compare_is (mark marks.Greater) by e = let h : Greater ≡ by = cc in ap (λ x. mark (compare_mark x)) h
compare_is (mark marks.AtMost) by e = let h : AtMost ≡ by = cc in ap (λ x. mark (compare_mark x)) h
compare_is (mark marks.AtLeast) by e = let h : AtLeast ≡ by = cc in ap (λ x. mark (compare_mark x)) h
compare_is (mark marks.Equal) by e = let h : Equal ≡ by = cc in ap (λ x. mark (compare_mark x)) h
compare_is (mark marks.Unequal) by e = let h : Unequal ≡ by = cc in ap (λ x. mark (compare_mark x)) h
compare_is _ by e = absurd (cc)

is_compare : (by : Compare) → compare_operator (mark (compare_mark by)) ≡ Some by
is_compare Less = refl
is_compare Greater = refl
is_compare AtMost = refl
is_compare AtLeast = refl
is_compare Equal = refl
is_compare Unequal = refl

compare_binds : (by : Compare) → binding (mark (compare_mark by)) < 1
compare_binds Less = omega arith
compare_binds Greater = omega arith
compare_binds AtMost = omega arith
compare_binds AtLeast = omega arith
compare_binds Equal = omega arith
compare_binds Unequal = omega arith

left_split : (tokens ts us vs : List Lexeme) (by : Compare) → tokens ≡ ts ++ us → ts ≡ vs ++ mark (compare_mark by) ∷ [] → tokens ≡ vs ++ mark (compare_mark by) ∷ us
left_split tokens ts us vs by split w = split ∙ ap (λ l. l ++ us) w ∙ append_assoc vs (mark (compare_mark by) ∷ []) us

same_some : {A : Type 0} {a b : A} → Some a ≡ Some b → a ≡ b
same_some e = cc

pub left_reads : (tokens rest r : List Lexeme) (a : ExprTree) (by : Compare) → OneTree IsExpr (ends 1) tokens a rest → operator_at compare_operator rest ≡ Some (by, r) → OneTree IsLeft Always tokens (a, by) r
left_reads tokens rest r a by f e =
    let is = operator_is compare_operator rest r by e in
    let marked : rest ≡ mark (compare_mark by) ∷ r = is.1 ∙ ap (λ t. t ∷ r) (compare_is is.0 by is.2) in
    record {
      front = f.front ++ mark (compare_mark by) ∷ [];
      split = f.split ∙ ap (λ l. f.front ++ l) marked ∙ sym (append_assoc f.front (mark (compare_mark by) ∷ []) r);
      spells = (f.front, refl, f.spells);
      only = λ ts us u split h w.
          let same = f.only w.0 (mark (compare_mark u.1) ∷ us) u.0 (left_split tokens ts us w.0 u.1 split w.1) (compare_binds u.1) w.2 in
          let front : mark (compare_mark u.1) ∷ us ≡ mark (compare_mark by) ∷ r = same.1 ∙ marked in
          let tail : us ≡ r = cc in
          let first : mark (compare_mark u.1) ≡ mark (compare_mark by) = cc in
          let by_is : u.1 ≡ by = same_some (sym (is_compare u.1) ∙ ap compare_operator first ∙ is_compare by) in
          (ap (λ x. (x, u.1)) same.0 ∙ ap (λ x. (a, x)) by_is, tail);
    }

pub left_unmarked : (tokens rest : List Lexeme) (a : ExprTree) → OneTree IsExpr (ends 1) tokens a rest → operator_at compare_operator rest ≡ None → NoTree IsLeft Always tokens
left_unmarked tokens rest a f none ts us u split h w =
    let same = f.only w.0 (mark (compare_mark u.1) ∷ us) u.0 (left_split tokens ts us w.0 u.1 split w.1) (compare_binds u.1) w.2 in
    let found : operator_at compare_operator rest ≡ Some (u.1, us) = ap (operator_at compare_operator) (sym same.1) ∙ ap (λ x. after_operator x us) (is_compare u.1) in
    cc

pub no_left : (tokens : List Lexeme) → NoTree IsExpr (ends 1) tokens → NoTree IsLeft Always tokens
no_left tokens not ts us u split h w = not w.0 (mark (compare_mark u.1) ∷ us) u.0 (left_split tokens ts us w.0 u.1 split w.1) (compare_binds u.1) w.2

pub compared_reads : (tokens rest after : List Lexeme) (x : ExprTree × Compare) (b : ExprTree) → OneTree IsLeft Always tokens x rest → OneTree IsExpr (ends 1) rest b after → OneTree IsComparison (ends 1) tokens (Tree.compare x.1 x.0 b) after
compared_reads tokens rest after x b f g = built (λ x. Tree.compare x.0.1 x.0.0 x.1) (IsPair IsLeft IsExpr) (ends 1) tokens after (x, b) (pair_reads IsLeft IsExpr Always (ends 1) (λ vs us b i h. tt) tokens rest after x b f g)

pub compared_no_left : (tokens : List Lexeme) → NoTree IsLeft Always tokens → NoTree IsComparison (ends 1) tokens
compared_no_left tokens not = not_built (λ x. Tree.compare x.0.1 x.0.0 x.1) (IsPair IsLeft IsExpr) (ends 1) tokens (first_none IsLeft IsExpr Always (ends 1) (λ vs us b i h. tt) tokens not)

pub compared_no_right : (tokens rest : List Lexeme) (x : ExprTree × Compare) → OneTree IsLeft Always tokens x rest → NoTree IsExpr (ends 1) rest → NoTree IsComparison (ends 1) tokens
compared_no_right tokens rest x f not = not_built (λ x. Tree.compare x.0.1 x.0.0 x.1) (IsPair IsLeft IsExpr) (ends 1) tokens (second_none IsLeft IsExpr Always (ends 1) (λ vs us b i h. tt) tokens rest x f not)

-- behind MATCH
pub match_reads : (tokens r after : List Lexeme) (a : ExprTree) → tokens ≡ mark Open ∷ r → OneTree (IsBefore Close IsExpr) Always r a after → OneTree (IsTestCall Match) Always tokens (Tree.matches a) after
match_reads tokens r after a e f = built Tree.matches (IsAfter Open (IsBefore Close IsExpr)) Always tokens after a (after_reads (IsBefore Close IsExpr) Always Open tokens r after a e f)

pub match_none : (tokens r : List Lexeme) → tokens ≡ mark Open ∷ r → NoTree (IsBefore Close IsExpr) Always r → NoTree (IsTestCall Match) Always tokens
match_none tokens r e not = not_built Tree.matches (IsAfter Open (IsBefore Close IsExpr)) Always tokens (after_none (IsBefore Close IsExpr) Always Open tokens r e not)

pub not_match : (tokens : List Lexeme) → ((r : List Lexeme) → tokens ≡ mark Open ∷ r → ⊥) → NoTree (IsTestCall Match) Always tokens
not_match tokens none = not_built Tree.matches (IsAfter Open (IsBefore Close IsExpr)) Always tokens (not_after (IsBefore Close IsExpr) Always Open tokens none)

-- behind UNIQUE
pub unique_reads : (tokens r after : List Lexeme) (a : List (List ℕ)) → tokens ≡ mark Open ∷ r → OneTree (IsBefore Close IsNames) Always r a after → OneTree (IsTestCall Unique) Always tokens (Tree.unique a) after
unique_reads tokens r after a e f = built Tree.unique (IsAfter Open (IsBefore Close IsNames)) Always tokens after a (after_reads (IsBefore Close IsNames) Always Open tokens r after a e f)

pub unique_none : (tokens r : List Lexeme) → tokens ≡ mark Open ∷ r → NoTree (IsBefore Close IsNames) Always r → NoTree (IsTestCall Unique) Always tokens
unique_none tokens r e not = not_built Tree.unique (IsAfter Open (IsBefore Close IsNames)) Always tokens (after_none (IsBefore Close IsNames) Always Open tokens r e not)

pub not_unique : (tokens : List Lexeme) → ((r : List Lexeme) → tokens ≡ mark Open ∷ r → ⊥) → NoTree (IsTestCall Unique) Always tokens
not_unique tokens none = not_built Tree.unique (IsAfter Open (IsBefore Close IsNames)) Always tokens (not_after (IsBefore Close IsNames) Always Open tokens none)

-- behind INARRAY
abbrev Sought : Spelling (ExprTree × List ℕ)
Sought = IsPair (IsBefore Comma IsExpr) (IsBefore Close IsName)

of_sought : (vs us : List Lexeme) (b : List ℕ) → IsBefore Close IsName vs b → Always us → Always (vs ++ us)
of_sought vs us b i h = tt

pub in_array_reads : (tokens r rest after : List Lexeme) (a : ExprTree) (n : List ℕ) → tokens ≡ mark Open ∷ r → OneTree (IsBefore Comma IsExpr) Always r a rest → OneTree (IsBefore Close IsName) Always rest n after → OneTree (IsTestCall InArray) Always tokens (Tree.in_array a n) after
in_array_reads tokens r rest after a n e f g = built (λ x. Tree.in_array x.0 x.1) (IsAfter Open Sought) Always tokens after (a, n) (after_reads Sought Always Open tokens r after (a, n) e (pair_reads (IsBefore Comma IsExpr) (IsBefore Close IsName) Always Always of_sought r rest after a n f g))

pub in_array_no_expr : (tokens r : List Lexeme) → tokens ≡ mark Open ∷ r → NoTree (IsBefore Comma IsExpr) Always r → NoTree (IsTestCall InArray) Always tokens
in_array_no_expr tokens r e not = not_built (λ x. Tree.in_array x.0 x.1) (IsAfter Open Sought) Always tokens (after_none Sought Always Open tokens r e (first_none (IsBefore Comma IsExpr) (IsBefore Close IsName) Always Always of_sought r not))

pub in_array_no_name : (tokens r rest : List Lexeme) (a : ExprTree) → tokens ≡ mark Open ∷ r → OneTree (IsBefore Comma IsExpr) Always r a rest → NoTree (IsBefore Close IsName) Always rest → NoTree (IsTestCall InArray) Always tokens
in_array_no_name tokens r rest a e f not = not_built (λ x. Tree.in_array x.0 x.1) (IsAfter Open Sought) Always tokens (after_none Sought Always Open tokens r e (second_none (IsBefore Comma IsExpr) (IsBefore Close IsName) Always Always of_sought r rest a f not))

pub not_in_array : (tokens : List Lexeme) → ((r : List Lexeme) → tokens ≡ mark Open ∷ r → ⊥) → NoTree (IsTestCall InArray) Always tokens
not_in_array tokens none = not_built (λ x. Tree.in_array x.0 x.1) (IsAfter Open Sought) Always tokens (not_after Sought Always Open tokens none)

-- a name and the parenthesis behind it
pub last_name_reads : (tokens rest r : List Lexeme) (n : List ℕ) → tokens ≡ Lexeme.name n ∷ rest → rest ≡ mark Close ∷ r → OneTree (IsBefore Close IsName) Always tokens n r
last_name_reads tokens rest r n e f = before_reads IsName Always Close (λ us. tt) tokens rest r n (name_found tokens rest n e) f

-- whether an expression can begin with the token
abbrev begins_expr : Lexeme → Bool
begins_expr (Lexeme.numeral n) = true
begins_expr (Lexeme.text b at) = true
begins_expr (Lexeme.name b) = true
begins_expr (keyword Strlen at) = true
begins_expr (mark Open) = true
begins_expr (mark Minus) = true
begins_expr _ = false

asks_not : (t : Lexeme) (k : Keyword) → test_keyword t ≡ Some k → begins_expr t ≡ false
asks_not (keyword Match at) k e = refl
asks_not (keyword IsEof at) k e = refl
asks_not (keyword Unique at) k e = refl
asks_not (keyword InArray at) k e = refl
asks_not _ k e = absurd (cc)

-- no expression begins with a word of a test, or with `!`
abbrev Heading : Lexeme → List Lexeme → List Lexeme → Type 0
Heading t ts us = (r : List Lexeme) → t ∷ r ≡ ts ++ us → begins_expr t ≡ true

front_over : (t : Lexeme) (r ts vs us : List Lexeme) (o : Lexeme) → t ∷ r ≡ (ts ++ o ∷ vs) ++ us → t ∷ r ≡ ts ++ o ∷ (vs ++ us)
front_over t r ts vs us o e = e ∙ append_assoc ts (o ∷ vs) us

atom_heading : (t : Lexeme) (ts us : List Lexeme) (a : ExprTree) → IsAtom ts a → Heading t ts us
atom_heading t ts us a (Grammar.numeral {n}) r e = let h : Lexeme.numeral n ≡ t = cc in subst (λ x. begins_expr x ≡ true) h refl
atom_heading t ts us a (Grammar.text {bytes} {at}) r e = let h : Lexeme.text bytes at ≡ t = cc in subst (λ x. begins_expr x ≡ true) h refl
atom_heading t ts us a (Grammar.variable {name} i) r e = variable_heading t ts us name _ i r e
  where
    variable_heading : (t : Lexeme) (ts us : List Lexeme) (n : List ℕ) (l : ExprList) → IsVariable ts n l → Heading t ts us
    variable_heading t ts us n l Grammar.unindexed r e = let h : Lexeme.name n ≡ t = cc in subst (λ x. begins_expr x ≡ true) h refl
    variable_heading t ts us n l (Grammar.indexed i) r e = let h : Lexeme.name n ≡ t = cc in subst (λ x. begins_expr x ≡ true) h refl
atom_heading t ts us a (Grammar.strlen {at} i) r e = let h : keyword Strlen at ≡ t = cc in subst (λ x. begins_expr x ≡ true) h refl
atom_heading t ts us a (Grammar.group i) r e = let h : mark Open ≡ t = cc in subst (λ x. begins_expr x ≡ true) h refl

power_heading : (t : Lexeme) (ts us : List Lexeme) (a : ExprTree) → IsPower ts a → Heading t ts us
power_heading t ts us a (Grammar.atom i) r e = atom_heading t ts us a i r e
power_heading t ts us a (Grammar.power {ts = vs} {us = ws} i j) r e = atom_heading t vs (mark Caret ∷ (ws ++ us)) _ i r (front_over t r vs ws us (mark Caret) e)

signed_heading : (t : Lexeme) (ts us : List Lexeme) (a : ExprTree) → IsSigned ts a → Heading t ts us
signed_heading t ts us a (Grammar.unsigned i) r e = power_heading t ts us a i r e
signed_heading t ts us a (Grammar.minus i) r e = let h : mark Minus ≡ t = cc in subst (λ x. begins_expr x ≡ true) h refl

product_heading : (t : Lexeme) (ts us : List Lexeme) (a : ExprTree) → IsProduct ts a → Heading t ts us
product_heading t ts us a (Grammar.signed i) r e = signed_heading t ts us a i r e
product_heading t ts us a (Grammar.times {ts = vs} {us = ws} i j) r e = product_heading t vs (mark Times ∷ (ws ++ us)) _ i r (front_over t r vs ws us (mark Times) e)
product_heading t ts us a (Grammar.quotient {ts = vs} {us = ws} i j) r e = product_heading t vs (mark Divide ∷ (ws ++ us)) _ i r (front_over t r vs ws us (mark Divide) e)
product_heading t ts us a (Grammar.remainder {ts = vs} {us = ws} i j) r e = product_heading t vs (mark Percent ∷ (ws ++ us)) _ i r (front_over t r vs ws us (mark Percent) e)

expr_heading : (t : Lexeme) (ts us : List Lexeme) (a : ExprTree) → IsExpr ts a → Heading t ts us
expr_heading t ts us a (Grammar.product i) r e = product_heading t ts us a i r e
expr_heading t ts us a (Grammar.sum {ts = vs} {us = ws} i j) r e = expr_heading t vs (mark Plus ∷ (ws ++ us)) _ i r (front_over t r vs ws us (mark Plus) e)
expr_heading t ts us a (Grammar.difference {ts = vs} {us = ws} i j) r e = expr_heading t vs (mark Minus ∷ (ws ++ us)) _ i r (front_over t r vs ws us (mark Minus) e)

-- the three kinds of tests without operators
pub data PlainAs : List Lexeme → TestTree → Type 0 where
  is_comparison : {ts : List Lexeme} {u : TestTree} → IsComparison ts u → PlainAs ts u
  asked : {ts : List Lexeme} {u : TestTree} (t : Lexeme) (k : Keyword) (vs : List Lexeme) → ts ≡ t ∷ vs → test_keyword t ≡ Some k → IsTestCall k vs u → PlainAs ts u
  grouped : {ts : List Lexeme} {u : TestTree} (vs : List Lexeme) → ts ≡ mark Open ∷ vs → IsBefore Close IsTest vs u → PlainAs ts u

pub plain_as : (ts : List Lexeme) (u : TestTree) → IsSimpleTest ts u → PlainAs ts u
plain_as ts u (Grammar.compare {ts = us} {us = vs} {a} {b} {by} i j) = is_comparison (((a, by), b), refl, (us ++ mark (compare_mark by) ∷ [], vs, sym (append_assoc us (mark (compare_mark by) ∷ []) vs), (us, refl, i), j))
plain_as ts u (Grammar.matches {ts = us} {a} {at} i) = asked (keyword Match at) Match (mark Open ∷ us ++ mark Close ∷ []) refl refl (a, refl, (us ++ mark Close ∷ [], refl, (us, refl, i)))
plain_as ts u (Grammar.at_end {at}) = asked (keyword IsEof at) IsEof [] refl refl (refl, refl)
plain_as ts u (Grammar.unique {ts = us} {names} {at} i) = asked (keyword Unique at) Unique (mark Open ∷ us ++ mark Close ∷ []) refl refl (names, refl, (us ++ mark Close ∷ [], refl, (us, refl, i)))
plain_as ts u (Grammar.in_array {ts = us} {a} {name} {at} i) = asked (keyword InArray at) InArray (mark Open ∷ us ++ mark Comma ∷ Lexeme.name name ∷ mark Close ∷ []) refl refl ((a, name), refl, (us ++ mark Comma ∷ Lexeme.name name ∷ mark Close ∷ [], refl, (us ++ mark Comma ∷ [], Lexeme.name name ∷ mark Close ∷ [], sym (append_assoc us (mark Comma ∷ []) (Lexeme.name name ∷ mark Close ∷ [])), (us, refl, i), (Lexeme.name name ∷ [], refl, refl))))
plain_as ts u (Grammar.group {ts = us} i) = grouped (us ++ mark Close ∷ []) refl (us, refl, i)

pub compared_plain : (ts : List Lexeme) (u : TestTree) → IsComparison ts u → IsSimpleTest ts u
compared_plain ts u (x, tree, (us, vs, split, (ws, marked, i), j)) =
    let is : ts ≡ ws ++ mark (compare_mark x.0.1) ∷ vs = split ∙ ap (λ l. l ++ vs) marked ∙ append_assoc ws (mark (compare_mark x.0.1) ∷ []) vs in
    subst (λ l. IsSimpleTest l u) (sym is) (subst (IsSimpleTest (ws ++ mark (compare_mark x.0.1) ∷ vs)) (sym tree) (Grammar.compare i j))

pub grouped_plain : (ts vs : List Lexeme) (u : TestTree) → ts ≡ mark Open ∷ vs → IsBefore Close IsTest vs u → IsSimpleTest ts u
grouped_plain ts vs u e (ws, closing, i) = subst (λ l. IsSimpleTest l u) (sym (e ∙ ap (λ l. mark Open ∷ l) closing)) (Grammar.group i)

pub asked_plain : (t : Lexeme) (k : Keyword) (vs : List Lexeme) (u : TestTree) → test_keyword t ≡ Some k → IsTestCall k vs u → IsSimpleTest (t ∷ vs) u
asked_plain (keyword Match at) k vs u e w =
    let is : IsTestCall Match vs u = subst (λ x. IsTestCall x vs u) (sym (same_some e)) w in
    let tokens : vs ≡ mark Open ∷ (is.2.2.0 ++ mark Close ∷ []) = is.2.1 ∙ ap (λ l. mark Open ∷ l) is.2.2.1 in
    subst (λ l. IsSimpleTest (keyword Match at ∷ l) u) (sym tokens) (subst (IsSimpleTest _) (sym is.1) (Grammar.matches is.2.2.2))
asked_plain (keyword IsEof at) k vs u e w =
    let is : IsTestCall IsEof vs u = subst (λ x. IsTestCall x vs u) (sym (same_some e)) w in
    subst (λ l. IsSimpleTest (keyword IsEof at ∷ l) u) (sym is.0) (subst (IsSimpleTest _) (sym is.1) Grammar.at_end)
asked_plain (keyword Unique at) k vs u e w =
    let is : IsTestCall Unique vs u = subst (λ x. IsTestCall x vs u) (sym (same_some e)) w in
    let tokens : vs ≡ mark Open ∷ (is.2.2.0 ++ mark Close ∷ []) = is.2.1 ∙ ap (λ l. mark Open ∷ l) is.2.2.1 in
    subst (λ l. IsSimpleTest (keyword Unique at ∷ l) u) (sym tokens) (subst (IsSimpleTest _) (sym is.1) (Grammar.unique is.2.2.2))
asked_plain (keyword InArray at) k vs u e w =
    let is : IsTestCall InArray vs u = subst (λ x. IsTestCall x vs u) (sym (same_some e)) w in
    sought_plain at vs u is
  where
    sought_plain : (at : _) (vs : List Lexeme) (u : TestTree) → IsTestCall InArray vs u → IsSimpleTest (keyword InArray at ∷ vs) u
    sought_plain at vs u (x, tree, (ts, opened, (us, ws, split, (es, comma, i), (ns, closing, n)))) =
        let tokens : vs ≡ mark Open ∷ (es ++ mark Comma ∷ Lexeme.name x.1 ∷ mark Close ∷ []) =
        opened ∙ ap (λ l. mark Open ∷ l) (split ∙ ap (λ l. l ++ ws) comma ∙ append_assoc es (mark Comma ∷ []) ws ∙ ap (λ l. es ++ mark Comma ∷ l) (closing ∙ ap (λ l. l ++ mark Close ∷ []) n)) in
        subst (λ l. IsSimpleTest (keyword InArray at ∷ l) u) (sym tokens) (subst (IsSimpleTest _) (sym tree) (Grammar.in_array i))
asked_plain _ k vs u e w = absurd (cc)

same_tail : {t s : Lexeme} {r vs : List Lexeme} → t ∷ r ≡ s ∷ vs → (s ≡ t) × (vs ≡ r)
same_tail {t} {s} {r} {vs} e = let a : s ≡ t = cc in let b : vs ≡ r = cc in (a, b)

-- what a test is that begins with such a word
begins_asked : (tokens r ts us : List Lexeme) (t : Lexeme) (k : Keyword) (u : TestTree) → tokens ≡ t ∷ r → test_keyword t ≡ Some k → tokens ≡ ts ++ us → PlainAs ts u → (vs : List Lexeme) × (r ≡ vs ++ us) × IsTestCall k vs u
begins_asked tokens r ts us t k u e q split (is_comparison (x, tree, (vs, ws, parts, (ls, marked, i), j))) =
    let whole : t ∷ r ≡ ls ++ mark (compare_mark x.0.1) ∷ (ws ++ us) = sym e ∙ split ∙ ap (λ l. l ++ us) (parts ∙ ap (λ l. l ++ ws) marked ∙ append_assoc ls (mark (compare_mark x.0.1) ∷ []) ws) ∙ append_assoc ls (mark (compare_mark x.0.1) ∷ ws) us in
    let n : begins_expr t ≡ true = expr_heading t ls (mark (compare_mark x.0.1) ∷ (ws ++ us)) x.0.0 i r whole in
    let m : begins_expr t ≡ false = asks_not t k q in
    absurd (cc)
begins_asked tokens r ts us t k u e q split (asked s l vs front is w) =
    let same = same_tail (sym e ∙ split ∙ ap (λ l. l ++ us) front) in
    let word : l ≡ k = same_some (sym is ∙ ap test_keyword same.0 ∙ q) in
    (vs, sym same.1, subst (λ x. IsTestCall x vs u) word w)
begins_asked tokens r ts us t k u e q split (grouped vs front w) =
    let same = same_tail (sym e ∙ split ∙ ap (λ l. l ++ us) front) in
    let n : test_keyword t ≡ None = subst (λ x. test_keyword x ≡ None) same.0 refl in
    absurd (cc)

pub asked_reads : (tokens r : List Lexeme) (k : Keyword) → operator_at test_keyword tokens ≡ Some (k, r) → (u : TestTree) (after : List Lexeme) → OneTree (IsTestCall k) Always r u after → OneTree IsSimpleTest (ends 1) tokens u after
asked_reads tokens r k e u after f =
    let is = operator_is test_keyword tokens r k e in
    record {
      front = is.0 ∷ f.front;
      split = is.1 ∙ ap (λ l. is.0 ∷ l) f.split;
      spells = asked_plain is.0 k f.front u is.2 f.spells;
      only = λ ts us v split h w.
          let i = begins_asked tokens r ts us is.0 k v is.1 is.2 split (plain_as ts v w) in
          f.only i.0 us v i.1 tt i.2;
    }

pub asked_none : (tokens r : List Lexeme) (k : Keyword) → operator_at test_keyword tokens ≡ Some (k, r) → NoTree (IsTestCall k) Always r → NoTree IsSimpleTest (ends 1) tokens
asked_none tokens r k e not ts us v split h w =
    let is = operator_is test_keyword tokens r k e in
    let i = begins_asked tokens r ts us is.0 k v is.1 is.2 split (plain_as ts v w) in
    not i.0 us v i.1 tt i.2

-- what a test is that begins with a parenthesis which holds a test
begins_grouped : (tokens r ts us : List Lexeme) (u : TestTree) → tokens ≡ mark Open ∷ r → holds_test (Some 0) r ≡ true → tokens ≡ ts ++ us → PlainAs ts u → (vs : List Lexeme) × (r ≡ vs ++ us) × IsBefore Close IsTest vs u
begins_grouped tokens r ts us u e q split (is_comparison (x, tree, (vs, ws, parts, (ls, marked, i), j))) =
    let whole : mark Open ∷ r ≡ ls ++ mark (compare_mark x.0.1) ∷ (ws ++ us) = sym e ∙ split ∙ ap (λ l. l ++ us) (parts ∙ ap (λ l. l ++ ws) marked ∙ append_assoc ls (mark (compare_mark x.0.1) ∷ []) ws) ∙ append_assoc ls (mark (compare_mark x.0.1) ∷ ws) us in
    let n : holds_test (Some 0) r ≡ false = expr_opening ls (mark (compare_mark x.0.1) ∷ (ws ++ us)) x.0.0 i r whole in
    absurd (cc)
begins_grouped tokens r ts us u e q split (asked s l vs front is w) =
    let same = same_tail (sym e ∙ split ∙ ap (λ l. l ++ us) front) in
    let n : test_keyword s ≡ None = ap test_keyword same.0 in
    absurd (cc)
begins_grouped tokens r ts us u e q split (grouped vs front w) =
    let same = same_tail (sym e ∙ split ∙ ap (λ l. l ++ us) front) in
    (vs, sym same.1, w)

pub group_reads : (tokens r : List Lexeme) → tokens ≡ mark Open ∷ r → holds_test (Some 0) r ≡ true → (u : TestTree) (after : List Lexeme) → OneTree (IsBefore Close IsTest) Always r u after → OneTree IsSimpleTest (ends 1) tokens u after
group_reads tokens r e q u after f = record {
  front = mark Open ∷ f.front;
  split = e ∙ ap (λ l. mark Open ∷ l) f.split;
  spells = grouped_plain (mark Open ∷ f.front) f.front u refl f.spells;
  only = λ ts us v split h w.
      let i = begins_grouped tokens r ts us v e q split (plain_as ts v w) in
      f.only i.0 us v i.1 tt i.2;
}

pub group_none : (tokens r : List Lexeme) → tokens ≡ mark Open ∷ r → holds_test (Some 0) r ≡ true → NoTree (IsBefore Close IsTest) Always r → NoTree IsSimpleTest (ends 1) tokens
group_none tokens r e q not ts us v split h w =
    let i = begins_grouped tokens r ts us v e q split (plain_as ts v w) in
    not i.0 us v i.1 tt i.2

-- any other test is a comparison
begins_comparison : (tokens ts us : List Lexeme) (u : TestTree) → operator_at test_keyword tokens ≡ None → ((r : List Lexeme) → tokens ≡ mark Open ∷ r → holds_test (Some 0) r ≡ false) → tokens ≡ ts ++ us → PlainAs ts u → IsComparison ts u
begins_comparison tokens ts us u q none split (is_comparison w) = w
begins_comparison tokens ts us u q none split (asked s l vs front is w) =
    let found : operator_at test_keyword tokens ≡ Some (l, vs ++ us) = ap (operator_at test_keyword) (split ∙ ap (λ l. l ++ us) front) ∙ ap (λ x. after_operator x (vs ++ us)) is in
    absurd (cc)
begins_comparison tokens ts us u q none split (grouped vs front (ws, closing, i)) =
    let n : holds_test (Some 0) (vs ++ us) ≡ false = none (vs ++ us) (split ∙ ap (λ l. l ++ us) front) in
    let y : holds_test (Some 0) (vs ++ us) ≡ true = ap (holds_test (Some 0)) (ap (λ l. l ++ us) closing ∙ append_assoc ws (mark Close ∷ []) us) ∙ test_tells 0 ws (mark Close ∷ us) u i in
    absurd (cc)

pub compare_reads : (tokens : List Lexeme) → operator_at test_keyword tokens ≡ None → ((r : List Lexeme) → tokens ≡ mark Open ∷ r → holds_test (Some 0) r ≡ false) → (u : TestTree) (after : List Lexeme) → OneTree IsComparison (ends 1) tokens u after → OneTree IsSimpleTest (ends 1) tokens u after
compare_reads tokens q none u after f = record {
  front = f.front;
  split = f.split;
  spells = compared_plain f.front u f.spells;
  only = λ ts us v split h w. f.only ts us v split h (begins_comparison tokens ts us v q none split (plain_as ts v w));
}

pub compare_none : (tokens : List Lexeme) → operator_at test_keyword tokens ≡ None → ((r : List Lexeme) → tokens ≡ mark Open ∷ r → holds_test (Some 0) r ≡ false) → NoTree IsComparison (ends 1) tokens → NoTree IsSimpleTest (ends 1) tokens
compare_none tokens q none not ts us v split h w = not ts us v split h (begins_comparison tokens ts us v q none split (plain_as ts v w))

-- `!`
plain_bang : (ts us r : List Lexeme) (u : TestTree) → mark Bang ∷ r ≡ ts ++ us → PlainAs ts u → ⊥
plain_bang ts us r u e (is_comparison (x, tree, (vs, ws, parts, (ls, marked, i), j))) =
    let whole : mark Bang ∷ r ≡ ls ++ mark (compare_mark x.0.1) ∷ (ws ++ us) = e ∙ ap (λ l. l ++ us) (parts ∙ ap (λ l. l ++ ws) marked ∙ append_assoc ls (mark (compare_mark x.0.1) ∷ []) ws) ∙ append_assoc ls (mark (compare_mark x.0.1) ∷ ws) us in
    no_bang ls (mark (compare_mark x.0.1) ∷ (ws ++ us)) x.0.0 i r whole
  where
    no_bang : (ts us : List Lexeme) (a : ExprTree) → IsExpr ts a → (r : List Lexeme) → mark Bang ∷ r ≡ ts ++ us → ⊥
    no_bang ts us a i r e = let n : false ≡ true = expr_heading (mark Bang) ts us a i r e in cc
plain_bang ts us r u e (asked s l vs front is w) =
    let same = same_tail (e ∙ ap (λ l. l ++ us) front) in
    let n : test_keyword s ≡ None = ap test_keyword same.0 in
    absurd (cc)
plain_bang ts us r u e (grouped vs front w) = absurd (let same = same_tail (e ∙ ap (λ l. l ++ us) front) in let f : mark Open ≡ mark Bang = same.0 in cc)

negated_bang : (ts us r : List Lexeme) (u : TestTree) → mark Bang ∷ r ≡ ts ++ us → IsNegation ts u → (vs : List Lexeme) × (a : TestTree) × (r ≡ vs ++ us) × (u ≡ Tree.not a) × IsNegation vs a
negated_bang ts us r u e (Grammar.simple i) = absurd (plain_bang ts us r u e (plain_as ts u i))
negated_bang ts us r u e (Grammar.not {ts = vs} {a} i) = let k : r ≡ vs ++ us = cc in (vs, a, k, refl, i)

pub bang_reads : (tokens r after : List Lexeme) (a : TestTree) → tokens ≡ mark Bang ∷ r → OneTree IsNegation (ends 1) r a after → OneTree IsNegation (ends 1) tokens (Tree.not a) after
bang_reads tokens r after a e f = record {
  front = mark Bang ∷ f.front;
  split = e ∙ ap (λ l. mark Bang ∷ l) f.split;
  spells = Grammar.not f.spells;
  only = λ ts us u split h w.
      let i = negated_bang ts us r u (sym e ∙ split) w in
      let same = f.only i.0 us i.1 i.2 h i.4 in
      (i.3 ∙ ap Tree.not same.0, same.1);
}

pub bang_none : (tokens r : List Lexeme) → tokens ≡ mark Bang ∷ r → NoTree IsNegation (ends 1) r → NoTree IsNegation (ends 1) tokens
bang_none tokens r e not ts us u split h w = let i = negated_bang ts us r u (sym e ∙ split) w in not i.0 us i.1 i.2 h i.4

negated_plain : (tokens ts us : List Lexeme) (u : TestTree) → ((r : List Lexeme) → tokens ≡ mark Bang ∷ r → ⊥) → tokens ≡ ts ++ us → IsNegation ts u → IsSimpleTest ts u
negated_plain tokens ts us u none e (Grammar.simple i) = i
negated_plain tokens ts us u none e (Grammar.not {ts = vs} i) = absurd (none (vs ++ us) e)

pub plain_is_negated : (tokens : List Lexeme) → ((r : List Lexeme) → tokens ≡ mark Bang ∷ r → ⊥) → (a : TestTree) (after : List Lexeme) → OneTree IsSimpleTest (ends 1) tokens a after → OneTree IsNegation (ends 1) tokens a after
plain_is_negated tokens none a after f = record {
  front = f.front;
  split = f.split;
  spells = Grammar.simple f.spells;
  only = λ ts us u split h w. f.only ts us u split h (negated_plain tokens ts us u none split w);
}

pub no_plain_negated : (tokens : List Lexeme) → ((r : List Lexeme) → tokens ≡ mark Bang ∷ r → ⊥) → NoTree IsSimpleTest (ends 1) tokens → NoTree IsNegation (ends 1) tokens
no_plain_negated tokens none not ts us u split h w = not ts us u split h (negated_plain tokens ts us u none split w)

-- a test at a parenthesis is a group or a comparison
pub grouped_or_compared : (r ts us : List Lexeme) (u : TestTree) → mark Open ∷ r ≡ ts ++ us → PlainAs ts u → ((vs : List Lexeme) → r ≡ vs ++ us → IsBefore Close IsTest vs u → ⊥) → ((ls vs : List Lexeme) (a : ExprTree) → mark Open ∷ r ≡ ls ++ vs → IsExpr ls a → ⊥) → ⊥
grouped_or_compared r ts us u split (is_comparison (x, tree, (vs, ws, parts, (ls, marked, i), j))) no_group no_expr =
    no_expr ls (mark (compare_mark x.0.1) ∷ (ws ++ us)) x.0.0 (split ∙ ap (λ l. l ++ us) (parts ∙ ap (λ l. l ++ ws) marked ∙ append_assoc ls (mark (compare_mark x.0.1) ∷ []) ws) ∙ append_assoc ls (mark (compare_mark x.0.1) ∷ ws) us) i
grouped_or_compared r ts us u split (asked s l vs front is w) no_group no_expr =
    let same = same_tail (split ∙ ap (λ l. l ++ us) front) in
    let n : test_keyword s ≡ None = ap test_keyword same.0 in
    cc
grouped_or_compared r ts us u split (grouped vs front w) no_group no_expr =
    let same = same_tail (split ∙ ap (λ l. l ++ us) front) in
    no_group vs (sym same.1) w

-- without a word of a test it is a comparison or a group
pub compared_or_grouped : (tokens ts us : List Lexeme) (u : TestTree) → operator_at test_keyword tokens ≡ None → tokens ≡ ts ++ us → PlainAs ts u → (IsComparison ts u → ⊥) → ((ws : List Lexeme) → tokens ≡ mark Open ∷ (ws ++ mark Close ∷ us) → IsTest ws u → ⊥) → ⊥
compared_or_grouped tokens ts us u q split (is_comparison w) no_comparison no_group = no_comparison w
compared_or_grouped tokens ts us u q split (asked s l vs front is w) no_comparison no_group =
    let found : operator_at test_keyword tokens ≡ Some (l, vs ++ us) = ap (operator_at test_keyword) (split ∙ ap (λ l. l ++ us) front) ∙ ap (λ x. after_operator x (vs ++ us)) is in
    cc
compared_or_grouped tokens ts us u q split (grouped vs front (ws, closing, i)) no_comparison no_group =
    no_group ws (split ∙ ap (λ l. l ++ us) (front ∙ ap (λ l. mark Open ∷ l) closing) ∙ ap (λ l. mark Open ∷ l) (append_assoc ws (mark Close ∷ []) us)) i

-- a comparison at a parenthesis holds no test in it
pub comparison_opening : (ts us : List Lexeme) (u : TestTree) → IsComparison ts u → (r : List Lexeme) → ts ++ us ≡ mark Open ∷ r → holds_test (Some 0) r ≡ false
comparison_opening ts us u (x, tree, (vs, ws, parts, (ls, marked, i), j)) r e =
    expr_opening ls (mark (compare_mark x.0.1) ∷ (ws ++ us)) x.0.0 i r (sym e ∙ ap (λ l. l ++ us) (parts ∙ ap (λ l. l ++ ws) marked ∙ append_assoc ls (mark (compare_mark x.0.1) ∷ []) ws) ∙ append_assoc ls (mark (compare_mark x.0.1) ∷ ws) us)

asks_so : (t : Lexeme) (k : Keyword) → test_keyword t ≡ Some k → asks k ≡ true
asks_so (keyword Match at) k e = ap asks (sym (same_some e))
asks_so (keyword IsEof at) k e = ap asks (sym (same_some e))
asks_so (keyword Unique at) k e = ap asks (sym (same_some e))
asks_so (keyword InArray at) k e = ap asks (sym (same_some e))
asks_so _ k e = absurd (cc)

-- the word of a test is one of four
pub asks_at : (tokens r : List Lexeme) (k : Keyword) → operator_at test_keyword tokens ≡ Some (k, r) → asks k ≡ true
asks_at tokens r k e = let is = operator_is test_keyword tokens r k e in asks_so is.0 k is.2
