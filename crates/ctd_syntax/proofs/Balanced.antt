-- The tokens of an expression, a test or a list open what they close, and no command begins among them.
use Rattle.std.proofs.Common.{◌≡◌, List, [], ◌∷◌, ◌++◌, ℕ, Option, Bool, true, false, refl, subst, append_assoc}
use Rattle.ctd_syntax.specs.Lexeme.{Lexeme, mark, keyword}
use Rattle.ctd_program.specs.Tree.{ExprTree, ExprList, VarTree, TestTree}
use Rattle.ctd_syntax.specs.Grammar
use Rattle.ctd_syntax.specs.Grammar.{IsExpr, IsProduct, IsSigned, IsPower, IsExponent, IsAtom, IsVariable, IsExprs, IsNames, IsTest, IsBoth, IsNegation, IsSimpleTest, IsTargetEnd, IsAssignments, compare_mark}
use Rattle.ctd_syntax.specs.Nesting.{change_of}
use Rattle.ctd_token.specs.declared.text.Place.{Place}
use Rattle.ctd_syntax.specs.declared.nesting.CounterChange.{CounterChange}
use Rattle.ctd_syntax.specs.declared.nesting.CounterChange.TheVariants.{Opens, Closes, Restarts, Grows, Keeps}
use Rattle.ctd_token.specs.declared.token.Mark.TheVariants.{Open, Close, OpenIndex, CloseIndex, Comma, Assign, Plus, Minus, Times, Divide, Percent, Caret, Bang, OrOr, AndAnd}
use Rattle.ctd_program.specs.declared.tree.Compare.{Compare}
use Rattle.ctd_program.specs.declared.tree.Compare.TheVariants.{Less, Greater, AtMost, AtLeast, Equal, Unequal}
use Rattle.ctd_syntax.specs.declared.keyword.Keyword.{Keyword}
use Rattle.ctd_syntax.specs.declared.keyword.Keyword.TheVariants as words

-- whether a word is REGEX
abbrev pub is_regex : Keyword → Bool
is_regex words.Regex = true
is_regex _ = false

-- whether a token is
abbrev pub is_regex_token : Lexeme → Bool
is_regex_token (keyword k at) = is_regex k
is_regex_token _ = false

-- a change that opens and closes nothing
abbrev pub IsLevelChange : CounterChange → Type 0
IsLevelChange Opens = ⊥
IsLevelChange Closes = ⊥
IsLevelChange Restarts = Unit {0}
IsLevelChange Grows = Unit {0}
IsLevelChange Keeps = Unit {0}

-- a token that opens and closes nothing, and is no word REGEX
abbrev pub IsLevel : Lexeme → Type 0
IsLevel t = IsLevelChange (change_of t) × (is_regex_token t ≡ false)

-- such tokens, with parentheses and brackets among them that fit
pub data Balanced : List Lexeme → Type 0 where
  none : Balanced []
  alone : {t : Lexeme} → IsLevel t → Balanced (t ∷ [])
  append : {ts us : List Lexeme} → Balanced ts → Balanced us → Balanced (ts ++ us)
  parenthesized : {ts : List Lexeme} → Balanced ts → Balanced (mark Open ∷ ts ++ mark Close ∷ [])
  indexed : {ts : List Lexeme} → Balanced ts → Balanced (mark OpenIndex ∷ ts ++ mark CloseIndex ∷ [])

-- balanced tokens behind such a token are balanced too
pub behind : (t : Lexeme) (us : List Lexeme) → IsLevel t → Balanced us → Balanced (t ∷ us)
behind t us l b = append (alone l) b

-- balanced tokens with such a token between them are balanced together
pub over : (ts us : List Lexeme) (t : Lexeme) → IsLevel t → Balanced ts → Balanced us → Balanced (ts ++ t ∷ us)
over ts us t l a b = append a (behind t us l b)

-- such a word and balanced tokens in parentheses
pub asked : (k : Keyword) (at : Place) (ts : List Lexeme) → IsLevel (keyword k at) → Balanced ts → Balanced (keyword k at ∷ mark Open ∷ ts ++ mark Close ∷ [])
asked k at ts l b = behind (keyword k at) (mark Open ∷ ts ++ mark Close ∷ []) l (parenthesized b)

-- the mark of a comparison is an operator
compare_level : (by : Compare) → IsLevel (mark (compare_mark by))
compare_level Less = (tt, refl)
compare_level Greater = (tt, refl)
compare_level AtMost = (tt, refl)
compare_level AtLeast = (tt, refl)
compare_level Equal = (tt, refl)
compare_level Unequal = (tt, refl)

mutual
  -- an expression is balanced
  pub expr_balanced : (ts : List Lexeme) (a : ExprTree) → IsExpr ts a → Balanced ts
  expr_balanced ts a (Grammar.product i) = product_balanced ts a i
  expr_balanced ts a (Grammar.sum {ts = us} {us = vs} i j) = over us vs (mark Plus) (tt, refl) (expr_balanced us _ i) (product_balanced vs _ j)
  expr_balanced ts a (Grammar.difference {ts = us} {us = vs} i j) = over us vs (mark Minus) (tt, refl) (expr_balanced us _ i) (product_balanced vs _ j)

  -- a product is
  product_balanced : (ts : List Lexeme) (a : ExprTree) → IsProduct ts a → Balanced ts
  product_balanced ts a (Grammar.signed i) = signed_balanced ts a i
  product_balanced ts a (Grammar.times {ts = us} {us = vs} i j) = over us vs (mark Times) (tt, refl) (product_balanced us _ i) (signed_balanced vs _ j)
  product_balanced ts a (Grammar.quotient {ts = us} {us = vs} i j) = over us vs (mark Divide) (tt, refl) (product_balanced us _ i) (signed_balanced vs _ j)
  product_balanced ts a (Grammar.remainder {ts = us} {us = vs} i j) = over us vs (mark Percent) (tt, refl) (product_balanced us _ i) (signed_balanced vs _ j)

  -- an expression behind minus signs is
  signed_balanced : (ts : List Lexeme) (a : ExprTree) → IsSigned ts a → Balanced ts
  signed_balanced ts a (Grammar.unsigned i) = power_balanced ts a i
  signed_balanced ts a (Grammar.minus {ts = us} i) = behind (mark Minus) us (tt, refl) (signed_balanced us _ i)

  -- a power is
  power_balanced : (ts : List Lexeme) (a : ExprTree) → IsPower ts a → Balanced ts
  power_balanced ts a (Grammar.atom i) = atom_balanced ts a i
  power_balanced ts a (Grammar.power {ts = us} {us = vs} i j) = over us vs (mark Caret) (tt, refl) (atom_balanced us _ i) (exponent_balanced vs _ j)

  -- an exponent is
  exponent_balanced : (ts : List Lexeme) (a : ExprTree) → IsExponent ts a → Balanced ts
  exponent_balanced ts a (Grammar.positive i) = power_balanced ts a i
  exponent_balanced ts a (Grammar.negative {ts = us} i) = behind (mark Minus) us (tt, refl) (exponent_balanced us _ i)

  -- an atom is
  atom_balanced : (ts : List Lexeme) (a : ExprTree) → IsAtom ts a → Balanced ts
  atom_balanced ts a Grammar.numeral = alone (tt, refl)
  atom_balanced ts a Grammar.text = alone (tt, refl)
  atom_balanced ts a (Grammar.variable i) = variable_balanced ts _ _ i
  atom_balanced ts a (Grammar.strlen {ts = us} {at} i) = asked words.Strlen at us (tt, refl) (expr_balanced us _ i)
  atom_balanced ts a (Grammar.group {ts = us} i) = parenthesized (expr_balanced us _ i)

  -- a variable is
  pub variable_balanced : (ts : List Lexeme) (b : List ℕ) (l : ExprList) → IsVariable ts b l → Balanced ts
  variable_balanced ts b l Grammar.unindexed = alone (tt, refl)
  variable_balanced ts b l (Grammar.indexed {ts = us} i) = behind (Lexeme.name b) (mark OpenIndex ∷ us ++ mark CloseIndex ∷ []) (tt, refl) (indexed (exprs_balanced us _ i))

  -- expressions with commas between them are
  exprs_balanced : (ts : List Lexeme) (l : ExprList) → IsExprs ts l → Balanced ts
  exprs_balanced ts l (Grammar.one i) = expr_balanced ts _ i
  exprs_balanced ts l (Grammar.more {ts = us} {us = vs} i j) = over us vs (mark Comma) (tt, refl) (expr_balanced us _ i) (exprs_balanced vs _ j)

-- names are balanced
pub names_balanced : (ts : List Lexeme) (names : List (List ℕ)) → IsNames ts names → Balanced ts
names_balanced ts names Grammar.one = alone (tt, refl)
names_balanced ts names (Grammar.more {ts = us} {name} i) = behind (Lexeme.name name) (mark Comma ∷ us) (tt, refl) (behind (mark Comma) us (tt, refl) (names_balanced us _ i))

mutual
  -- a test is balanced
  pub test_balanced : (ts : List Lexeme) (a : TestTree) → IsTest ts a → Balanced ts
  test_balanced ts a (Grammar.both i) = both_balanced ts a i
  test_balanced ts a (Grammar.or {ts = us} {us = vs} i j) = over us vs (mark OrOr) (tt, refl) (test_balanced us _ i) (both_balanced vs _ j)

  -- tests joined by && are
  both_balanced : (ts : List Lexeme) (a : TestTree) → IsBoth ts a → Balanced ts
  both_balanced ts a (Grammar.negation i) = negated_balanced ts a i
  both_balanced ts a (Grammar.and {ts = us} {us = vs} i j) = over us vs (mark AndAnd) (tt, refl) (both_balanced us _ i) (negated_balanced vs _ j)

  -- a test behind ! is
  negated_balanced : (ts : List Lexeme) (a : TestTree) → IsNegation ts a → Balanced ts
  negated_balanced ts a (Grammar.simple i) = simple_balanced ts a i
  negated_balanced ts a (Grammar.not {ts = us} i) = behind (mark Bang) us (tt, refl) (negated_balanced us _ i)

  -- a test without && and || is
  simple_balanced : (ts : List Lexeme) (a : TestTree) → IsSimpleTest ts a → Balanced ts
  simple_balanced ts a (Grammar.compare {ts = us} {us = vs} {by} i j) = over us vs (mark (compare_mark by)) (compare_level by) (expr_balanced us _ i) (expr_balanced vs _ j)
  simple_balanced ts a (Grammar.matches {ts = us} {at} i) = asked words.Match at us (tt, refl) (expr_balanced us _ i)
  simple_balanced ts a Grammar.at_end = alone (tt, refl)
  simple_balanced ts a (Grammar.unique {ts = us} {at} i) = asked words.Unique at us (tt, refl) (names_balanced us _ i)
  simple_balanced ts a (Grammar.in_array {ts = us} {name} {at} i) =
      subst (λ l. Balanced (keyword words.InArray at ∷ mark Open ∷ l)) (append_assoc us (mark Comma ∷ Lexeme.name name ∷ []) (mark Close ∷ []))
      (asked words.InArray at (us ++ mark Comma ∷ Lexeme.name name ∷ []) (tt, refl) (over us (Lexeme.name name ∷ []) (mark Comma) (tt, refl) (expr_balanced us _ i) (alone (tt, refl))))
  simple_balanced ts a (Grammar.group {ts = us} i) = parenthesized (test_balanced us _ i)

-- assignments are balanced
pub assignments_balanced : (ts : List Lexeme) (assignments : List (VarTree × ExprTree)) → IsAssignments ts assignments → Balanced ts
assignments_balanced ts assignments (Grammar.one {ts = us} {us = vs} i j) = over us vs (mark Assign) (tt, refl) (variable_balanced us _ _ i) (expr_balanced vs _ j)
assignments_balanced ts assignments (Grammar.more {ts = us} {us = vs} {vs = ws} i j k) =
    over (us ++ mark Assign ∷ vs) ws (mark Comma) (tt, refl) (over us vs (mark Assign) (tt, refl) (variable_balanced us _ _ i) (expr_balanced vs _ j)) (assignments_balanced ws _ k)

-- the end of a command with a target is balanced up to its parenthesis
pub target_balanced : (ts : List Lexeme) (target : Option VarTree) → IsTargetEnd ts target → (us : List Lexeme) × (ts ≡ us ++ mark Close ∷ []) × Balanced us
target_balanced ts target Grammar.none = ([], refl, none)
target_balanced ts target (Grammar.some {ts = us} i) = (mark Comma ∷ us, refl, behind (mark Comma) us (tt, refl) (variable_balanced us _ _ i))
