-- How tests are told from expressions; for the contracts of private functions alone.
use Rattle.ctd_token.specs.declared.token.Mark.TheVariants as marks
use Rattle.ctd_program.specs.declared.tree.Compare.TheVariants as comparisons
use Rattle.ctd_program.specs.Tree
use Rattle.std.specs.Prelude.{◌≡◌, ℕ, zero, suc, ◌<◌, replicate, Bool, true, false, if◌then◌else◌, List, [], ◌∷◌, ◌++◌, Option, Some, None}
use Rattle.ctd_token.specs.declared.token.Mark.TheVariants.{Open, Close, Comma, Bang, AndAnd, OrOr}
use Rattle.ctd_syntax.specs.declared.keyword.Keyword.{Keyword}
use Rattle.ctd_syntax.specs.declared.keyword.Keyword.TheVariants.{Match, IsEof, Unique, InArray}
use Rattle.ctd_program.specs.declared.tree.Compare.{Compare}
use Rattle.ctd_syntax.specs.declared.condition.TokenRole.{TokenRole}
use Rattle.ctd_syntax.specs.declared.condition.TokenRole.TheVariants.{Tests, Opens, Closes, Keeps}
use Rattle.ctd_syntax.specs.Lexeme.{Lexeme, mark, keyword}
use Rattle.ctd_program.specs.Tree.{ExprTree, TestTree}
use Rattle.ctd_syntax.specs.Grammar.{IsExpr, IsNames, compare_mark}
use Rattle.ctd_syntax.specs.inner.Front.{Spelling, IsAfter, IsBefore, IsPair, IsName}
use Rattle.ctd_syntax.specs.inner.Levels.{binding}

-- how tightly a token binds to the test before it
abbrev pub test_binding : Lexeme → ℕ
test_binding (mark OrOr) = 1
test_binding (mark AndAnd) = 2
test_binding _ = 0

-- a test of level n ends before these tokens; they don't go on with an expression either
abbrev pub test_ends : ℕ → List Lexeme → Type 0
test_ends n [] = Unit {0}
test_ends n (t ∷ ts) = (test_binding t < n) × (binding t < 1)

-- the comparison that a mark is
abbrev pub compare_operator : Lexeme → Option Compare
compare_operator (mark marks.Less) = Some comparisons.Less
compare_operator (mark marks.Greater) = Some comparisons.Greater
compare_operator (mark marks.AtMost) = Some comparisons.AtMost
compare_operator (mark marks.AtLeast) = Some comparisons.AtLeast
compare_operator (mark marks.Equal) = Some comparisons.Equal
compare_operator (mark marks.Unequal) = Some comparisons.Unequal
compare_operator _ = None

-- the words that tests begin with
abbrev pub test_keyword : Lexeme → Option Keyword
test_keyword (keyword Match at) = Some Match
test_keyword (keyword IsEof at) = Some IsEof
test_keyword (keyword Unique at) = Some Unique
test_keyword (keyword InArray at) = Some InArray
test_keyword _ = None

-- whether a word is one of them
abbrev pub asks : Keyword → Bool
asks Match = true
asks IsEof = true
asks Unique = true
asks InArray = true
asks _ = false

-- what stands behind such a word
abbrev pub IsTestCall : Keyword → Spelling TestTree
IsTestCall Match ts u = (a : ExprTree) × (u ≡ Tree.matches a) × IsAfter Open (IsBefore Close IsExpr) ts a
IsTestCall IsEof ts u = (ts ≡ []) × (u ≡ Tree.at_end)
IsTestCall Unique ts u = (names : List (List ℕ)) × (u ≡ Tree.unique names) × IsAfter Open (IsBefore Close IsNames) ts names
IsTestCall InArray ts u = (x : ExprTree × List ℕ) × (u ≡ Tree.in_array x.0 x.1) × IsAfter Open (IsPair (IsBefore Comma IsExpr) (IsBefore Close IsName)) ts x
IsTestCall _ ts u = ⊥

-- an expression and a comparison behind it
abbrev pub IsLeft : Spelling (ExprTree × Compare)
IsLeft vs x = (ts : List Lexeme) × (vs ≡ ts ++ mark (compare_mark x.1) ∷ []) × IsExpr ts x.0

-- two expressions and a comparison between them
abbrev pub IsComparison : Spelling TestTree
IsComparison ts u = (x : (ExprTree × Compare) × ExprTree) × (u ≡ Tree.compare x.0.1 x.0.0 x.1) × IsPair IsLeft IsExpr ts x

-- what a token says of the parentheses that it stands in: that they hold a test, or that others open or close
abbrev pub role_of : Lexeme → TokenRole
role_of (mark Open) = Opens
role_of (mark Close) = Closes
role_of (mark Bang) = Tests
role_of (mark marks.Less) = Tests
role_of (mark marks.Greater) = Tests
role_of (mark marks.AtMost) = Tests
role_of (mark marks.AtLeast) = Tests
role_of (mark marks.Equal) = Tests
role_of (mark marks.Unequal) = Tests
role_of (keyword Match at) = Tests
role_of (keyword IsEof at) = Tests
role_of (keyword Unique at) = Tests
role_of (keyword InArray at) = Tests
role_of _ = Keeps

-- whether it says that they hold a test
abbrev pub is_test : TokenRole → Bool
is_test Tests = true
is_test _ = false

-- how many parentheses are open within them, or nothing where they close
abbrev pub depth_after : TokenRole → ℕ → Option ℕ
depth_after Opens n = Some (suc n)
depth_after Closes zero = None
depth_after Closes (suc n) = Some n
depth_after _ n = Some n

-- whether a test stands before the parentheses close, of which so many are open within the outermost
abbrev pub holds_test : Option ℕ → List Lexeme → Bool
holds_test None ts = false
holds_test (Some n) [] = false
holds_test (Some n) (t ∷ ts) = if is_test (role_of t) then true else holds_test (depth_after (role_of t) n) ts

-- one more parenthesis is needed
abbrev pub one_more : Option ℕ → Option ℕ
one_more None = None
one_more (Some n) = Some (suc n)

-- what a token makes of that number, by what it is behind the token
abbrev pub closes_before_test_at : TokenRole → ℕ → (ℕ → Option ℕ) → Option ℕ
closes_before_test_at Tests d behind = Some 0
closes_before_test_at Opens d behind = behind (suc d)
closes_before_test_at Closes zero behind = one_more (behind 0)
closes_before_test_at Closes (suc d) behind = behind d
closes_before_test_at Keeps d behind = behind d

-- how many parentheses must stand open before some tokens so that a test comes before they are closed, while so many more are open
abbrev pub closes_before_test : ℕ → List Lexeme → Option ℕ
closes_before_test d [] = None
closes_before_test d (t ∷ ts) = closes_before_test_at (role_of t) d (λ e. closes_before_test e ts)

-- whether n open parentheses are enough
abbrev pub is_enough : ℕ → Option ℕ → Bool
is_enough n None = false
is_enough n (Some zero) = true
is_enough zero (Some (suc m)) = false
is_enough (suc n) (Some (suc m)) = is_enough n (Some m)

-- whether a parenthesis comes first
abbrev pub opens : List Lexeme → Bool
opens [] = false
opens (mark Open ∷ ts) = true
opens _ = false

-- so many parentheses
abbrev pub openings : ℕ → List Lexeme
openings n = replicate n (mark Open)

-- so many parentheses at the front hold a test, one within the other, and no further one within them does
abbrev pub AreGroups : ℕ → List Lexeme → Type 0
AreGroups zero ts = (r : List Lexeme) → ts ≡ mark Open ∷ r → holds_test (Some 0) r ≡ false
AreGroups (suc n) ts = (r : List Lexeme) × (ts ≡ mark Open ∷ r) × (holds_test (Some 0) r ≡ true) × AreGroups n r

-- the number of such groups, where it is known
abbrev pub AreKnownGroups : Option ℕ → List Lexeme → Type 0
AreKnownGroups None ts = Unit {0}
AreKnownGroups (Some n) ts = AreGroups n ts
