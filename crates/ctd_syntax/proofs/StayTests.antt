-- Tests without operators, whatever follows.
use Rattle.std.proofs.Common.{◌≡◌, ℕ, List, [], ◌∷◌, ◌++◌, length, Some, None, refl, sym, ap, ◌∙◌, append_assoc, true, false}
use Rattle.ctd_syntax.specs.Lexeme.{Lexeme, mark}
use Rattle.ctd_program.specs.Tree
use Rattle.ctd_program.specs.Tree.{ExprTree, TestTree}
use Rattle.ctd_syntax.specs.Grammar
use Rattle.ctd_syntax.specs.Grammar.{IsExpr, IsNames, IsTest, IsNegation, IsSimpleTest, compare_mark}
use Rattle.ctd_syntax.specs.inner.Front.{OneTree, NoTree, HasTree, HasNoTree, Always, IsBefore, IsAfter, IsPair, IsName, Spelling, operator_at}
use Rattle.ctd_syntax.specs.inner.Levels.{ends}
use Rattle.ctd_syntax.specs.inner.TestGrammar.{test_keyword, IsTestCall, IsLeft, IsComparison, compare_operator, holds_test}
use Rattle.ctd_token.specs.declared.token.Mark.TheVariants.{Open, Close, Comma, Bang}
use Rattle.ctd_token.specs.declared.token.Mark.TheVariants as marks
use Rattle.ctd_program.specs.declared.tree.Compare.{Compare}
use Rattle.ctd_program.specs.declared.tree.Compare.TheVariants.{Less}
use Rattle.ctd_syntax.specs.declared.keyword.Keyword.{Keyword}
use Rattle.ctd_syntax.specs.declared.keyword.Keyword.TheVariants.{Match, Unique, InArray}
use Rattle.ctd_syntax.proofs.Conditions as here
use Rattle.ctd_syntax.proofs.Chains.{operator_is}
use Rattle.ctd_syntax.proofs.Staying.{and_then, one_read, not_then, same_first, operator_read, none_first, spells_of, none_after, none_same, none_behind, whole}
use Rattle.ctd_syntax.proofs.StayFronts.{Possible, built, not_built, after_reads, after_none, not_after, pair_reads, first_none, second_none, before_reads, before_none, none_before, name_found, name_none}
use Rattle.ctd_syntax.proofs.StayAtoms.{some_expr}
use Rattle.ctd_syntax.proofs.Groups.{test_tells}
use Rattle.ctd_syntax.proofs.StayGroups.{no_expr_in_test, no_test_in_expr}

-- shortest ones
pub some_names : Possible IsNames
some_names = (Lexeme.name [] ∷ [], [] ∷ [], Grammar.one)

abbrev pub closed : {T : Type 0} (A : Spelling T) → Possible A → Possible (IsBefore Close A)
closed A p = (p.0 ++ mark Close ∷ [], p.1, (p.0, refl, p.2))

pub some_name_closed : Possible (IsBefore Close IsName)
some_name_closed = closed IsName (Lexeme.name [] ∷ [], [], refl)

-- an expression and the mark of a comparison
pub left_reads : (tokens rest r : List Lexeme) (a : ExprTree) (by : Compare) → HasTree IsExpr (ends 1) tokens a rest → operator_at compare_operator rest ≡ Some (by, r) → HasTree IsLeft Always tokens (a, by) r
left_reads tokens rest r a by f e =
    and_then (λ ts us. OneTree IsExpr (ends 1) ts a us) (λ ts us. operator_at compare_operator ts ≡ Some (by, us)) (λ ts us. OneTree IsLeft Always ts (a, by) us) tokens rest r
    (λ ts vs us p q. here.left_reads ts vs us a by p q) f (operator_read compare_operator rest r by e)

-- without the mark there is none
pub left_unmarked : (tokens rest : List Lexeme) (a : ExprTree) → HasTree IsExpr (ends 1) tokens a rest → operator_at compare_operator rest ≡ None → HasNoTree IsLeft Always tokens (length rest)
left_unmarked tokens rest a f none = record {
  rest = rest;
  counted = refl;
  known = record { front = f.front; split = f.split; holds = λ others e. here.left_unmarked (f.front ++ others) others a (f.holds others e) (none_first compare_operator rest others none e) };
  more = mark marks.Less ∷ [];
  some = (a, Less);
  goes_on = (f.front, refl, spells_of IsExpr (ends 1) tokens rest a f);
}

pub no_left : (tokens : List Lexeme) (left : ℕ) → HasNoTree IsExpr (ends 1) tokens left → HasNoTree IsLeft Always tokens left
no_left tokens left n = none_same IsExpr IsLeft (ends 1) Always tokens (λ ts not. here.no_left ts not) (λ ts a i. (mark marks.Less ∷ [], (a, Less), (ts, refl, i))) left n

pub compared_reads : (tokens rest after : List Lexeme) (x : ExprTree × Compare) (b : ExprTree) → HasTree IsLeft Always tokens x rest → HasTree IsExpr (ends 1) rest b after → HasTree IsComparison (ends 1) tokens (Tree.compare x.1 x.0 b) after
compared_reads tokens rest after x b f g = built (λ x. Tree.compare x.0.1 x.0.0 x.1) (IsPair IsLeft IsExpr) (ends 1) tokens after (x, b) (pair_reads IsLeft IsExpr Always (ends 1) (λ vs us b i h. tt) tokens rest after x b f g)

pub compared_no_left : (tokens : List Lexeme) (left : ℕ) → HasNoTree IsLeft Always tokens left → HasNoTree IsComparison (ends 1) tokens left
compared_no_left tokens left not = not_built (λ x. Tree.compare x.0.1 x.0.0 x.1) (IsPair IsLeft IsExpr) (ends 1) tokens left (first_none IsLeft IsExpr Always (ends 1) (λ vs us b i h. tt) some_expr tokens left not)

pub compared_no_right : (tokens rest : List Lexeme) (x : ExprTree × Compare) → HasTree IsLeft Always tokens x rest → (left : ℕ) → HasNoTree IsExpr (ends 1) rest left → HasNoTree IsComparison (ends 1) tokens left
compared_no_right tokens rest x f left not = not_built (λ x. Tree.compare x.0.1 x.0.0 x.1) (IsPair IsLeft IsExpr) (ends 1) tokens left (second_none IsLeft IsExpr Always (ends 1) (λ vs us b i h. tt) tokens rest x f left not)

-- behind MATCH
pub match_reads : (tokens r after : List Lexeme) (a : ExprTree) → tokens ≡ mark Open ∷ r → HasTree (IsBefore Close IsExpr) Always r a after → HasTree (IsTestCall Match) Always tokens (Tree.matches a) after
match_reads tokens r after a e f = built Tree.matches (IsAfter Open (IsBefore Close IsExpr)) Always tokens after a (after_reads (IsBefore Close IsExpr) Always Open tokens r after a e f)

pub match_none : (tokens r : List Lexeme) → tokens ≡ mark Open ∷ r → (left : ℕ) → HasNoTree (IsBefore Close IsExpr) Always r left → HasNoTree (IsTestCall Match) Always tokens left
match_none tokens r e left not = not_built Tree.matches (IsAfter Open (IsBefore Close IsExpr)) Always tokens left (after_none (IsBefore Close IsExpr) Always Open tokens r e left not)

pub not_match : (tokens : List Lexeme) → ((r : List Lexeme) → tokens ≡ mark Open ∷ r → ⊥) → HasNoTree (IsTestCall Match) Always tokens (length tokens)
not_match tokens none = not_built Tree.matches (IsAfter Open (IsBefore Close IsExpr)) Always tokens (length tokens) (not_after (IsBefore Close IsExpr) Always Open (closed IsExpr some_expr) tokens none)

-- behind UNIQUE
pub unique_reads : (tokens r after : List Lexeme) (a : List (List ℕ)) → tokens ≡ mark Open ∷ r → HasTree (IsBefore Close IsNames) Always r a after → HasTree (IsTestCall Unique) Always tokens (Tree.unique a) after
unique_reads tokens r after a e f = built Tree.unique (IsAfter Open (IsBefore Close IsNames)) Always tokens after a (after_reads (IsBefore Close IsNames) Always Open tokens r after a e f)

pub unique_none : (tokens r : List Lexeme) → tokens ≡ mark Open ∷ r → (left : ℕ) → HasNoTree (IsBefore Close IsNames) Always r left → HasNoTree (IsTestCall Unique) Always tokens left
unique_none tokens r e left not = not_built Tree.unique (IsAfter Open (IsBefore Close IsNames)) Always tokens left (after_none (IsBefore Close IsNames) Always Open tokens r e left not)

pub not_unique : (tokens : List Lexeme) → ((r : List Lexeme) → tokens ≡ mark Open ∷ r → ⊥) → HasNoTree (IsTestCall Unique) Always tokens (length tokens)
not_unique tokens none = not_built Tree.unique (IsAfter Open (IsBefore Close IsNames)) Always tokens (length tokens) (not_after (IsBefore Close IsNames) Always Open (closed IsNames some_names) tokens none)

-- behind INARRAY
abbrev Sought : Spelling (ExprTree × List ℕ)
Sought = IsPair (IsBefore Comma IsExpr) (IsBefore Close IsName)

of_sought : (vs us : List Lexeme) (b : List ℕ) → IsBefore Close IsName vs b → Always us → Always (vs ++ us)
of_sought vs us b i h = tt

some_sought : Possible Sought
some_sought = (some_expr.0 ++ mark Comma ∷ Lexeme.name [] ∷ mark Close ∷ [], (some_expr.1, []), (some_expr.0 ++ mark Comma ∷ [], Lexeme.name [] ∷ mark Close ∷ [], sym (append_assoc some_expr.0 (mark Comma ∷ []) (Lexeme.name [] ∷ mark Close ∷ [])), (some_expr.0, refl, some_expr.2), (Lexeme.name [] ∷ [], refl, refl)))

pub in_array_reads : (tokens r rest after : List Lexeme) (a : ExprTree) (n : List ℕ) → tokens ≡ mark Open ∷ r → HasTree (IsBefore Comma IsExpr) Always r a rest → HasTree (IsBefore Close IsName) Always rest n after → HasTree (IsTestCall InArray) Always tokens (Tree.in_array a n) after
in_array_reads tokens r rest after a n e f g = built (λ x. Tree.in_array x.0 x.1) (IsAfter Open Sought) Always tokens after (a, n) (after_reads Sought Always Open tokens r after (a, n) e (pair_reads (IsBefore Comma IsExpr) (IsBefore Close IsName) Always Always of_sought r rest after a n f g))

pub in_array_no_expr : (tokens r : List Lexeme) → tokens ≡ mark Open ∷ r → (left : ℕ) → HasNoTree (IsBefore Comma IsExpr) Always r left → HasNoTree (IsTestCall InArray) Always tokens left
in_array_no_expr tokens r e left not = not_built (λ x. Tree.in_array x.0 x.1) (IsAfter Open Sought) Always tokens left (after_none Sought Always Open tokens r e left (first_none (IsBefore Comma IsExpr) (IsBefore Close IsName) Always Always of_sought some_name_closed r left not))

pub in_array_no_name : (tokens r rest : List Lexeme) (a : ExprTree) → tokens ≡ mark Open ∷ r → HasTree (IsBefore Comma IsExpr) Always r a rest → (left : ℕ) → HasNoTree (IsBefore Close IsName) Always rest left → HasNoTree (IsTestCall InArray) Always tokens left
in_array_no_name tokens r rest a e f left not = not_built (λ x. Tree.in_array x.0 x.1) (IsAfter Open Sought) Always tokens left (after_none Sought Always Open tokens r e left (second_none (IsBefore Comma IsExpr) (IsBefore Close IsName) Always Always of_sought r rest a f left not))

pub not_in_array : (tokens : List Lexeme) → ((r : List Lexeme) → tokens ≡ mark Open ∷ r → ⊥) → HasNoTree (IsTestCall InArray) Always tokens (length tokens)
not_in_array tokens none = not_built (λ x. Tree.in_array x.0 x.1) (IsAfter Open Sought) Always tokens (length tokens) (not_after Sought Always Open some_sought tokens none)

-- a name and the parenthesis behind it
pub last_name_reads : (tokens rest r : List Lexeme) (n : List ℕ) → tokens ≡ Lexeme.name n ∷ rest → rest ≡ mark Close ∷ r → HasTree (IsBefore Close IsName) Always tokens n r
last_name_reads tokens rest r n e f = before_reads IsName Always Close (λ us. tt) tokens rest r n (name_found tokens rest n e) f

pub last_name_open : (tokens rest : List Lexeme) (n : List ℕ) → tokens ≡ Lexeme.name n ∷ rest → ((r : List Lexeme) → rest ≡ mark Close ∷ r → ⊥) → HasNoTree (IsBefore Close IsName) Always tokens (length rest)
last_name_open tokens rest n e none = before_none IsName Always Close (λ us. tt) tokens rest n (name_found tokens rest n e) none

pub no_last_name : (tokens : List Lexeme) → ((n : List ℕ) (ts : List Lexeme) → tokens ≡ Lexeme.name n ∷ ts → ⊥) → HasNoTree (IsBefore Close IsName) Always tokens (length tokens)
no_last_name tokens none = none_before IsName Always Close (λ us. tt) tokens (length tokens) (name_none tokens none)

-- the word of a test
pub asked_reads : (tokens r : List Lexeme) (k : Keyword) → operator_at test_keyword tokens ≡ Some (k, r) → (u : TestTree) (after : List Lexeme) → HasTree (IsTestCall k) Always r u after → HasTree IsSimpleTest (ends 1) tokens u after
asked_reads tokens r k e u after f =
    and_then (λ ts us. operator_at test_keyword ts ≡ Some (k, us)) (λ ts us. OneTree (IsTestCall k) Always ts u us) (λ ts us. OneTree IsSimpleTest (ends 1) ts u us) tokens r after
    (λ ts vs us p q. here.asked_reads ts vs k p u us q) (operator_read test_keyword tokens r k e) f

pub asked_none : (tokens r : List Lexeme) (k : Keyword) → operator_at test_keyword tokens ≡ Some (k, r) → (left : ℕ) → HasNoTree (IsTestCall k) Always r left → HasNoTree IsSimpleTest (ends 1) tokens left
asked_none tokens r k e left n =
    none_after (IsTestCall k) IsSimpleTest Always (ends 1) (λ ts us. operator_at test_keyword ts ≡ Some (k, us)) tokens r (operator_read test_keyword tokens r k e)
    (λ ts us p not. here.asked_none ts us k p not)
    (λ ts a i. ([], a, here.asked_plain (operator_is test_keyword tokens r k e).0 k (ts ++ []) a (operator_is test_keyword tokens r k e).2 (whole (IsTestCall k) ts a i))) left n

-- a parenthesis that holds a test
pub group_reads : (tokens r : List Lexeme) → tokens ≡ mark Open ∷ r → holds_test (Some 0) r ≡ true → (u : TestTree) (after : List Lexeme) → HasTree (IsBefore Close IsTest) Always r u after → HasTree IsSimpleTest (ends 1) tokens u after
group_reads tokens r e q u after f = record {
  front = mark Open ∷ f.front;
  split = e ∙ ap (λ l. mark Open ∷ l) f.split;
  holds = λ others g.
      let w = spells_of (IsBefore Close IsTest) Always r after u f in
      let tells : holds_test (Some 0) (f.front ++ others) ≡ true = ap (holds_test (Some 0)) (ap (λ l. l ++ others) w.1 ∙ append_assoc w.0 (mark Close ∷ []) others) ∙ test_tells 0 w.0 (mark Close ∷ others) u w.2 in
      here.group_reads (mark Open ∷ f.front ++ others) (f.front ++ others) refl tells u others (f.holds others g);
}

pub group_none : (tokens r : List Lexeme) → tokens ≡ mark Open ∷ r → holds_test (Some 0) r ≡ true → (left : ℕ) → HasNoTree (IsBefore Close IsTest) Always r left → HasNoTree IsSimpleTest (ends 1) tokens left
group_none tokens r e q left n = record {
  rest = n.rest;
  counted = n.counted;
  known = record {
    front = mark Open ∷ n.known.front;
    split = e ∙ ap (λ l. mark Open ∷ l) n.known.split;
    holds = λ others g ts us u split h w. here.grouped_or_compared (n.known.front ++ others) ts us u split (here.plain_as ts u w)
        (λ vs parts i. n.known.holds others g vs us u parts tt i)
        (λ ls vs a parts i. no_expr_in_test r n.known.front n.rest others q n.known.split g n.known.holds ls vs a parts i);
  };
  more = n.more;
  some = n.some;
  goes_on = here.grouped_plain (mark Open ∷ (n.known.front ++ n.more)) (n.known.front ++ n.more) n.some refl n.goes_on;
}

-- a comparison
pub compare_reads : (tokens : List Lexeme) → operator_at test_keyword tokens ≡ None → ((r : List Lexeme) → tokens ≡ mark Open ∷ r → holds_test (Some 0) r ≡ false) → (u : TestTree) (after : List Lexeme) → HasTree IsComparison (ends 1) tokens u after → HasTree IsSimpleTest (ends 1) tokens u after
compare_reads tokens q none u after f = record {
  front = f.front;
  split = f.split;
  holds = λ others g. here.compare_reads (f.front ++ others) (none_first test_keyword tokens (f.front ++ others) q (same_first (λ ts us. OneTree IsComparison (ends 1) ts u us) tokens after f others g))
      (here.comparison_opening f.front others u (spells_of IsComparison (ends 1) tokens after u f)) u others (f.holds others g);
}

pub compare_none : (tokens : List Lexeme) → operator_at test_keyword tokens ≡ None → ((r : List Lexeme) → tokens ≡ mark Open ∷ r → holds_test (Some 0) r ≡ false) → (left : ℕ) → HasNoTree IsComparison (ends 1) tokens left → HasNoTree IsSimpleTest (ends 1) tokens left
compare_none tokens q none left n = record {
  rest = n.rest;
  counted = n.counted;
  known = record {
    front = n.known.front;
    split = n.known.split;
    holds = λ others g ts us u split h w.
        here.compared_or_grouped (n.known.front ++ others) ts us u (none_first test_keyword tokens (n.known.front ++ others) q (same_first (λ ts us. NoTree IsComparison (ends 1) ts) tokens n.rest n.known others g)) split (here.plain_as ts u w)
        (λ i. n.known.holds others g ts us u split h i)
        (λ ws parts i. no_test_in_expr tokens n.known.front n.rest others none n.known.split g n.known.holds ws us u parts i);
  };
  more = n.more;
  some = n.some;
  goes_on = here.compared_plain (n.known.front ++ n.more) n.some n.goes_on;
}

-- `!`
pub bang_reads : (tokens r after : List Lexeme) (a : TestTree) → tokens ≡ mark Bang ∷ r → HasTree IsNegation (ends 1) r a after → HasTree IsNegation (ends 1) tokens (Tree.not a) after
bang_reads tokens r after a e f =
    and_then (λ ts us. ts ≡ mark Bang ∷ us) (λ ts us. OneTree IsNegation (ends 1) ts a us) (λ ts us. OneTree IsNegation (ends 1) ts (Tree.not a) us) tokens r after
    (λ ts vs us p q. here.bang_reads ts vs us a p q) (one_read (mark Bang) tokens r e) f

pub bang_none : (tokens r : List Lexeme) → tokens ≡ mark Bang ∷ r → (left : ℕ) → HasNoTree IsNegation (ends 1) r left → HasNoTree IsNegation (ends 1) tokens left
bang_none tokens r e left n = none_behind IsNegation IsNegation (ends 1) (ends 1) (mark Bang) tokens r e (λ ts us p not. here.bang_none ts us p not) (λ ts a i. ([], Tree.not a, Grammar.not (whole IsNegation ts a i))) left n

pub plain_is_negated : (tokens : List Lexeme) → ((r : List Lexeme) → tokens ≡ mark Bang ∷ r → ⊥) → (a : TestTree) (after : List Lexeme) → HasTree IsSimpleTest (ends 1) tokens a after → HasTree IsNegation (ends 1) tokens a after
plain_is_negated tokens none a after f = record {
  front = f.front;
  split = f.split;
  holds = λ others e. here.plain_is_negated (f.front ++ others) (not_then (mark Bang) tokens none (f.front ++ others) (same_first (λ ts us. OneTree IsSimpleTest (ends 1) ts a us) tokens after f others e)) a others (f.holds others e);
}

pub no_plain_negated : (tokens : List Lexeme) → ((r : List Lexeme) → tokens ≡ mark Bang ∷ r → ⊥) → (left : ℕ) → HasNoTree IsSimpleTest (ends 1) tokens left → HasNoTree IsNegation (ends 1) tokens left
no_plain_negated tokens none left n = record {
  rest = n.rest;
  counted = n.counted;
  known = record {
    front = n.known.front;
    split = n.known.split;
    holds = λ others e. here.no_plain_negated (n.known.front ++ others) (not_then (mark Bang) tokens none (n.known.front ++ others) (same_first (λ ts us. NoTree IsSimpleTest (ends 1) ts) tokens n.rest n.known others e)) (n.known.holds others e);
  };
  more = n.more;
  some = n.some;
  goes_on = Grammar.simple n.goes_on;
}
