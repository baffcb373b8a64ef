-- The states where tests are true, and where they are false.
use Rattle.ctd_transfer.proofs.Common.{AbstractState, AreAlike, AreAllAlike, AreOne, AreSame, AreSameWith, Array, Bindings, Bool, Compare, Context, Decides, Err, Evaluates, Evaluation, ExprTree, FailsBy, Fault, Faults, HaveOneShape, HitsArray, IsAmong, IsCopyOf, IsEvaluated, IsPossible, Limits, List, LookFault, MayBe, Ok, Option, PossibleResult, PossibleValues, Result, SplitState, SplitsBy, StateStands, TestTree, UniqueFailsBy, Value, all_same_shape, ap, as_text, at_drop_more, compares, copy_stands, drop, drop_all, false, fault_of_look, get_or, have_same_shape, holds_by, if◌then◌else◌, is_end, is_one_of, length, list_all, map, next_byte, refl, subst, sym, true, uniqueness, val, value_in_array, values_of, with_fault, ℕ, ◌&&◌, ◌+◌, ◌<◌, ◌>>=◌, ◌∙◌, ◌∷◌, ◌≡◌, ◌≤◌}
use Rattle.ctd_source.specs.declared.spot.LookFault.TheVariants as looks
use Rattle.ctd_limits.specs.calls.Known.{IsViewOf}
use Rattle.ctd_partitions.specs.calls.Tests.{HitsState}
use Rattle.ctd_program.specs.Tree
use Rattle.ctd_states.specs.calls.States.{name_at}
use Rattle.ctd_store.specs.Order.{bytes_cmp}
use Rattle.ctd_store.specs.declared.value.Value.TheVariants as values
use Rattle.ctd_outcome.specs.declared.reason.Fault.TheVariants as faults
use Rattle.ctd_transfer.proofs.Comparing.{evaluated_possible}
use Rattle.ctd_transfer.proofs.Fits.{AreFaults}

-- where both are so whatever a test gives
both_decided : (g : Context) (if_true if_false : AbstractState) (f : Faults) (k : ℕ) (h : Bindings) (b : Bool) → StateStands g if_true k h → StateStands g if_false k h → Decides g if_true if_false f k h (Ok b)
both_decided g if_true if_false f k h true so_true so_false = so_true
both_decided g if_true if_false f k h false so_true so_false = so_false

value_decides : (g : Context) (if_true if_false : AbstractState) (f : Faults) (k : ℕ) (h : Bindings) (r : Result Bool Fault) → StateStands g if_true k h → StateStands g if_false k h → FailsBy f r → Decides g if_true if_false f k h r
value_decides g if_true if_false f k h (Ok b) so_true so_false fails = both_decided g if_true if_false f k h b so_true so_false
value_decides g if_true if_false f k h (Err why) so_true so_false fails = fails

look_decides : (g : Context) (if_true if_false : AbstractState) (f : Faults) (k : ℕ) (h : Bindings) (r : Result (Option ℕ) LookFault) (test : Option ℕ → Bool) → StateStands g if_true k h → StateStands g if_false k h
    → Decides g if_true if_false f k h (with_fault fault_of_look r >>= (λ next. Ok (test next)))
look_decides g if_true if_false f k h (Ok next) test so_true so_false = both_decided g if_true if_false f k h (test next) so_true so_false
look_decides g if_true if_false f k h (Err looks.Read) test so_true so_false = tt
look_decides g if_true if_false f k h (Err looks.DataTooLong) test so_true so_false = tt

match_decides : (g : Context) (if_true if_false : AbstractState) (f : Faults) (k : ℕ) (h : Bindings) (v : Result Value Fault) (next : Result (Option ℕ) LookFault)
    → ((bytes : List ℕ) → v ≡ Ok (values.Text bytes) → StateStands g if_true k h × StateStands g if_false k h) → FailsBy f (as_text v)
    → Decides g if_true if_false f k h (as_text v >>= (λ bytes. with_fault fault_of_look next >>= (λ seen. Ok (is_one_of bytes seen))))
match_decides g if_true if_false f k h (Ok (values.Int x)) next so fails = fails
match_decides g if_true if_false f k h (Ok (values.Text bytes)) next so fails = look_decides g if_true if_false f k h next (is_one_of bytes) (so bytes refl).0 (so bytes refl).1
match_decides g if_true if_false f k h (Err why) next so fails = fails

found_decides : (g : Context) (if_true if_false : AbstractState) (f : Faults) (k : ℕ) (h : Bindings) (b : Bool) → (b ≡ true → StateStands g if_true k h) → StateStands g if_false k h → Decides g if_true if_false f k h (Ok b)
found_decides g if_true if_false f k h true so_true so_false = so_true refl
found_decides g if_true if_false f k h false so_true so_false = so_false

array_decides : (g : Context) (if_true if_false : AbstractState) (f : Faults) (k : ℕ) (h : Bindings) (v : Result Value Fault) (array : Array)
    → ((w : Value) → v ≡ Ok w → value_in_array (Ok w) array ≡ Ok true → StateStands g if_true k h) → ((w : Value) → v ≡ Ok w → StateStands g if_false k h) → FailsBy f v → Decides g if_true if_false f k h (value_in_array v array)
array_decides g if_true if_false f k h (Ok w) array so_true so_false fails = found_decides g if_true if_false f k h _ (λ is. so_true w refl (ap Ok is)) (so_false w refl)
array_decides g if_true if_false f k h (Err why) array so_true so_false fails = fails

found_fails : (g : Context) (e : Evaluation) (k : ℕ) (h : Bindings) (r : Result Value Fault) → IsEvaluated g e k h r → FailsBy e.found.faults r
found_fails g e k h (Ok v) may = tt
found_fails g e k h (Err why) may = may

-- a test of which nothing more is known
with_faults : (g : Context) (st : AbstractState) (t : TestTree) (f : Faults) (s : SplitState) → s.faults ≡ f → SplitsBy g st t s.if_true s.if_false f → SplitsBy g st t s.if_true s.if_false s.faults
with_faults g st t f s is splits = subst (λ l. SplitsBy g st t s.if_true s.if_false l) (sym is) splits

pub end_splits : (g : Context) (st : AbstractState) (f : Faults) (s : SplitState) → AreSame st f s → SplitsBy g st Tree.at_end s.if_true s.if_false s.faults
end_splits g st f s same = with_faults g st Tree.at_end f s same.faults
    (λ k h d p stands. look_decides g s.if_true s.if_false f k h (next_byte d p) is_end (copy_stands g st s.if_true same.if_true k h stands) (copy_stands g st s.if_false same.if_false k h stands))

pub unique_splits : (g : Context) (st : AbstractState) (names : List (List ℕ)) (f : Faults) (s : SplitState) → UniqueFailsBy g st names f → AreSame st f s → SplitsBy g st (Tree.unique names) s.if_true s.if_false s.faults
unique_splits g st names f s fails same = with_faults g st (Tree.unique names) f s same.faults
    (λ k h d p stands. value_decides g s.if_true s.if_false f k h (uniqueness (map (values_of h) names)) (copy_stands g st s.if_true same.if_true k h stands) (copy_stands g st s.if_false same.if_false k h stands) (fails k h stands))

pub match_splits : (g : Context) (st : AbstractState) (e : ExprTree) (r : Evaluation) (texts : PossibleValues) (f : Faults) (s : SplitState) → Evaluates g st e r → ((k : ℕ) (bytes : List ℕ) → MayBe r.found.values k (values.Text bytes) → MayBe texts k (values.Text bytes))
    → ((k : ℕ) (v : Result Value Fault) → IsPossible r.found k v → FailsBy f (as_text v)) → AreSameWith texts st f s → SplitsBy g st (Tree.matches e) s.if_true s.if_false s.faults
match_splits g st e r texts f s evaluates texts_of fails same = with_faults g st (Tree.matches e) f s same.faults (λ k h d p stands.
    let may : IsPossible r.found k (val e h) = evaluated_possible g r k h (val e h) (evaluates k h stands) in
    match_decides g s.if_true s.if_false f k h (val e h) (next_byte d p)
    (λ bytes is. let has : MayBe texts k (values.Text bytes) = texts_of k bytes (subst (IsPossible r.found k) is may) in
    (copy_stands g st s.if_true (same.if_true k (values.Text bytes) has) k h stands, copy_stands g st s.if_false (same.if_false k (values.Text bytes) has) k h stands))
    (fails k (val e h) may))

-- a value among those of an array
pub array_hit : (g : Context) (st after : AbstractState) (limits : Limits) (name : List ℕ) (array : ℕ) → name_at g.names.now array ≡ name → HitsState g st limits array after → HitsArray g st limits name after
array_hit g st after limits name array named hits n h v stands limited found = hits n h v stands limited (subst (λ m. value_in_array (Ok v) (values_of h m) ≡ Ok true) (sym named) found)

pub search_splits : (g : Context) (st hit if_true copy if_false : AbstractState) (e : ExprTree) (name : List ℕ) (r : Evaluation) (limits : Limits) → Evaluates g st e r → IsViewOf r.limits limits → HitsArray g st limits name hit → IsCopyOf st copy
    → ((k : ℕ) (v : Value) → MayBe r.found.values k v → if_true ≡ hit) → ((k : ℕ) (v : Value) → MayBe r.found.values k v → if_false ≡ copy) → SplitsBy g st (Tree.in_array e name) if_true if_false r.found.faults
search_splits g st hit if_true copy if_false e name r limits evaluates seen hits same is_true is_false k h d p stands =
    let all : IsEvaluated g r k h (val e h) = evaluates k h stands in
    array_decides g if_true if_false r.found.faults k h (val e h) (values_of h name)
    (λ v is found. let may : IsEvaluated g r k h (Ok v) = subst (IsEvaluated g r k h) is all in
    subst (λ l. StateStands g l k h) (sym (is_true k v may.0)) (hits k h v stands (seen g.names.now h v may.1) found))
    (λ v is. let may : IsEvaluated g r k h (Ok v) = subst (IsEvaluated g r k h) is all in
    subst (λ l. StateStands g l k h) (sym (is_false k v may.0)) (copy_stands g st copy same k h stands))
    (found_fails g r k h (val e h) all)

-- two literals
one_decides : (g : Context) (st : AbstractState) (f : Faults) (answer : Bool) (s : SplitState) (k : ℕ) (h : Bindings) → AreOne st answer s → StateStands g st k h → Decides g s.if_true s.if_false f k h (Ok answer)
one_decides g st f true s k h one stands = copy_stands g st s.if_true (one.if_true refl) k h stands
one_decides g st f false s k h one stands = copy_stands g st s.if_false (one.if_false refl) k h stands

pub literals_split : (g : Context) (st : AbstractState) (by : Compare) (a b : ExprTree) (x y : List ℕ) (s : SplitState) → ((h : Bindings) → val a h ≡ Ok (values.Text x)) → ((h : Bindings) → val b h ≡ Ok (values.Text y)) → AreOne st (holds_by by (bytes_cmp x y)) s → SplitsBy g st (Tree.compare by a b) s.if_true s.if_false s.faults
literals_split g st by a b x y s is_a is_b one k h d p stands = rw (is_a h, is_b h) (one_decides g st s.faults (holds_by by (bytes_cmp x y)) s k h one stands)

-- arrays that have values at the same indices
pub alike_from : (g : Context) (st : AbstractState) (name : List ℕ) (others : List (List ℕ)) (i : ℕ) (other : List ℕ) → i < length others → other ≡ get_or others i other → AreAlike g st name other → (AreAllAlike g st name (drop i others) → AreAllAlike g st name others) → AreAllAlike g st name (drop (i + 1) others) → AreAllAlike g st name others
alike_from g st name others i other inside is alike so_far rest = so_far (λ n h stands.
    let p : Array → Bool = have_same_shape (values_of h name) in
    let front : drop i others ≡ other ∷ drop (i + 1) others = at_drop_more (λ l. l) others i other inside ∙ ap (λ (y : List ℕ). y ∷ drop (i + 1) others) (sym is) in
    subst (λ l. list_all p (map (values_of h) l) ≡ true) (sym front) (ap (λ (b : Bool). b && list_all p (map (values_of h) (drop (i + 1) others))) (alike n h stands) ∙ rest n h stands))

pub alike_all : (g : Context) (st : AbstractState) (name : List ℕ) (others : List (List ℕ)) (i : ℕ) → length others ≤ i → (AreAllAlike g st name (drop i others) → AreAllAlike g st name others) → AreAllAlike g st name others
alike_all g st name others i all so_far = so_far (subst (λ l. AreAllAlike g st name l) (sym (drop_all i others all)) (λ n h stands. refl))

may_fail : (f : Faults) (b answer : Bool) → IsAmong f faults.Shape → FailsBy f (if b then Ok answer else Err faults.Shape)
may_fail f true answer among = tt
may_fail f false answer among = among

none_fails : (f : Faults) (b answer : Bool) → b ≡ true → FailsBy f (if b then Ok answer else Err faults.Shape)
none_fails f true answer is = tt
none_fails f false answer is = absurd (cc is)

pub shape_fails : (g : Context) (st : AbstractState) (names : List (List ℕ)) (f : Faults) (b : Bool) → (b ≡ false → HaveOneShape g st names) → (b ≡ true → IsAmong f faults.Shape) → UniqueFailsBy g st names f
shape_fails g st names f false one among n h stands = none_fails f (all_same_shape (map (values_of h) names)) _ (one refl n h stands)
shape_fails g st names f true one among n h stands = may_fail f (all_same_shape (map (values_of h) names)) _ (among refl)

-- the faults of a comparison
pub compare_fails : (f g : PossibleResult) (all : Faults) (mixed : Bool) → AreFaults f.faults all → AreFaults g.faults all → (mixed ≡ true → IsAmong all faults.WrongType)
    → ((k : ℕ) (x : _) (bytes : List ℕ) → MayBe f.values k (values.Int x) → MayBe g.values k (values.Text bytes) → mixed ≡ true) → ((k : ℕ) (bytes : List ℕ) (x : _) → MayBe f.values k (values.Text bytes) → MayBe g.values k (values.Int x) → mixed ≡ true)
    → (by : Compare) (k : ℕ) (left right : Result Value Fault) → IsPossible f k left → IsPossible g k right → FailsBy all (compares by left right)
compare_fails f g all mixed by_f by_g wrong one other by k (Err e) right l r = by_f e l
compare_fails f g all mixed by_f by_g wrong one other by k (Ok v) (Err e) l r = by_g e r
compare_fails f g all mixed by_f by_g wrong one other by k (Ok (values.Int x)) (Ok (values.Int y)) l r = tt
compare_fails f g all mixed by_f by_g wrong one other by k (Ok (values.Int x)) (Ok (values.Text bytes)) l r = wrong (one k x bytes l r)
compare_fails f g all mixed by_f by_g wrong one other by k (Ok (values.Text bytes)) (Ok (values.Int y)) l r = wrong (other k bytes y l r)
compare_fails f g all mixed by_f by_g wrong one other by k (Ok (values.Text bytes)) (Ok (values.Text others)) l r = tt
