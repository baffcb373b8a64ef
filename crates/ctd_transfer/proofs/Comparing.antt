-- The state where two values compare so.
use Rattle.ctd_transfer.proofs.Common.{AbstractState, AbstractValue, AllStand, Bindings, Bool, Compare, Context, Limits, Cuts, CutsBoth, Decides, EachStands, Err, Evaluates, Evaluation, ExprTree, FailsBy, Fault, Faults, IsCopyOf, IsEvaluated, IsIn, IsPossible, IsWhereSo, Lengths, List, CutsLengths, MatchOrdering, MayBe, MayCompare, MayHave, NameStands, None, Ok, Option, Ordering, PossibleValues, Range, Relates, Result, Some, SplitsBy, StateStands, Tells, Value, [], ap, arith, at_key, compares, copy_stands, each_changed, entries_in, false, holds_by, int_cmp, int_ranked, ints, map, refl, subst, sym, true, val, value_at, value_or_undefined, with_value, length, measured, pos, ℕ, ℤ, ◌<ℤ◌, ◌≡◌, ◌≤◌}
use Rattle.ctd_limits.specs.calls.Known.{IsViewOf}
use Rattle.ctd_partitions.specs.calls.Tests.{ComparesState}
use Rattle.std.specs.declared.cmp.Ordering.TheVariants as orders
use Rattle.ctd_program.specs.Tree
use Rattle.ctd_program.specs.declared.tree.Compare.TheVariants as comparisons
use Rattle.ctd_store.specs.declared.value.Value.TheVariants as values

-- a comparison of integers that is true
ranked_relates : (by : Compare) (x y : ℤ) (o : Ordering) → MatchOrdering o (x <ℤ y) (x ≡ y) (y <ℤ x) → holds_by by o ≡ true → Relates by x y
ranked_relates comparisons.Less x y orders.Less ranked holds = ranked
ranked_relates comparisons.Less x y orders.Equal ranked holds = absurd (cc holds)
ranked_relates comparisons.Less x y orders.Greater ranked holds = absurd (cc holds)
ranked_relates comparisons.Greater x y orders.Less ranked holds = absurd (cc holds)
ranked_relates comparisons.Greater x y orders.Equal ranked holds = absurd (cc holds)
ranked_relates comparisons.Greater x y orders.Greater ranked holds = ranked
ranked_relates comparisons.AtMost x y orders.Less ranked holds = omega (arith, ints, ranked)
ranked_relates comparisons.AtMost x y orders.Equal ranked holds = omega (arith, ints, ranked)
ranked_relates comparisons.AtMost x y orders.Greater ranked holds = absurd (cc holds)
ranked_relates comparisons.AtLeast x y orders.Less ranked holds = absurd (cc holds)
ranked_relates comparisons.AtLeast x y orders.Equal ranked holds = omega (arith, ints, ranked)
ranked_relates comparisons.AtLeast x y orders.Greater ranked holds = omega (arith, ints, ranked)
ranked_relates comparisons.Equal x y orders.Less ranked holds = absurd (cc holds)
ranked_relates comparisons.Equal x y orders.Equal ranked holds = ranked
ranked_relates comparisons.Equal x y orders.Greater ranked holds = absurd (cc holds)
ranked_relates comparisons.Unequal x y orders.Less ranked holds = λ same. absurd (omega (arith, ints, ranked, same))
ranked_relates comparisons.Unequal x y orders.Equal ranked holds = absurd (cc holds)
ranked_relates comparisons.Unequal x y orders.Greater ranked holds = λ same. absurd (omega (arith, ints, ranked, same))

relates : (by : Compare) (x y : ℤ) → holds_by by (int_cmp x y) ≡ true → Relates by x y
relates by x y holds = ranked_relates by x y (int_cmp x y) (int_ranked x y (int_cmp x y) refl) holds

-- a comparison that is turned round
pub turns : (by other : Compare) → ((x y : ℤ) → Relates by x y → Relates other y x) → (v w : Value) → MayCompare by v w → MayCompare other w v
turns by other numbers (values.Int x) (values.Int y) may = numbers x y may
turns by other numbers (values.Int x) (values.Text bytes) may = absurd may
turns by other numbers (values.Text bytes) (values.Int x) may = absurd may
turns by other numbers (values.Text bytes) (values.Text others) may = tt

-- numbers and strings among possible values
pub values_cut : (by : Compare) (a b c : PossibleValues) → ((l m : Lengths) → a.text ≡ Some l → b.text ≡ Some m → c.text ≡ Some l)
    → ((k : ℕ) (x y : ℤ) (r s : Range) → a.number ≡ Some r → b.number ≡ Some s → IsIn r k x → IsIn s k y → Relates by x y → (t : Range) × (c.number ≡ Some t) × IsIn t k x)
    → (k : ℕ) (v w : Value) → MayBe a k v → MayBe b k w → MayCompare by v w → MayBe c k v
values_cut by a b c texts numbers k (values.Int x) (values.Int y) one other may = numbers k x y one.0 other.0 one.1 other.1 one.2 other.2 may
values_cut by a b c texts numbers k (values.Int x) (values.Text bytes) one other may = absurd may
values_cut by a b c texts numbers k (values.Text bytes) (values.Int x) one other may = absurd may
values_cut by a b c texts numbers k (values.Text bytes) (values.Text others) one other may = (one.0, texts one.0 other.0 one.1 other.1, one.2, one.3)

-- a name that has a value
has_value : (o : Option Value) (v : Value) → value_or_undefined o ≡ Ok v → o ≡ Some v
has_value None v is = absurd (cc is)
has_value (Some w) v is = let same : w ≡ v = cc is in ap Some same

has_kind : (f : AbstractValue) (k : ℕ) (o : Option Value) (v : Value) → o ≡ Some v → MayHave f k o → MayBe f.alone k v
has_kind f k o v is may = subst (λ x. MayHave f k x) is may

-- a name that has a value gets others, of which it has one
name_narrows : (g : Context) (st after : AbstractState) (name : List ℕ) (value new : AbstractValue) (k : ℕ) (h : Bindings) (v : Value) → Tells (entries_in g st.entries.items) name value → value_at h (at_key name []) ≡ Some v → (MayBe value.alone k v → MayBe new.alone k v) → new.elements ≡ value.elements
    → entries_in g after.entries.items ≡ map (with_value name new) (entries_in g st.entries.items) → after.facts.items ≡ st.facts.items → StateStands g st k h → StateStands g after k h
name_narrows g st after name value new k h v tells there narrows elements changed same stands =
    let old : NameStands name value k h = tells k h stands.values in
    let here : NameStands name new k h = record {
      alone = subst (λ o. MayHave new k o) (sym there) (narrows (has_kind value k (value_at h (at_key name [])) v there old.alone));
      elements = λ i is u has. subst (λ e. MayBe e k u) (sym elements) (old.elements i is u has);
    } in
    record {
      values = subst (λ l. EachStands l k h) (sym changed) (each_changed name new (entries_in g st.entries.items) k h h here (λ other is apart. refl) stands.values);
      facts = subst (λ fs. AllStand g.names.now h fs) (sym same) stands.facts;
    }

pub name_cuts : (g : Context) (st after : AbstractState) (name : List ℕ) (by : Compare) (possible : PossibleValues) (value new : AbstractValue) → Tells (entries_in g st.entries.items) name value → ((k : ℕ) (v w : Value) → MayBe value.alone k v → MayBe possible k w → MayCompare by v w → MayBe new.alone k v) → new.elements ≡ value.elements
    → entries_in g after.entries.items ≡ map (with_value name new) (entries_in g st.entries.items) → after.facts.items ≡ st.facts.items → Cuts g st (Tree.variable name Tree.none) by possible after
name_cuts g st after name by possible value new tells narrows elements changed same k h v w stands is may compare =
    name_narrows g st after name value new k h v tells (has_value (value_at h (at_key name [])) v is) (λ one. narrows k v w one may compare) elements changed same stands

-- a name by its length
length_compared : (g : Context) (st after : AbstractState) (name : List ℕ) (by : Compare) (possible : PossibleValues) (value new : AbstractValue) (k : ℕ) (h : Bindings) (bytes : List ℕ) (w : Value) → Tells (entries_in g st.entries.items) name value → CutsLengths by value.alone possible new.alone → new.elements ≡ value.elements
    → entries_in g after.entries.items ≡ map (with_value name new) (entries_in g st.entries.items) → after.facts.items ≡ st.facts.items → StateStands g st k h → value_at h (at_key name []) ≡ Some (values.Text bytes) → MayBe possible k w → MayCompare by (values.Int (pos (length bytes))) w → StateStands g after k h
length_compared g st after name by possible value new k h bytes (values.Int y) tells narrows elements changed same stands there may compare =
    name_narrows g st after name value new k h (values.Text bytes) tells there (λ one. narrows k bytes y one may compare) elements changed same stands
length_compared g st after name by possible value new k h bytes (values.Text others) tells narrows elements changed same stands there may compare = absurd compare

length_is : (r : Result Value Fault) (v : Value) → measured r ≡ Ok v → (bytes : List ℕ) × (r ≡ Ok (values.Text bytes)) × (v ≡ values.Int (pos (length bytes)))
length_is (Ok (values.Text bytes)) v is = (bytes, refl, cc is)
length_is (Ok (values.Int x)) v is = absurd (cc is)
length_is (Err why) v is = absurd (cc is)

pub length_cuts : (g : Context) (st after : AbstractState) (name : List ℕ) (by : Compare) (possible : PossibleValues) (value new : AbstractValue) → Tells (entries_in g st.entries.items) name value → CutsLengths by value.alone possible new.alone → new.elements ≡ value.elements
    → entries_in g after.entries.items ≡ map (with_value name new) (entries_in g st.entries.items) → after.facts.items ≡ st.facts.items → Cuts g st (Tree.strlen (Tree.variable name Tree.none)) by possible after
length_cuts g st after name by possible value new tells narrows elements changed same k h v w stands is may compare =
    let length = length_is (value_or_undefined (value_at h (at_key name []))) v is in
    length_compared g st after name by possible value new k h length.0 w tells narrows elements changed same stands (has_value (value_at h (at_key name [])) (values.Text length.0) length.1) may (subst (λ u. MayCompare by u w) length.2 compare)

pub lengths_cut : (by : Compare) (a b : PossibleValues) (cut : Option Lengths) → ((k n : ℕ) (y : ℤ) (l : Lengths) (s : Range) → a.text ≡ Some l → b.number ≡ Some s → l.least ≤ n → n ≤ l.most → IsIn s k y → Relates by (pos n) y → (m : Lengths) × (cut ≡ Some m) × (m.least ≤ n) × (n ≤ m.most)) → CutsLengths by a b (record { text = cut; number = None })
lengths_cut by a b cut narrows k bytes y one other relates = narrows k (length bytes) y one.0 other.0 one.1 other.1 one.2 one.3 other.2 relates

pub nothing_cuts : (g : Context) (st : AbstractState) (e : ExprTree) (by : Compare) (possible : PossibleValues) → Cuts g st e by possible st
nothing_cuts g st e by possible k h v w stands is may compare = stands

pub both_cut : (g : Context) (st first after : AbstractState) (by other_by : Compare) (a b : ExprTree) (one other : PossibleValues) → Cuts g st a by other first → Cuts g first b other_by one after → ((v w : Value) → MayCompare by v w → MayCompare other_by w v) → CutsBoth g st by a b one other after
both_cut g st first after by other_by a b one other cuts cuts_more turn k h v w stands is_v is_w may_v may_w compare = cuts_more k h w v (cuts k h v w stands is_v may_w compare) is_w may_v (turn v w compare)

-- no possible values
pub no_value : (possible : PossibleValues) (k : ℕ) (v : Value) → possible.text ≡ None → ((r : Range) → possible.number ≡ Some r → (n : ℕ) (x : ℤ) → IsIn r n x → ⊥) → MayBe possible k v → ⊥
no_value possible k (values.Int x) none empty may = empty may.0 may.1 k x may.2
no_value possible k (values.Text bytes) none empty may = absurd (cc (none, may.1))

-- where no two values compare so, all is so
pub possible_cut : (g : Context) (st copy left after : AbstractState) (by : Compare) (a b : ExprTree) (one other possible : PossibleValues) → IsCopyOf st copy → ((k : ℕ) (v w : Value) → MayBe one k v → MayBe other k w → MayCompare by v w → MayBe possible k v) → ((k : ℕ) (v : Value) → MayBe possible k v → left ≡ copy)
    → CutsBoth g left by a b one other after → CutsBoth g st by a b one other after
possible_cut g st copy left after by a b one other possible same reachable kept cuts k h v w stands is_v is_w may_v may_w compare =
    cuts k h v w (subst (λ l. StateStands g l k h) (sym (kept k v (reachable k v w may_v may_w compare))) (copy_stands g st copy same k h stands)) is_v is_w may_v may_w compare

-- what an expression gives is possible
pub evaluated_possible : (g : Context) (e : Evaluation) (n : ℕ) (h : Bindings) (r : Result Value Fault) → IsEvaluated g e n h r → IsPossible e.found n r
evaluated_possible g e n h (Ok v) may = may.0
evaluated_possible g e n h (Err why) may = may

-- two sides, of which something is known
pub nothing_known : (g : Context) (st after : AbstractState) (by : Compare) (a b : ExprTree) (one other : Evaluation) → CutsBoth g st by a b one.found.values other.found.values after → IsWhereSo g st by a b one other after
nothing_known g st after by a b one other cuts k h v w stands is_v is_w may_v may_w compare = cuts k h v w stands is_v is_w may_v.0 may_w.0 compare

sides_compared : (g : Context) (st after : AbstractState) (by : Compare) (one other : Evaluation) (left right : Limits) → IsViewOf one.limits left → IsViewOf other.limits right → ((k : ℕ) (bytes : List ℕ) → MayBe one.found.values k (values.Text bytes) → ⊥) → ComparesState g st by left right after
    → (k : ℕ) (h : Bindings) (v w : Value) → IsEvaluated g one k h (Ok v) → IsEvaluated g other k h (Ok w) → MayCompare by v w → StateStands g st k h → StateStands g after k h
sides_compared g st after by one other left right seen seen_too numbers compares k h (values.Int x) (values.Int y) may_v may_w compare stands =
    compares k h x y stands (seen g.names.now h (values.Int x) may_v.1) (seen_too g.names.now h (values.Int y) may_w.1) compare
sides_compared g st after by one other left right seen seen_too numbers compares k h (values.Int x) (values.Text bytes) may_v may_w compare stands = absurd compare
sides_compared g st after by one other left right seen seen_too numbers compares k h (values.Text bytes) w may_v may_w compare stands = absurd (numbers k bytes may_v.0)

pub both_known : (g : Context) (st narrowed after : AbstractState) (by : Compare) (a b : ExprTree) (one other : Evaluation) (left right : Limits) → CutsBoth g st by a b one.found.values other.found.values narrowed → IsViewOf one.limits left → IsViewOf other.limits right
    → ((k : ℕ) (bytes : List ℕ) → MayBe one.found.values k (values.Text bytes) → ⊥) → ComparesState g narrowed by left right after → IsWhereSo g st by a b one other after
both_known g st narrowed after by a b one other left right cuts seen seen_too numbers compares k h v w stands is_v is_w may_v may_w compare =
    sides_compared g narrowed after by one other left right seen seen_too numbers compares k h v w may_v may_w compare (cuts k h v w stands is_v is_w may_v.0 may_w.0 compare)

-- a comparison
decided : (g : Context) (if_true if_false : AbstractState) (f : Faults) (by other : Compare) (k : ℕ) (h : Bindings) (x y : ℤ) (b : Bool) → b ≡ holds_by by (int_cmp x y) → ((o : Ordering) → holds_by by o ≡ false → holds_by other o ≡ true)
    → (Relates by x y → StateStands g if_true k h) → (Relates other x y → StateStands g if_false k h) → Decides g if_true if_false f k h (Ok b)
decided g if_true if_false f by other k h x y true is opposite on_true on_false = on_true (relates by x y (sym is))
decided g if_true if_false f by other k h x y false is opposite on_true on_false = on_false (relates other x y (opposite (int_cmp x y) (sym is)))

texts_decided : (g : Context) (if_true if_false : AbstractState) (f : Faults) (k : ℕ) (h : Bindings) (b : Bool) → StateStands g if_true k h → StateStands g if_false k h → Decides g if_true if_false f k h (Ok b)
texts_decided g if_true if_false f k h true on_true on_false = on_true
texts_decided g if_true if_false f k h false on_true on_false = on_false

compare_values : (g : Context) (st if_true if_false : AbstractState) (by other : Compare) (a b : ExprTree) (one two : Evaluation) (all : Faults) (k : ℕ) (h : Bindings) (l r : Result Value Fault) → IsWhereSo g st by a b one two if_true → IsWhereSo g st other a b one two if_false → ((o : Ordering) → holds_by by o ≡ false → holds_by other o ≡ true)
    → StateStands g st k h → val a h ≡ l → val b h ≡ r → IsEvaluated g one k h l → IsEvaluated g two k h r → FailsBy all (compares by l r) → Decides g if_true if_false all k h (compares by l r)
compare_values g st if_true if_false by other a b one two all k h (Err e) r on_true on_false opposite stands is_l is_r may_l may_r fails = fails
compare_values g st if_true if_false by other a b one two all k h (Ok v) (Err e) on_true on_false opposite stands is_l is_r may_l may_r fails = fails
compare_values g st if_true if_false by other a b one two all k h (Ok (values.Int x)) (Ok (values.Int y)) on_true on_false opposite stands is_l is_r may_l may_r fails =
    decided g if_true if_false all by other k h x y (holds_by by (int_cmp x y)) refl opposite (λ so. on_true k h (values.Int x) (values.Int y) stands is_l is_r may_l may_r so) (λ so. on_false k h (values.Int x) (values.Int y) stands is_l is_r may_l may_r so)
compare_values g st if_true if_false by other a b one two all k h (Ok (values.Int x)) (Ok (values.Text bytes)) on_true on_false opposite stands is_l is_r may_l may_r fails = fails
compare_values g st if_true if_false by other a b one two all k h (Ok (values.Text bytes)) (Ok (values.Int y)) on_true on_false opposite stands is_l is_r may_l may_r fails = fails
compare_values g st if_true if_false by other a b one two all k h (Ok (values.Text bytes)) (Ok (values.Text others)) on_true on_false opposite stands is_l is_r may_l may_r fails =
    texts_decided g if_true if_false all k h _ (on_true k h (values.Text bytes) (values.Text others) stands is_l is_r may_l may_r tt) (on_false k h (values.Text bytes) (values.Text others) stands is_l is_r may_l may_r tt)

pub compare_cuts : (g : Context) (st if_true if_false : AbstractState) (by other : Compare) (a b : ExprTree) (one two : Evaluation) (all : Faults) → Evaluates g st a one → Evaluates g st b two → ((by : Compare) (k : ℕ) (left right : Result Value Fault) → IsPossible one.found k left → IsPossible two.found k right → FailsBy all (compares by left right))
    → IsWhereSo g st by a b one two if_true → IsWhereSo g st other a b one two if_false → ((o : Ordering) → holds_by by o ≡ false → holds_by other o ≡ true) → SplitsBy g st (Tree.compare by a b) if_true if_false all
compare_cuts g st if_true if_false by other a b one two all left right fails on_true on_false opposite k h d p stands =
    let l = left k h stands in
    let r = right k h stands in
    compare_values g st if_true if_false by other a b one two all k h (val a h) (val b h) on_true on_false opposite stands refl refl l r (fails by k (val a h) (val b h) (evaluated_possible g one k h (val a h) l) (evaluated_possible g two k h (val b h) r))

-- what is in an option
pub some_same : (a b : Range) → Some a ≡ Some b → a ≡ b
some_same a b is = cc

pub same_lengths : (a b : Lengths) → Some a ≡ Some b → a ≡ b
same_lengths a b is = cc is
