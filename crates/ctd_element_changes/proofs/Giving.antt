-- What is so once an element got a value.
use Rattle.ctd_element_changes.proofs.Common.{AbstractState, AreIn, AreOn, Bindings, Bool, Bor, Bound, Describes, Fact, Filling, HasValue, Implies, Index, Interval, IsAt, IsBound, IsOn, IsUpTo, Key, LiesIn, List, None, Option, Side, Some, Stands, Value, [], alone, ap, arith, assign, assigned_key_has_its_value, assignment_keeps_other_keys, at_key, false, inl, inr, ints, is_pinned, is_some, le_or_lt, more_sides, name_at, pinned_key_stays, pos, refl, same_key, subst, sym, true, value_at, value_under, ℕ, ℤ, ◌++◌, ◌+ℤ◌, ◌-ℤ◌, ◌<ℤ◌, ◌∙◌, ◌∷◌, ◌≡◌, ◌≢◌, ◌≤ℤ◌, ◌⊎◌}
use Rattle.std.specs.Option.{option_or}
use Rattle.ctd_elements.specs.declared.fact.Cell.{Cell}
use Rattle.ctd_element_changes.specs.declared.element.Target.{Target}
use Rattle.ctd_elements.specs.declared.limits.Limits.{Limits}
use Rattle.ctd_element_changes.specs.calls.Changes.{AreAt, GetsElement, GivesElement}
use Rattle.ctd_elements.specs.calls.Blocks.{second_at}
use Rattle.ctd_elements.specs.calls.Orders.{IsBefore, IsBehind, IsNext, IsNumberOf, IsPart}
use Rattle.ctd_element_changes.specs.inner.Elements.{IsSmall, LeavesRest, StandsButFirst, StandsButOne, StandsButSecond, StandsWith}
use Rattle.ctd_elements.specs.declared.fact.Fact.TheVariants as facts
use Rattle.ctd_elements.specs.declared.fact.Index.TheVariants as indices
use Rattle.ctd_elements.specs.declared.fact.Side.TheVariants as sides
use Rattle.ctd_store.specs.declared.value.Value.TheVariants as values
use Rattle.ctd_elements.proofs.Bounds.{one_number}
use Rattle.ctd_element_changes.proofs.Assigned.{all_push}
use Rattle.ctd_element_changes.proofs.Sameness.{most_to, number_to, sides_to}
use Rattle.ctd_elements.proofs.Parts.{next_number}

-- one value is at an index
pub one_value : (names : List (Bor (List ℕ))) (h : Bindings) (index : Index) (v w : Value) → IsAt names h index v → IsAt names h index w → v ≡ w
one_value names h (indices.Number b) (values.Int x) (values.Int y) at also =
    let number : (x -ℤ b.add) ≡ (y -ℤ b.add) = one_number names h b.term b.add b.add x y at also in
    let same : x ≡ y = omega (arith, ints, number) in
    ap values.Int same
one_value names h (indices.Number b) (values.Int x) (values.Text bytes) at also = absurd also
one_value names h (indices.Number b) (values.Text bytes) w at also = absurd at
one_value names h (indices.Value i) v w at also = cc (at, also)
one_value names h (indices.Text i) v w at also = at ∙ sym also

-- an interval, but for one number
below_or : (names : List (Bor (List ℕ))) (h : Bindings) (s : Interval) (at : Bound) (a z : ℤ) → IsBound names h at a → LiesIn names h s z → z ≤ℤ a → (a ≤ℤ z) ⊎ (z <ℤ a) → (values.Int z ≡ values.Int a) ⊎ LiesIn names h (record { low = s.low; high = at }) z
below_or names h s at a z number lies last (inl above) = let same : z ≡ a = omega (arith, ints, last, above) in inl (ap values.Int same)
below_or names h s at a z number lies last (inr below) = inr (record { low = lies.low; high = a; is_low = lies.is_low; is_high = number; above = lies.above; below = below })

pub leaves_below : (s : AbstractState) (side : Interval) (at above : Bound) → IsNext at above → IsBehind s above side.high → LeavesRest s (sides.Between side) (indices.Number at) (sides.Between (record { low = side.low; high = at }))
leaves_below s side at above next behind n h (values.Text bytes) k it is on = absurd is
leaves_below s side at above next behind n h (values.Int a) (values.Text bytes) it is on = absurd on
leaves_below s side at above next behind n h (values.Int a) (values.Int z) it is on =
    let names = s.names.now in
    let high = behind n h on.high it on.is_high in
    let one : (high.0 -ℤ above.add) ≡ ((a +ℤ pos 1) -ℤ above.add) = one_number names h above.term above.add above.add high.0 (a +ℤ pos 1) high.1 (next_number names h at above a next is) in
    below_or names h side at a z is on (omega (arith, ints, one, high.2, on.below)) (le_or_lt a z)

above_or : (names : List (Bor (List ℕ))) (h : Bindings) (s : Interval) (at above : Bound) (a z : ℤ) → IsBound names h above (a +ℤ pos 1) → LiesIn names h s z → a ≤ℤ z → (z ≤ℤ a) ⊎ (a <ℤ z) → (values.Int z ≡ values.Int a) ⊎ LiesIn names h (record { low = above; high = s.high }) z
above_or names h s at above a z number lies first (inl below) = let same : z ≡ a = omega (arith, ints, first, below) in inl (ap values.Int same)
above_or names h s at above a z number lies first (inr more) = inr (record { low = a +ℤ pos 1; high = lies.high; is_low = number; is_high = lies.is_high; above = omega (arith, ints, more); below = lies.below })

pub leaves_above : (s : AbstractState) (side : Interval) (at above : Bound) → IsNext at above → IsBefore s at side.low → LeavesRest s (sides.Between side) (indices.Number at) (sides.Between (record { low = above; high = side.high }))
leaves_above s side at above next before n h (values.Text bytes) k it is on = absurd is
leaves_above s side at above next before n h (values.Int a) (values.Text bytes) it is on = absurd on
leaves_above s side at above next before n h (values.Int a) (values.Int z) it is on =
    let names = s.names.now in
    let low = before n h on.low it on.is_low in
    let one : (low.0 -ℤ at.add) ≡ (a -ℤ at.add) = one_number names h at.term at.add at.add low.0 a low.1 is in
    above_or names h side at above a z (next_number names h at above a next is) on (omega (arith, ints, one, low.2, on.above)) (le_or_lt z a)

pub leaves_by : (s : AbstractState) (side rest : Side) (own : Interval) (at : Index) (number : Bound) → side ≡ sides.Between own → IsNumberOf s at number → LeavesRest s (sides.Between own) (indices.Number number) rest → LeavesRest s side at rest
leaves_by s side rest own at number is is_number leaves n h i k it here on = leaves n h i k it (is_number n h i it here) (subst (λ (q : Side). IsOn s.names.now h q k) is on)

-- elements, but for some
pub unit_first : (s : AbstractState) (f : Filling) (at : Index) → IsPart s f.block.first (sides.At at) → StandsButFirst s f at
unit_first s f at part n h i k ks it here on = inl (one_value s.names.now h at k i (part n h k it on.0) here)

rest_first : (names : List (Bor (List ℕ))) (h : Bindings) (f : Filling) (rest : Side) (i k : Value) (ks : List Value) → AreOn names h (more_sides f.block.second) ks → Stands names h (facts.Filled (record { array = f.array; block = record { first = rest; second = f.block.second }; most = f.most })) → (k ≡ i) ⊎ IsOn names h rest k → (k ≡ i) ⊎ HasValue names h f.array (k ∷ ks) f.most
rest_first names h f rest i k ks on stands (inl same) = inl same
rest_first names h f rest i k ks on stands (inr here) = inr (stands (k ∷ ks) (here, on))

pub but_first : (s : AbstractState) (f g : Filling) (at : Index) (rest : Side) → LeavesRest s f.block.first at rest → g ≡ record { array = f.array; block = record { first = rest; second = f.block.second }; most = f.most } → Implies s (facts.Filled g) → StandsButFirst s f at
but_first s f g at rest leaves is implies n h i k ks it here on =
    rest_first s.names.now h f rest i k ks on.1 (subst (λ (q : Filling). Stands s.names.now h (facts.Filled q)) is (implies n h it)) (leaves n h i k it here on.0)

second_on : (names : List (Bor (List ℕ))) (h : Bindings) (f : Filling) (side : Side) (k l : Value) (ks : List Value) → f.block.second ≡ Some side → AreIn names h f.block (k ∷ l ∷ ks) → IsOn names h f.block.first k × IsOn names h side l × AreOn names h [] ks
second_on names h f side k l ks is on = let more : AreOn names h (side ∷ []) (l ∷ ks) = subst (λ o. AreOn names h (more_sides o) (l ∷ ks)) is on.1 in (on.0, more.0, more.1)

pub unit_second : (s : AbstractState) (f : Filling) (side : Side) (at : Index) → IsPart s side (sides.At at) → f.block.second ≡ Some side → StandsButSecond s f at
unit_second s f side at part is n h i k l ks it here on = inl (one_value s.names.now h at l i (part n h l it (second_on s.names.now h f side k l ks is on).1) here)

rest_second : (names : List (Bor (List ℕ))) (h : Bindings) (f : Filling) (rest : Side) (i k l : Value) (ks : List Value) → IsOn names h f.block.first k → AreOn names h [] ks → Stands names h (facts.Filled (record { array = f.array; block = record { first = f.block.first; second = Some rest }; most = f.most })) → (l ≡ i) ⊎ IsOn names h rest l → (l ≡ i) ⊎ HasValue names h f.array (k ∷ l ∷ ks) f.most
rest_second names h f rest i k l ks on none stands (inl same) = inl same
rest_second names h f rest i k l ks on none stands (inr here) = inr (stands (k ∷ l ∷ ks) (on, (here, none)))

pub but_second : (s : AbstractState) (f g : Filling) (side : Side) (at : Index) (rest : Side) → LeavesRest s side at rest → g ≡ record { array = f.array; block = record { first = f.block.first; second = Some rest }; most = f.most } → Implies s (facts.Filled g) → f.block.second ≡ Some side → StandsButSecond s f at
but_second s f g side at rest leaves is implies is_second n h i k l ks it here on =
    let own = second_on s.names.now h f side k l ks is_second on in
    rest_second s.names.now h f rest i k l ks own.0 own.2 (subst (λ (q : Filling). Stands s.names.now h (facts.Filled q)) is (implies n h it)) (leaves n h i l it here own.1)

pub none_left : (names : List (Bor (List ℕ))) (h : Bindings) (ks : List Value) → AreOn names h [] ks → ks ≡ []
none_left names h [] on = refl
none_left names h (k ∷ ks) on = absurd on

single : (names : List (Bor (List ℕ))) (h : Bindings) (f : Filling) (i k : Value) (ks : List Value) → AreOn names h [] ks → (k ≡ i) ⊎ HasValue names h f.array (k ∷ ks) f.most → ((k ∷ ks) ≡ (i ∷ [])) ⊎ HasValue names h f.array (k ∷ ks) f.most
single names h f i k ks none (inl same) = inl (ap (λ q. q ∷ ks) same ∙ ap (λ l. i ∷ l) (none_left names h ks none))
single names h f i k ks none (inr has) = inr has

pub but_one : (s : AbstractState) (f : Filling) (p : Cell) → StandsButFirst s f p.first → f.block.second ≡ None → p.second ≡ None → StandsButOne s f (Some p)
but_one s f p first none none_too n h [] ks it at on = absurd at
but_one s f p first none none_too n h (i ∷ is) [] it at on = absurd on
but_one s f p first none none_too n h (i ∷ is) (k ∷ ks) it at on =
    let names = s.names.now in
    let own : is ≡ [] = none_left names h is (subst (λ o. AreOn names h (more_sides (second_at o)) is) none_too at.1) in
    let left : AreOn names h [] ks = subst (λ o. AreOn names h (more_sides o) ks) none on.1 in
    subst (λ l. ((k ∷ ks) ≡ (i ∷ l)) ⊎ HasValue names h f.array (k ∷ ks) f.most) (sym own) (single names h f i k ks left (first n h i k ks it at.0 on))

double : (names : List (Bor (List ℕ))) (h : Bindings) (f : Filling) (i j k l : Value) (ks : List Value) → AreOn names h [] ks → (k ≡ i) ⊎ HasValue names h f.array (k ∷ l ∷ ks) f.most → (l ≡ j) ⊎ HasValue names h f.array (k ∷ l ∷ ks) f.most → ((k ∷ l ∷ ks) ≡ (i ∷ j ∷ [])) ⊎ HasValue names h f.array (k ∷ l ∷ ks) f.most
double names h f i j k l ks none (inl same) (inl also) = inl (ap (λ q. q ∷ l ∷ ks) same ∙ ap (λ q. i ∷ q ∷ ks) also ∙ ap (λ q. i ∷ j ∷ q) (none_left names h ks none))
double names h f i j k l ks none (inr has) also = inr has
double names h f i j k l ks none (inl same) (inr has) = inr has

double_at : (s : AbstractState) (f : Filling) (p : Cell) (at : Index) (side : Side) (n : ℕ) (h : Bindings) (is ks : List Value) → StandsButFirst s f p.first → StandsButSecond s f at → f.block.second ≡ Some side → Describes s n h → AreOn s.names.now h (sides.At p.first ∷ sides.At at ∷ []) is → AreIn s.names.now h f.block ks → (ks ≡ is) ⊎ HasValue s.names.now h f.array ks f.most
double_at s f p at side n h [] ks first second is it here on = absurd here
double_at s f p at side n h (i ∷ []) ks first second is it here on = absurd here.1
double_at s f p at side n h (i ∷ j ∷ js) [] first second is it here on = absurd on
double_at s f p at side n h (i ∷ j ∷ js) (k ∷ []) first second is it here on = absurd (subst (λ o. AreOn s.names.now h (more_sides o) []) is on.1)
double_at s f p at side n h (i ∷ j ∷ js) (k ∷ l ∷ ks) first second is it here on =
    let names = s.names.now in
    let own = second_on names h f side k l ks is on in
    subst (λ q. ((k ∷ l ∷ ks) ≡ (i ∷ j ∷ q)) ⊎ HasValue names h f.array (k ∷ l ∷ ks) f.most) (sym (none_left names h js here.1.1))
    (double names h f i j k l ks own.2 (first n h i k (l ∷ ks) it here.0 on) (second n h j k l ks it here.1.0 on))

pub but_none : (s : AbstractState) (f : Filling) (cell : Option Cell) → Implies s (facts.Filled f) → StandsButOne s f cell
but_none s f None implies = λ n h ks it on. implies n h it ks on
but_none s f (Some p) implies = λ n h is ks it at on. inr (implies n h it ks on)

-- names without indices stay
no_indices : (name other : List ℕ) (i : Value) (is : List Value) → at_key other [] ≢ at_key name (i ∷ is)
no_indices name other i is same = let none : [] ≡ (i ∷ is) = ap (λ (k : Key). k.indices) same in absurd (cc none)

abbrev pub filled : Bindings → List ℕ → List Value → Value → Bindings
filled h name is v = assign h (at_key name is) v

pub alone_stays : (names : List (Bor (List ℕ))) (name : List ℕ) (i : Value) (is : List Value) (h : Bindings) (v : Value) (j : ℕ) → alone names (filled h name (i ∷ is) v) j ≡ alone names h j
alone_stays names name i is h v j = assignment_keeps_other_keys h (at_key name (i ∷ is)) (at_key (name_at names j) []) v (no_indices name (name_at names j) i is)

-- an element that got a value has one: this one, or its pin
pinned_some : (o p : Option Value) → is_some o ≡ true → (w : Value) × (option_or o p ≡ Some w)
pinned_some None p is = absurd (cc is)
pinned_some (Some w) p is = (w, refl)

has_by : (h : Bindings) (key : Key) (v : Value) (b : Bool) → is_pinned h key ≡ b → (w : Value) × (value_at (assign h key v) key ≡ Some w)
has_by h key v true pinned =
    let it : (w : Value) × (value_at h key ≡ Some w) = pinned_some (value_under key h.pins) (value_under key h.assigned) pinned in
    (it.0, ap (λ g. value_at g key) (pinned_key_stays h key v pinned) ∙ it.1)
has_by h key v false free = (v, assigned_key_has_its_value h key v free)

pub has_value : (h : Bindings) (key : Key) (v : Value) → (w : Value) × (value_at (assign h key v) key ≡ Some w)
has_value h key v = has_by h key v (is_pinned h key) refl

changed_here : (h : Bindings) (key other : Key) (v x : Value) → other ≡ key → (b : Bool) → is_pinned h key ≡ b → value_at (assign h key v) other ≡ Some x → (value_at h other ≡ Some x) ⊎ ((other ≡ key) × (x ≡ v))
changed_here h key other v x same true pinned has = inl (sym (ap (λ g. value_at g other) (pinned_key_stays h key v pinned)) ∙ has)
changed_here h key other v x same false free has =
    let got : Some v ≡ Some x = sym (assigned_key_has_its_value h key v free) ∙ ap (λ k. value_at (assign h key v) k) (sym same) ∙ has in
    let it : v ≡ x = cc got in
    inr (same, sym it)

-- what an assignment gives a key that had no such value is its own
pub changed : (h : Bindings) (name other : List ℕ) (is js : List Value) (v x : Value) → value_at (assign h (at_key name is) v) (at_key other js) ≡ Some x → (value_at h (at_key other js) ≡ Some x) ⊎ ((at_key other js ≡ at_key name is) × (x ≡ v))
changed h name other is js v x has = elim (same_key name other is js) as (λ _. (value_at h (at_key other js) ≡ Some x) ⊎ ((at_key other js ≡ at_key name is) × (x ≡ v))) [
  | inl same ↦ changed_here h (at_key name is) (at_key other js) v x same (is_pinned h (at_key name is)) refl has
  | inr apart ↦ inl (sym (assignment_keeps_other_keys h (at_key name is) (at_key other js) v apart) ∙ has)
]

-- no key loses its value
pub none_lost : (h : Bindings) (name other : List ℕ) (is js : List Value) (v w : Value) → value_at h (at_key other js) ≡ Some w → (u : Value) × (value_at (assign h (at_key name is) v) (at_key other js) ≡ Some u)
none_lost h name other is js v w has = elim (same_key name other is js) as (λ _. (u : Value) × (value_at (assign h (at_key name is) v) (at_key other js) ≡ Some u)) [
  | inl same ↦ subst (λ (k : Key). (u : Value) × (value_at (assign h (at_key name is) v) k ≡ Some u)) (sym same) (has_value h (at_key name is) v)
  | inr apart ↦ (w, assignment_keeps_other_keys h (at_key name is) (at_key other js) v apart ∙ has)
]

-- a greatest value stays where nothing is pinned and the new value is no greater
abbrev Allows : List (Bor (List ℕ)) → Bindings → Key → Value → Option Bound → Type 0
Allows names h key v None = Unit {0}
Allows names h key v (Some m) = (is_pinned h key ≡ false) × IsUpTo names h (Some m) v

allowed : (s : AbstractState) (target : Target) (limits : Limits) (o : Option Bound) (n : ℕ) (h : Bindings) (is : List Value) (v : Value) → IsSmall s target limits o → Describes s n h → GetsElement s.names.now h target limits is v → Allows s.names.now h (at_key (name_at s.names.now target.array) is) v o
allowed s target limits None n h is v small it gets = tt
allowed s target limits (Some m) n h is v small it gets = (gets.unpinned small.0, small.1 n h v it gets.limited)

own_after : (names : List (Bor (List ℕ))) (h : Bindings) (array : ℕ) (i : Value) (is : List Value) (v : Value) (o : Option Bound) → Allows names h (at_key (name_at names array) (i ∷ is)) v o → HasValue names (filled h (name_at names array) (i ∷ is) v) array (i ∷ is) o
own_after names h array i is v None allows = let it = has_value h (at_key (name_at names array) (i ∷ is)) v in record { value = it.0; is = it.1; up_to = tt }
own_after names h array i is v (Some m) allows =
    let g = filled h (name_at names array) (i ∷ is) v in
    record { value = v; is = assigned_key_has_its_value h (at_key (name_at names array) (i ∷ is)) v allows.0; up_to = most_to names h g (Some m) v (λ j. alone_stays names (name_at names array) i is h v j) allows.1 }

old_after : (names : List (Bor (List ℕ))) (h : Bindings) (name : List ℕ) (array : ℕ) (i : Value) (is ks : List Value) (v : Value) (o : Option Bound) → HasValue names h array ks o → at_key (name_at names array) ks ≢ at_key name (i ∷ is) → HasValue names (filled h name (i ∷ is) v) array ks o
old_after names h name array i is ks v o has apart =
    let g = filled h name (i ∷ is) v in
    record { value = has.value; is = assignment_keeps_other_keys h (at_key name (i ∷ is)) (at_key (name_at names array) ks) v apart ∙ has.is; up_to = most_to names h g o has.value (λ j. alone_stays names name i is h v j) has.up_to }

one_after : (names : List (Bor (List ℕ))) (h : Bindings) (array : ℕ) (i : Value) (is ks : List Value) (v : Value) (o : Option Bound) → Allows names h (at_key (name_at names array) (i ∷ is)) v o → (ks ≡ i ∷ is) ⊎ HasValue names h array ks o → HasValue names (filled h (name_at names array) (i ∷ is) v) array ks o
one_after names h array i is ks v o allows (inl same) = subst (λ l. HasValue names (filled h (name_at names array) (i ∷ is) v) array l o) (sym same) (own_after names h array i is v o allows)
one_after names h array i is ks v o allows (inr has) = elim (same_key (name_at names array) (name_at names array) (i ∷ is) ks) as (λ _. HasValue names (filled h (name_at names array) (i ∷ is) v) array ks o) [
  | inl same ↦ subst (λ l. HasValue names (filled h (name_at names array) (i ∷ is) v) array l o) (sym (ap (λ (k : Key). k.indices) same)) (own_after names h array i is v o allows)
  | inr apart ↦ old_after names h (name_at names array) array i is ks v o has apart
]

but_at : (s : AbstractState) (f : Filling) (cell : Option Cell) (n : ℕ) (h : Bindings) (i : Value) (is ks : List Value) → StandsButOne s f cell → Describes s n h → AreAt s.names.now h cell (i ∷ is) → AreIn s.names.now h f.block ks → (ks ≡ i ∷ is) ⊎ HasValue s.names.now h f.array ks f.most
but_at s f None n h i is ks but it at on = inr (but n h ks it on)
but_at s f (Some p) n h i is ks but it at on = but n h (i ∷ is) ks it at on

one_stands : (s : AbstractState) (f : Filling) (target : Target) (limits : Limits) (n : ℕ) (h : Bindings) (is ks : List Value) (v : Value) → name_at s.names.now f.array ≡ name_at s.names.now target.array → IsSmall s target limits f.most → StandsButOne s f target.cell → Describes s n h → GetsElement s.names.now h target limits is v
    → AreIn s.names.now (filled h (name_at s.names.now f.array) is v) f.block ks → HasValue s.names.now (filled h (name_at s.names.now f.array) is v) f.array ks f.most
one_stands s f target limits n h [] ks v same small but it gets on = absurd gets.at
one_stands s f target limits n h (i ∷ is) ks v same small but it gets on =
    let names = s.names.now in
    let own = name_at names f.array in
    let before : AreIn names h f.block ks = sides_to names (filled h own (i ∷ is) v) h (f.block.first ∷ more_sides f.block.second) ks (λ j. alone_stays names own i is h v j) on in
    one_after names h f.array i is ks v f.most (subst (λ m. Allows names h (at_key m (i ∷ is)) v f.most) (sym same) (allowed s target limits f.most n h (i ∷ is) v small it gets)) (but_at s f target.cell n h i is ks but it gets.at before)

pub filled_with : (s : AbstractState) (f : Filling) (target : Target) (limits : Limits) → name_at s.names.now f.array ≡ name_at s.names.now target.array → IsSmall s target limits f.most → StandsButOne s f target.cell → StandsWith s target limits (facts.Filled f)
filled_with s f target limits same small but n h is v it gets =
    subst (λ m. Stands s.names.now (assign h (at_key m is) v) (facts.Filled f)) same (λ ks on. one_stands s f target limits n h is ks v same small but it gets on)

other_stands : (s : AbstractState) (f : Filling) (target : Target) (limits : Limits) (n : ℕ) (h : Bindings) (is ks : List Value) (v : Value) → name_at s.names.now f.array ≢ name_at s.names.now target.array → Implies s (facts.Filled f) → Describes s n h → GetsElement s.names.now h target limits is v
    → AreIn s.names.now (filled h (name_at s.names.now target.array) is v) f.block ks → HasValue s.names.now (filled h (name_at s.names.now target.array) is v) f.array ks f.most
other_stands s f target limits n h [] ks v apart implies it gets on = absurd gets.at
other_stands s f target limits n h (i ∷ is) ks v apart implies it gets on =
    let names = s.names.now in
    let name = name_at names target.array in
    let before : AreIn names h f.block ks = sides_to names (filled h name (i ∷ is) v) h (f.block.first ∷ more_sides f.block.second) ks (λ j. alone_stays names name i is h v j) on in
    old_after names h name f.array i is ks v f.most (implies n h it ks before) (λ same. apart (ap (λ (k : Key). k.name) same))

pub filled_other : (s : AbstractState) (f : Filling) (target : Target) (limits : Limits) → name_at s.names.now f.array ≢ name_at s.names.now target.array → Implies s (facts.Filled f) → StandsWith s target limits (facts.Filled f)
filled_other s f target limits apart implies n h is v it gets ks on = other_stands s f target limits n h is ks v apart implies it gets on

-- how two numbers compare, wherever both bounds have numbers
numbers_with : (R : ℤ → ℤ → Type 0) (s : AbstractState) (target : Target) (limits : Limits) (a b : Bound) (h : Bindings) (is : List Value) (v : Value) → GetsElement s.names.now h target limits is v → ((x y : ℤ) → IsBound s.names.now h a x → IsBound s.names.now h b y → R x y)
    → (x y : ℤ) → IsBound s.names.now (assign h (at_key (name_at s.names.now target.array) is) v) a x → IsBound s.names.now (assign h (at_key (name_at s.names.now target.array) is) v) b y → R x y
numbers_with R s target limits a b h [] v gets compared x y is_x is_y = absurd gets.at
numbers_with R s target limits a b h (i ∷ is) v gets compared x y is_x is_y =
    let names = s.names.now in
    let g = filled h (name_at names target.array) (i ∷ is) v in
    let same = λ (j : ℕ). alone_stays names (name_at names target.array) i is h v j in
    compared x y (number_to names g h a.term a.add x same is_x) (number_to names g h b.term b.add y same is_y)

pub ordered_fact_with : (s : AbstractState) (target : Target) (limits : Limits) (fact : Fact) (a b : Bound) → fact ≡ facts.AtMost a b → Implies s fact → StandsWith s target limits fact
ordered_fact_with s target limits fact a b is implies =
    let implied : Implies s (facts.AtMost a b) = subst (λ (q : Fact). Implies s q) is implies in
    subst (λ (q : Fact). StandsWith s target limits q) (sym is) (λ n h js v it gets. numbers_with (λ x y. x ≤ℤ y) s target limits a b h js v gets (implied n h it))

pub unequal_fact_with : (s : AbstractState) (target : Target) (limits : Limits) (fact : Fact) (a b : Bound) → fact ≡ facts.Unequal a b → Implies s fact → StandsWith s target limits fact
unequal_fact_with s target limits fact a b is implies =
    let implied : Implies s (facts.Unequal a b) = subst (λ (q : Fact). Implies s q) is implies in
    subst (λ (q : Fact). StandsWith s target limits q) (sym is) (λ n h js v it gets. numbers_with (λ x y. x ≢ y) s target limits a b h js v gets (implied n h it))

pub fact_with : (s : AbstractState) (target : Target) (limits : Limits) (fact f : Fact) → fact ≡ f → StandsWith s target limits f → StandsWith s target limits fact
fact_with s target limits fact f is stands = subst (λ (q : Fact). StandsWith s target limits q) (sym is) stands

pub with_push : (s : AbstractState) (target : Target) (limits : Limits) (after : List Fact) (f : Fact) → GivesElement s target limits after → StandsWith s target limits f → GivesElement s target limits (after ++ f ∷ [])
with_push s target limits after f all one n h is v it gets = all_push s.names.now (assign h (at_key (name_at s.names.now target.array) is) v) after f (all n h is v it gets) (one n h is v it gets)
