-- Arrays that have values at the keys of another, and elements that are such keys.
use Rattle.ctd_element_changes.proofs.Common.{AbstractState, AreExcepted, AreIn, AreOn, Bindings, Bor, Describes, Filling, Has, Implies, Index, Key, Keys, List, None, Option, Some, Stands, Value, [], ap, assign, at_key, inl, inr, more_sides, name_at, subst, sym, ℕ, ◌∙◌, ◌∷◌, ◌≡◌, ◌≢◌, ◌⊎◌}
use Rattle.ctd_elements.specs.declared.fact.Cell.{Cell}
use Rattle.ctd_element_changes.specs.declared.element.Target.{Target}
use Rattle.ctd_elements.specs.declared.limits.Limits.{Limits}
use Rattle.ctd_element_changes.specs.calls.Changes.{AreAt, IsIndexFrom}
use Rattle.ctd_elements.specs.calls.Blocks.{block_at, second_at}
use Rattle.ctd_elements.specs.calls.Reading.{HasKey}
use Rattle.ctd_element_changes.specs.inner.Elements.{HasCell, IsCellIn, IsMissing, IsMissingAt, KeysComplete, StandsWith, ValuesComplete}
use Rattle.ctd_elements.specs.calls.Limits.{IsCell}
use Rattle.ctd_store.specs.Store.{value_at}
use Rattle.ctd_elements.specs.declared.fact.Fact.TheVariants as facts
use Rattle.ctd_element_changes.proofs.Sameness.{excepted_to}
use Rattle.ctd_element_changes.proofs.Giving.{alone_stays, changed, filled, has_value, none_left, none_lost, one_value}

-- what the keys of an array are, once an element got a value
carried : (names : List (Bor (List ℕ))) (h : Bindings) (name : List ℕ) (i : Value) (is : List Value) (v : Value) (k : Keys) (xs ys : List Value) → Has names h k.other xs ⊎ AreExcepted names h k.except ys → Has names (filled h name (i ∷ is) v) k.other xs ⊎ AreExcepted names (filled h name (i ∷ is) v) k.except ys
carried names h name i is v k xs ys (inl has) = inl (none_lost h name (name_at names k.other) (i ∷ is) xs v has.0 has.1)
carried names h name i is v k xs ys (inr on) = inr (excepted_to names h (filled h name (i ∷ is) v) k.except ys (λ j. sym (alone_stays names name i is h v j)) on)

keys_after : (names : List (Bor (List ℕ))) (h : Bindings) (name : List ℕ) (i : Value) (is : List Value) (v : Value) (k : Keys) → Stands names h (facts.KeysWithin k) → (name_at names k.array ≡ name → Has names h k.other (i ∷ is) ⊎ AreExcepted names h k.except (i ∷ is)) → Stands names (filled h name (i ∷ is) v) (facts.KeysWithin k)
keys_after names h name i is v k stands there j w js has = elim (changed h name (name_at names k.array) (i ∷ is) (j ∷ js) v w has) as (λ _. Has names (filled h name (i ∷ is) v) k.other (j ∷ js) ⊎ AreExcepted names (filled h name (i ∷ is) v) k.except (j ∷ js)) [
  | inl old ↦ carried names h name i is v k (j ∷ js) (j ∷ js) (stands j w js old)
  | inr new ↦ carried names h name i is v k (j ∷ js) (j ∷ js) (subst (λ l. Has names h k.other l ⊎ AreExcepted names h k.except l) (sym (ap (λ (q : Key). q.indices) new.0)) (there (ap (λ (q : Key). q.name) new.0)))
]

values_after : (names : List (Bor (List ℕ))) (h : Bindings) (name : List ℕ) (i : Value) (is : List Value) (v : Value) (k : Keys) → Stands names h (facts.ValuesAreKeys k) → (name_at names k.array ≡ name → Has names h k.other (v ∷ []) ⊎ AreExcepted names h k.except (i ∷ is)) → Stands names (filled h name (i ∷ is) v) (facts.ValuesAreKeys k)
values_after names h name i is v k stands there j w js has = elim (changed h name (name_at names k.array) (i ∷ is) (j ∷ js) v w has) as (λ _. Has names (filled h name (i ∷ is) v) k.other (w ∷ []) ⊎ AreExcepted names (filled h name (i ∷ is) v) k.except (j ∷ js)) [
  | inl old ↦ carried names h name i is v k (w ∷ []) (j ∷ js) (stands j w js old)
  | inr new ↦ carried names h name i is v k (w ∷ []) (j ∷ js) (subst (λ l. Has names h k.other (w ∷ []) ⊎ AreExcepted names h k.except l) (sym (ap (λ (q : Key). q.indices) new.0)) (subst (λ u. Has names h k.other (u ∷ []) ⊎ AreExcepted names h k.except (i ∷ is)) (sym new.1) (there (ap (λ (q : Key). q.name) new.0))))
]

-- the cell of a target
cell_in : (s : AbstractState) (cell : Option Cell) (k : Keys) (n : ℕ) (h : Bindings) (is : List Value) → IsCellIn s cell k.except → Describes s n h → AreAt s.names.now h cell is → AreExcepted s.names.now h k.except is
cell_in s None k n h is inside it at = absurd inside
cell_in s (Some p) k n h [] inside it at = absurd at
cell_in s (Some p) k n h (i ∷ is) inside it at = inside n h (i ∷ is) it at

has_cell : (s : AbstractState) (cell : Option Cell) (array n : ℕ) (h : Bindings) (is : List Value) → HasCell s array cell → Describes s n h → AreAt s.names.now h cell is → Has s.names.now h array is
has_cell s None array n h is has it at = absurd has
has_cell s (Some p) array n h [] has it at = absurd at
has_cell s (Some p) array n h (i ∷ is) has it at = has n h (i ∷ is) it at

pub within_by_cell : (s : AbstractState) (k : Keys) (target : Target) (limits : Limits) → Implies s (facts.KeysWithin k) → HasCell s k.other target.cell → StandsWith s target limits (facts.KeysWithin k)
within_by_cell s k target limits implies has n h [] v it gets = absurd gets.at
within_by_cell s k target limits implies has n h (i ∷ is) v it gets = keys_after s.names.now h (name_at s.names.now target.array) i is v k (implies n h it) (λ same. inl (has_cell s target.cell k.other n h (i ∷ is) has it gets.at))

pub within_by_exception : (s : AbstractState) (k : Keys) (target : Target) (limits : Limits) → Implies s (facts.KeysWithin k) → IsCellIn s target.cell k.except → StandsWith s target limits (facts.KeysWithin k)
within_by_exception s k target limits implies inside n h [] v it gets = absurd gets.at
within_by_exception s k target limits implies inside n h (i ∷ is) v it gets = keys_after s.names.now h (name_at s.names.now target.array) i is v k (implies n h it) (λ same. inr (cell_in s target.cell k n h (i ∷ is) inside it gets.at))

pub within_other : (s : AbstractState) (k : Keys) (target : Target) (limits : Limits) → Implies s (facts.KeysWithin k) → name_at s.names.now k.array ≢ name_at s.names.now target.array → StandsWith s target limits (facts.KeysWithin k)
within_other s k target limits implies apart n h [] v it gets = absurd gets.at
within_other s k target limits implies apart n h (i ∷ is) v it gets = keys_after s.names.now h (name_at s.names.now target.array) i is v k (implies n h it) (λ same. absurd (apart same))

pub values_by_key : (s : AbstractState) (k : Keys) (target : Target) (limits : Limits) → Implies s (facts.ValuesAreKeys k) → HasKey s k.other limits → StandsWith s target limits (facts.ValuesAreKeys k)
values_by_key s k target limits implies has n h [] v it gets = absurd gets.at
values_by_key s k target limits implies has n h (i ∷ is) v it gets = values_after s.names.now h (name_at s.names.now target.array) i is v k (implies n h it) (λ same. inl (has n h v it gets.limited))

pub values_by_exception : (s : AbstractState) (k : Keys) (target : Target) (limits : Limits) → Implies s (facts.ValuesAreKeys k) → IsCellIn s target.cell k.except → StandsWith s target limits (facts.ValuesAreKeys k)
values_by_exception s k target limits implies inside n h [] v it gets = absurd gets.at
values_by_exception s k target limits implies inside n h (i ∷ is) v it gets = values_after s.names.now h (name_at s.names.now target.array) i is v k (implies n h it) (λ same. inr (cell_in s target.cell k n h (i ∷ is) inside it gets.at))

pub values_other : (s : AbstractState) (k : Keys) (target : Target) (limits : Limits) → Implies s (facts.ValuesAreKeys k) → name_at s.names.now k.array ≢ name_at s.names.now target.array → StandsWith s target limits (facts.ValuesAreKeys k)
values_other s k target limits implies apart n h [] v it gets = absurd gets.at
values_other s k target limits implies apart n h (i ∷ is) v it gets = values_after s.names.now h (name_at s.names.now target.array) i is v k (implies n h it) (λ same. absurd (apart same))

-- there is one list of indices at a cell
seconds_one : (names : List (Bor (List ℕ))) (h : Bindings) (o : Option Index) (xs ys : List Value) → AreOn names h (more_sides (second_at o)) xs → AreOn names h (more_sides (second_at o)) ys → xs ≡ ys
seconds_one names h None xs ys on also = none_left names h xs on ∙ sym (none_left names h ys also)
seconds_one names h (Some index) [] ys on also = absurd on
seconds_one names h (Some index) (x ∷ xs) [] on also = absurd also
seconds_one names h (Some index) (x ∷ xs) (y ∷ ys) on also =
    ap (λ q. q ∷ xs) (one_value names h index x y on.0 also.0) ∙ ap (λ l. y ∷ l) (none_left names h xs on.1 ∙ sym (none_left names h ys also.1))

cell_one : (names : List (Bor (List ℕ))) (h : Bindings) (p : Cell) (xs ys : List Value) → AreIn names h (block_at p) xs → AreIn names h (block_at p) ys → xs ≡ ys
cell_one names h p [] ys on also = absurd on
cell_one names h p (x ∷ xs) [] on also = absurd also
cell_one names h p (x ∷ xs) (y ∷ ys) on also = ap (λ q. q ∷ xs) (one_value names h p.first x y on.0 also.0) ∙ ap (λ l. y ∷ l) (seconds_one names h p.second xs ys on.1 also.1)

-- the key that was missing is there
complete_by : (names : List (Bor (List ℕ))) (h : Bindings) (i : Value) (is : List Value) (v : Value) (k : Keys) (p : Cell) (xs : List Value) → AreIn names h (block_at p) (i ∷ is) → Has names h k.other xs ⊎ AreIn names h (block_at p) xs → Has names (filled h (name_at names k.other) (i ∷ is) v) k.other xs
complete_by names h i is v k p xs at (inl has) = none_lost h (name_at names k.other) (name_at names k.other) (i ∷ is) xs v has.0 has.1
complete_by names h i is v k p xs at (inr on) = subst (λ l. Has names (filled h (name_at names k.other) (i ∷ is) v) k.other l) (cell_one names h p (i ∷ is) xs at on) (has_value h (at_key (name_at names k.other) (i ∷ is)) v)

complete_after : (s : AbstractState) (k : Keys) (cell : Option Cell) (n : ℕ) (h : Bindings) (i : Value) (is : List Value) (v : Value) → IsMissing s k cell → name_at s.names.now k.array ≢ name_at s.names.now k.other → Describes s n h → AreAt s.names.now h cell (i ∷ is) → Stands s.names.now (filled h (name_at s.names.now k.other) (i ∷ is) v) (facts.KeysWithin k)
complete_after s k None n h i is v missing apart it at = absurd missing
complete_after s k (Some p) n h i is v missing apart it at = λ j w js has.
    (let names = s.names.now in
    elim (changed h (name_at names k.other) (name_at names k.array) (i ∷ is) (j ∷ js) v w has) as (λ _. Has names (filled h (name_at names k.other) (i ∷ is) v) k.other (j ∷ js) ⊎ AreExcepted names (filled h (name_at names k.other) (i ∷ is) v) k.except (j ∷ js)) [
      | inl old ↦ inl (complete_by names h i is v k p (j ∷ js) at (missing n h it j w js old))
      | inr new ↦ absurd (apart (ap (λ (q : Key). q.name) new.0))
    ])

pub within_complete : (s : AbstractState) (k : Keys) (target : Target) (limits : Limits) → KeysComplete s k target → name_at s.names.now k.array ≢ name_at s.names.now target.array → StandsWith s target limits (facts.KeysWithin k)
within_complete s k target limits complete apart n h [] v it gets = absurd gets.at
within_complete s k target limits complete apart n h (i ∷ is) v it gets =
    subst (λ m. Stands s.names.now (assign h (at_key m (i ∷ is)) v) (facts.KeysWithin k)) complete.0
    (complete_after s k target.cell n h i is v complete.1 (λ same. apart (same ∙ complete.0)) it gets.at)

pub missing_by : (s : AbstractState) (k without : Keys) (cell : Option Cell) (p : Cell) → cell ≡ Some p → without ≡ record { array = k.array; other = k.other; except = Some (block_at p) } → Implies s (facts.KeysWithin without) → IsMissing s k cell
missing_by s k without cell p is same implies = subst (λ o. IsMissing s k o) (sym is) (subst (λ (q : Keys). Implies s (facts.KeysWithin q)) same implies)

pub cell_by : (s : AbstractState) (array : ℕ) (cell : Option Cell) (p : Cell) (f : Filling) → cell ≡ Some p → f ≡ record { array = array; block = block_at p; most = None } → Implies s (facts.Filled f) → HasCell s array cell
cell_by s array cell p f is same implies = subst (λ o. HasCell s array o) (sym is)
    (λ n h indices it at. let here = (subst (λ (q : Filling). Implies s (facts.Filled q)) same implies) n h it indices at in (here.value, here.is))

-- the key that was missing among those of values is there
values_by : (names : List (Bor (List ℕ))) (h : Bindings) (i v w : Value) (k : Keys) (p : Cell) (xs ys : List Value) → AreIn names h (block_at p) xs → value_at h (at_key (name_at names k.array) xs) ≡ Some i → value_at h (at_key (name_at names k.array) ys) ≡ Some w →
    Has names h k.other (w ∷ []) ⊎ AreIn names h (block_at p) ys → Has names (filled h (name_at names k.other) (i ∷ []) v) k.other (w ∷ [])
values_by names h i v w k p xs ys at is_i is_w (inl has) = none_lost h (name_at names k.other) (name_at names k.other) (i ∷ []) (w ∷ []) v has.0 has.1
values_by names h i v w k p xs ys at is_i is_w (inr on) =
    let same : xs ≡ ys = cell_one names h p xs ys at on in
    let also : value_at h (at_key (name_at names k.array) ys) ≡ Some i = subst (λ l. value_at h (at_key (name_at names k.array) l) ≡ Some i) same is_i in
    let one : i ≡ w = cc (also, is_w) in
    subst (λ q. Has names (filled h (name_at names k.other) (i ∷ []) v) k.other (q ∷ [])) one (has_value h (at_key (name_at names k.other) (i ∷ [])) v)

values_filled : (s : AbstractState) (k : Keys) (cell : Option Cell) (n : ℕ) (h : Bindings) (i v a : Value) (as' : List Value) → IsMissingAt s k cell → name_at s.names.now k.array ≢ name_at s.names.now k.other → Describes s n h →
    value_at h (at_key (name_at s.names.now k.array) (a ∷ as')) ≡ Some i → IsCell s.names.now h cell (a ∷ as') → Stands s.names.now (filled h (name_at s.names.now k.other) (i ∷ []) v) (facts.ValuesAreKeys k)
values_filled s k None n h i v a as' missing apart it is at = absurd missing
values_filled s k (Some p) n h i v a as' missing apart it is at = λ j w js has.
    (let names = s.names.now in
    elim (changed h (name_at names k.other) (name_at names k.array) (i ∷ []) (j ∷ js) v w has) as (λ _. Has names (filled h (name_at names k.other) (i ∷ []) v) k.other (w ∷ []) ⊎ AreExcepted names (filled h (name_at names k.other) (i ∷ []) v) k.except (j ∷ js)) [
      | inl old ↦ inl (values_by names h i v w k p (a ∷ as') (j ∷ js) at is old (missing n h it j w js old))
      | inr new ↦ absurd (apart (ap (λ (q : Key). q.name) new.0))
    ])

pub values_complete : (s : AbstractState) (k : Keys) (target : Target) (limits : Limits) → ValuesComplete s k target → StandsWith s target limits (facts.ValuesAreKeys k)
values_complete s k target limits complete n h [] v it gets = absurd gets.at
values_complete s k target limits complete n h (i ∷ j ∷ js) v it gets = absurd (subst (λ o. IsIndexFrom s.names.now h o (i ∷ j ∷ js)) complete.is gets.from)
values_complete s k target limits complete n h (i ∷ []) v it gets =
    let names = s.names.now in
    let from : IsIndexFrom names h (Some complete.source) (i ∷ []) = subst (λ o. IsIndexFrom names h o (i ∷ [])) complete.is gets.from in
    let is : value_at h (at_key (name_at names k.array) (from.0 ∷ from.1)) ≡ Some i = subst (λ m. value_at h (at_key m (from.0 ∷ from.1)) ≡ Some i) (sym complete.key.array) from.2 in
    subst (λ m. Stands names (assign h (at_key m (i ∷ [])) v) (facts.ValuesAreKeys k)) complete.other
    (values_filled s k complete.source.cell n h i v from.0 from.1 complete.key.missing (λ same. complete.apart (same ∙ complete.other)) it is from.3)

pub values_missing_by : (s : AbstractState) (k without : Keys) (cell : Option Cell) (p : Cell) → cell ≡ Some p → without ≡ record { array = k.array; other = k.other; except = Some (block_at p) } → Implies s (facts.ValuesAreKeys without) → IsMissingAt s k cell
values_missing_by s k without cell p is same implies = subst (λ o. IsMissingAt s k o) (sym is) (subst (λ (q : Keys). Implies s (facts.ValuesAreKeys q)) same implies)
