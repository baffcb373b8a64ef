-- The slots of names, and what one or the other of their arrays are, in the order of the names.
use Rattle.std.proofs.Common.{◌≡◌, ◌≢◌, Bool, true, false, IsTrue, Result, Ok, Err, OnOk, OnErr, if◌then◌else◌, ℕ, zero, suc, ◌<◌, T, not, filter, List, [], ◌∷◌, ◌++◌, length, get_or, Option, Bor, Some, None, refl, ap, sym, subst, ◌∙◌, arith}
use Rattle.std.specs.Prelude.{slice_get, slice_set}
use Rattle.std.specs.Option.{IfSome, option_copied}
use Rattle.std.specs.FinMap.{find, put}
use Rattle.ctd_store.specs.declared.slot.Slot.{Slot}
use Rattle.ctd_store.specs.declared.value.Value.{Value}
use Rattle.ctd_store.specs.Order.{bytes_cmp, same_bytes, values_cmp}
use Rattle.ctd_store.specs.calls.Slot.{arrays_by, pins_in, values_in}
use Rattle.ctd_store.specs.inner.Slot.{name_in}
use Rattle.ctd_store.specs.Store.{Array, Variables, Bindings, array_of, with_value, has_indices, is_pinned, assign, unset}
use Rattle.ctd_store.specs.calls.Store.{Positions, in_order, have_positions}
use Rattle.ctd_store.specs.inner.Store.{name_at, with_unpinned}
use Rattle.ctd_store.proofs.Lookups.{put_in}
use Rattle.ctd_store.proofs.Named.{IsAbsent, nothing, same_some, absent, missing_array, array_at, written_at, emptied_at, none_left_out, positions_set, positions_added, put_filled, added, added_empty}

-- a position with a name is in the list
pub within : (xs : List Slot) (at : ℕ) (q : List ℕ) → name_in xs at ≡ Some q → at < length xs
within [] at q is = absurd (nothing q is)
within (x ∷ xs) zero q is = omega arith
within (x ∷ xs) (suc at) q is = let inside = within xs at q is in omega (arith, inside)

-- the name at a position
pub name_here : (xs : List Slot) (at : ℕ) (x : Slot) → at < length xs → x ≡ get_or xs at x → name_in xs at ≡ Some x.name
name_here [] at x inside is = absurd (omega (arith, inside))
name_here (y ∷ xs) zero x inside is = ap (λ n. Some n.name) (sym is)
name_here (y ∷ xs) (suc at) x inside is = name_here xs at x (omega (arith, inside)) is

-- a name at a position, in a list and where it is lent
pub lent_name : (lent items : List Slot) (at : ℕ) (q : List ℕ) → lent ≡ items → name_in lent at ≡ Some q → name_in items at ≡ Some q
lent_name lent items at q same name = subst (λ l. name_in l at ≡ Some q) same name

-- a name that has no position in the list
abbrev pub Unknown : List Slot → Positions → List ℕ → Type 0
Unknown items ps q = (at : ℕ) → find bytes_cmp q ps ≡ Some at → name_in items at ≢ Some q

-- and so of the array, of either kind
module _ (part : Slot → Array) where
  name_by : (xs : List Slot) (at : ℕ) → name_at (arrays_by part xs) at ≡ name_in xs at
  name_by [] at = refl
  name_by (x ∷ xs) zero = refl
  name_by (x ∷ xs) (suc at) = name_by xs at

  array_here : (xs : List Slot) (at : ℕ) (q : List ℕ) (x : Slot) → name_in xs at ≡ Some q → x ≡ get_or xs at x → slice_get (arrays_by part xs) at ≡ Some (q, part x)
  array_here [] at q x is there = absurd (nothing q is)
  array_here (y ∷ xs) zero q x is there = λ i. Some (same_some y.name q is i, part (sym there i))
  array_here (y ∷ xs) (suc at) q x is there = array_here xs at q x is there

  written_here : (xs : List Slot) (at : ℕ) (q : List ℕ) (x y : Slot) → name_in xs at ≡ Some q → x ≡ get_or xs at x → y.name ≡ x.name
      → arrays_by part (slice_set xs at y) ≡ slice_set (arrays_by part xs) at (q, part y)
  written_here [] at q x y is there same = refl
  written_here (z ∷ xs) zero q x y is there same = λ i. ((same ∙ ap (λ s. s.name) there ∙ same_some z.name q is) i, part y) ∷ arrays_by part xs
  written_here (z ∷ xs) (suc at) q x y is there same = ap (λ vs. (z.name, part z) ∷ vs) (written_here xs at q x y is there same)

  same_here : (xs : List Slot) (at : ℕ) (q : List ℕ) (x y : Slot) → name_in xs at ≡ Some q → x ≡ get_or xs at x → y.name ≡ x.name → part y ≡ part x
      → arrays_by part (slice_set xs at y) ≡ arrays_by part xs
  same_here [] at q x y is there same kept = refl
  same_here (z ∷ xs) zero q x y is there same kept = λ i. ((same ∙ ap (λ s. s.name) there) i, (kept ∙ ap part there) i) ∷ arrays_by part xs
  same_here (z ∷ xs) (suc at) q x y is there same kept = ap (λ vs. (z.name, part z) ∷ vs) (same_here xs at q x y is there same kept)

  -- where another slot with another array has the place of one
  pub array_found : (items : List Slot) (ps : Positions) (at : ℕ) (q : List ℕ) (x : Slot) (h : Variables) → T (have_positions 0 (arrays_by part items) ps) → name_in items at ≡ Some q → x ≡ get_or items at x
      → in_order (arrays_by part items) ≡ h → array_of q h ≡ part x
  array_found items ps at q x h placed name is view = ap (array_of q) (sym view) ∙ array_at at (arrays_by part items) ps q (part x) placed (array_here items at q x name is)

  pub still_placed : (items : List Slot) (ps : Positions) (at : ℕ) (q : List ℕ) (x y : Slot) → T (have_positions 0 (arrays_by part items) ps) → name_in items at ≡ Some q → x ≡ get_or items at x → y.name ≡ x.name
      → T (have_positions 0 (arrays_by part (slice_set items at y)) ps)
  still_placed items ps at q x y placed name is same =
      subst (λ vs. T (have_positions 0 vs ps)) (sym (written_here items at q x y name is same)) (positions_set 0 at (arrays_by part items) ps q (part x) (part y) (array_here items at q x name is) placed)

  pub value_written : (items : List Slot) (ps : Positions) (at : ℕ) (q : List ℕ) (x y : Slot) (h : Variables) (is : List Value) (v : Value) → T (have_positions 0 (arrays_by part items) ps) → name_in items at ≡ Some q
      → x ≡ get_or items at x → y.name ≡ x.name → in_order (arrays_by part items) ≡ h → part y ≡ put values_cmp is v (part x)
      → in_order (arrays_by part (slice_set items at y)) ≡ with_value (record { name = q; indices = is }) v h
  value_written items ps at q x y h is v placed name there same view e =
      let here = array_here items at q x name there in
      ap in_order (written_here items at q x y name there same)
      ∙ written_at at (arrays_by part items) ps q (part x) (part y) (subst (λ a. a ≢ []) (sym e) (put_filled is v (part x))) placed here
      ∙ put_in (record { name = q; indices = is }) v h (in_order (arrays_by part items)) q is (part x) (part y) refl refl view (array_at at (arrays_by part items) ps q (part x) placed here) e

  pub unwritten : (items : List Slot) (at : ℕ) (q : List ℕ) (x y : Slot) (h : Variables) → name_in items at ≡ Some q → x ≡ get_or items at x → y.name ≡ x.name → part y ≡ part x → in_order (arrays_by part items) ≡ h
      → in_order (arrays_by part (slice_set items at y)) ≡ h
  unwritten items at q x y h name there same kept view = ap in_order (same_here items at q x y name there same kept) ∙ view

  pub emptied : (items : List Slot) (ps : Positions) (at : ℕ) (q : List ℕ) (x y : Slot) (h : Variables) → T (have_positions 0 (arrays_by part items) ps) → name_in items at ≡ Some q → x ≡ get_or items at x → y.name ≡ x.name
      → in_order (arrays_by part items) ≡ h → part y ≡ [] → in_order (arrays_by part (slice_set items at y)) ≡ filter (λ v. not (same_bytes q v.0)) h
  emptied items ps at q x y h placed name there same view none =
      ap in_order (written_here items at q x y name there same ∙ ap (λ a. slice_set (arrays_by part items) at (q, a)) none)
      ∙ emptied_at at (arrays_by part items) ps q (part x) placed (array_here items at q x name there)
      ∙ ap (filter (λ v. not (same_bytes q v.0))) view

  -- where the name has no position
  absent_in : (items : List Slot) (ps : Positions) (q : List ℕ) → T (have_positions 0 (arrays_by part items) ps) → Unknown items ps q → IsAbsent q (arrays_by part items)
  absent_in items ps q placed unknown = absent q (arrays_by part items) ps placed (λ at known is. unknown at known (sym (name_by items at) ∙ is))

  pub missing_in : (items : List Slot) (ps : Positions) (q : List ℕ) (h : Variables) → T (have_positions 0 (arrays_by part items) ps) → Unknown items ps q
      → in_order (arrays_by part items) ≡ h → array_of q h ≡ []
  missing_in items ps q h placed unknown view = ap (array_of q) (sym view) ∙ missing_array q (arrays_by part items) (absent_in items ps q placed unknown)

  pub left_out : (items : List Slot) (ps : Positions) (q : List ℕ) (h : Variables) → T (have_positions 0 (arrays_by part items) ps) → Unknown items ps q
      → in_order (arrays_by part items) ≡ h → h ≡ filter (λ v. not (same_bytes q v.0)) h
  left_out items ps q h placed unknown view =
      subst (λ vs. vs ≡ filter (λ v. not (same_bytes q v.0)) vs) view (none_left_out q (arrays_by part items) (absent_in items ps q placed unknown))

  behind : (xs : List Slot) (y : Slot) → arrays_by part (xs ++ y ∷ []) ≡ arrays_by part xs ++ (y.name, part y) ∷ []
  behind [] y = refl
  behind (x ∷ xs) y = ap (λ vs. (x.name, part x) ∷ vs) (behind xs y)

  many : (xs : List Slot) → length (arrays_by part xs) ≡ length xs
  many [] = refl
  many (x ∷ xs) = ap suc (many xs)

  pub placed_behind : (items : List Slot) (ps : Positions) (y : Slot) → T (have_positions 0 (arrays_by part items) ps) → Unknown items ps y.name
      → T (have_positions 0 (arrays_by part (items ++ y ∷ [])) (put bytes_cmp y.name (length items) ps))
  placed_behind items ps y placed unknown =
      let count = many items in
      subst (λ vs. T (have_positions 0 vs (put bytes_cmp y.name (length items) ps))) (sym (behind items y)) (positions_added 0 (length items) (arrays_by part items) ps y.name (part y) (omega (arith, count)) (absent_in items ps y.name placed unknown) placed)

  -- a slot behind the others, with one value or none
  pub one_behind : (items : List Slot) (ps : Positions) (y : Slot) (h : Variables) (is : List Value) (v : Value) → T (have_positions 0 (arrays_by part items) ps) → Unknown items ps y.name
      → in_order (arrays_by part items) ≡ h → part y ≡ (is, v) ∷ [] → in_order (arrays_by part (items ++ y ∷ [])) ≡ with_value (record { name = y.name; indices = is }) v h
  one_behind items ps y h is v placed unknown view one =
      ap in_order (behind items y ∙ ap (λ a. arrays_by part items ++ (y.name, a) ∷ []) one)
      ∙ added (arrays_by part items) ps y.name (is, v) [] placed (absent_in items ps y.name placed unknown)
      ∙ put_in (record { name = y.name; indices = is }) v h (in_order (arrays_by part items)) y.name is [] ((is, v) ∷ []) refl refl view (missing_array y.name (arrays_by part items) (absent_in items ps y.name placed unknown)) refl

  pub none_behind : (items : List Slot) (ps : Positions) (y : Slot) (h : Variables) → T (have_positions 0 (arrays_by part items) ps) → Unknown items ps y.name
      → in_order (arrays_by part items) ≡ h → part y ≡ [] → in_order (arrays_by part (items ++ y ∷ [])) ≡ h
  none_behind items ps y h placed unknown view none =
      ap in_order (behind items y ∙ ap (λ a. arrays_by part items ++ (y.name, a) ∷ []) none)
      ∙ added_empty (arrays_by part items) ps y.name placed (absent_in items ps y.name placed unknown)
      ∙ view

  -- whether a slot was put behind the others or not
  pub all_placed : {A E : Type 0} (r : Result A E) (items new : List Slot) (ps qs : Positions) (y : Slot) (q : List ℕ) → y.name ≡ q → T (have_positions 0 (arrays_by part items) ps) → Unknown items ps q
      → OnOk r ((new ≡ items ++ y ∷ []) × (qs ≡ put bytes_cmp q (length items) ps)) → OnErr r ((new ≡ items) × (qs ≡ ps)) → T (have_positions 0 (arrays_by part new) qs)
  all_placed (Ok x) items new ps qs y q same placed unknown done kept =
      subst (λ (p : List Slot × Positions). T (have_positions 0 (arrays_by part p.0) p.1)) (λ i. (sym done.0 i, sym (done.1 ∙ ap (λ n. put bytes_cmp n (length items) ps) (sym same)) i))
      (placed_behind items ps y placed (subst (Unknown items ps) (sym same) unknown))
  all_placed (Err e) items new ps qs y q same placed unknown done kept = subst (λ (p : List Slot × Positions). T (have_positions 0 (arrays_by part p.0) p.1)) (λ i. (sym kept.0 i, sym kept.1 i)) placed

-- a value that is lent
pub lent_value : (lent : Option (Bor Value)) (o : Option Value) → option_copied lent ≡ o → IfSome lent (λ x. o ≡ Some x.now)
lent_value None o e = tt
lent_value (Some x) o e = sym e

-- the variables that slots are
abbrev pub history_of : List Slot → Bindings
history_of items = record { pins = in_order (arrays_by pins_in items); assigned = in_order (arrays_by values_in items) }

-- nothing is pinned of a name that has no position
pub none_pinned : (lent items : List Slot) (ps : Positions) (q : List ℕ) (h : Bindings) (is : List Value) → T (have_positions 0 (arrays_by pins_in items) ps) → lent ≡ items → Unknown lent ps q → history_of items ≡ h
    → IsTrue (is_pinned h (record { name = q; indices = is })) → ⊥
none_pinned lent items ps q h is placed same unknown view pinned =
    none_in_none (subst (λ a. IsTrue (has_indices a is)) (missing_in pins_in items ps q h.pins placed (subst (λ l. Unknown l ps q) same unknown) (ap (λ h. h.pins) view)) pinned)
  where
    none_in_none : IsTrue (has_indices [] is) → ⊥
    none_in_none h = cc

-- what they are where a slot keeps its arrays
pub kept_here : (items : List Slot) (at : ℕ) (q : List ℕ) (x y : Slot) (h : Bindings) → name_in items at ≡ Some q → x ≡ get_or items at x → y.name ≡ x.name → pins_in y ≡ pins_in x → history_of items ≡ h → y.values ≡ x.values → history_of (slice_set items at y) ≡ h
kept_here items at q x y h name there same kept view e = λ i. record {
  pins = unwritten pins_in items at q x y h.pins name there same kept (ap (λ h. h.pins) view) i;
  assigned = unwritten values_in items at q x y h.assigned name there same e (ap (λ h. h.assigned) view) i;
}

-- where one gets a value
pub assigned_here : (items : List Slot) (ps : Positions) (at : ℕ) (q : List ℕ) (x y : Slot) (h : Bindings) (is : List Value) (v : Value) → T (have_positions 0 (arrays_by pins_in items) ps) → T (have_positions 0 (arrays_by values_in items) ps) → name_in items at ≡ Some q
    → x ≡ get_or items at x → y.name ≡ x.name → pins_in y ≡ pins_in x → history_of items ≡ h → y.values ≡ with_unpinned (pins_in x) is v x.values → history_of (slice_set items at y) ≡ assign h (record { name = q; indices = is }) v
assigned_here items ps at q x y h is v placed placed_too name there same kept view e =
    by_pin (has_indices (pins_in x) is) e
    ∙ ap (λ a. if has_indices a is then h else record { pins = h.pins; assigned = with_value (record { name = q; indices = is }) v h.assigned }) (sym (array_found pins_in items ps at q x h.pins placed name there (ap (λ h. h.pins) view)))
  where
    by_pin : (b : Bool) → y.values ≡ (if b then x.values else put values_cmp is v x.values)
        → history_of (slice_set items at y) ≡ (if b then h else record { pins = h.pins; assigned = with_value (record { name = q; indices = is }) v h.assigned })
    by_pin true e = kept_here items at q x y h name there same kept view e
    by_pin false e = λ i. record {
      pins = unwritten pins_in items at q x y h.pins name there same kept (ap (λ h. h.pins) view) i;
      assigned = value_written values_in items ps at q x y h.assigned is v placed_too name there same (ap (λ h. h.assigned) view) e i;
    }

-- and where one with the value is put behind the others
pub assigned_behind : (items new : List Slot) (ps : Positions) (y : Slot) (q : List ℕ) (h : Bindings) (is : List Value) (v : Value) → y.name ≡ q → pins_in y ≡ [] → y.values ≡ (is, v) ∷ [] → T (have_positions 0 (arrays_by pins_in items) ps) → T (have_positions 0 (arrays_by values_in items) ps)
    → Unknown items ps q → history_of items ≡ h → new ≡ items ++ y ∷ [] → history_of new ≡ assign h (record { name = q; indices = is }) v
assigned_behind items new ps y q h is v same none one placed placed_too unknown view e =
    let here = subst (Unknown items ps) (sym same) unknown in
    subst (λ n. history_of new ≡ assign h (record { name = n; indices = is }) v) same
    (ap history_of e
    ∙ (λ i. record {
      pins = none_behind pins_in items ps y h.pins placed here (ap (λ h. h.pins) view) none i;
      assigned = one_behind values_in items ps y h.assigned is v placed_too here (ap (λ h. h.assigned) view) one i;
    })
    ∙ ap (λ a. if has_indices a is then h else record { pins = h.pins; assigned = with_value (record { name = y.name; indices = is }) v h.assigned }) (sym (missing_in pins_in items ps y.name h.pins placed here (ap (λ h. h.pins) view))))

-- what they are where a slot gets a pin
pub pinned_here : (items : List Slot) (ps : Positions) (at : ℕ) (q : List ℕ) (x y : Slot) (h : Bindings) (is : List Value) (v : Value) → T (have_positions 0 (arrays_by pins_in items) ps) → T (have_positions 0 (arrays_by values_in items) ps) → name_in items at ≡ Some q
    → x ≡ get_or items at x → y.name ≡ x.name → y.values ≡ [] → history_of items ≡ h → pins_in y ≡ put values_cmp is v (pins_in x)
    → history_of (slice_set items at y) ≡ unset (record { pins = with_value (record { name = q; indices = is }) v h.pins; assigned = h.assigned }) q
pinned_here items ps at q x y h is v placed placed_too name there same none view e = λ i. record {
  pins = value_written pins_in items ps at q x y h.pins is v placed name there same (ap (λ h. h.pins) view) e i;
  assigned = emptied values_in items ps at q x y h.assigned placed_too name there same (ap (λ h. h.assigned) view) none i;
}

-- and where one with the pin is put behind the others
pub pinned_behind : (items new : List Slot) (ps : Positions) (y : Slot) (q : List ℕ) (h : Bindings) (is : List Value) (v : Value) → y.name ≡ q → pins_in y ≡ (is, v) ∷ [] → y.values ≡ [] → T (have_positions 0 (arrays_by pins_in items) ps) → T (have_positions 0 (arrays_by values_in items) ps)
    → Unknown items ps q → history_of items ≡ h → new ≡ items ++ y ∷ []
    → history_of new ≡ unset (record { pins = with_value (record { name = q; indices = is }) v h.pins; assigned = h.assigned }) q
pinned_behind items new ps y q h is v same one none placed placed_too unknown view e =
    let here = subst (Unknown items ps) (sym same) unknown in
    subst (λ n. history_of new ≡ unset (record { pins = with_value (record { name = n; indices = is }) v h.pins; assigned = h.assigned }) n) same
    (ap history_of e
    ∙ (λ i. record {
      pins = one_behind pins_in items ps y h.pins is v placed here (ap (λ h. h.pins) view) one i;
      assigned = (none_behind values_in items ps y h.assigned placed_too here (ap (λ h. h.assigned) view) none ∙ left_out values_in items ps y.name h.assigned placed_too here (ap (λ h. h.assigned) view)) i;
    }))
