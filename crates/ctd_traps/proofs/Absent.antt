-- Events that are not noted never happen.
use Rattle.ctd_traps.proofs.Common.{AreAbsent, Bindings, Bool, CommandList, Contains, Context, Moment, Contains-append_cases, Contains-append_left, Contains-append_right, Contains-push, Contains-push_cases, Event, EventKind}
use Rattle.ctd_traps.proofs.Common.{Fault, HasEachEvent, List, NeverHappens, Note, Noted, Place, PlacedEvent, Preset, [], answers, ap, arith, at_drop_more, begins, cond, drop, drop_all, event_of}
use Rattle.ctd_traps.proofs.Common.{event_of_kind, events_of, fails, false, finds, get_or, inl, inr, length, noted_in, refl, subst, sym, true, ℕ, ◌++◌, ◌+◌, ◌<◌, ◌∙◌, ◌∷◌, ◌≡◌, ◌≤◌, ◌⊎◌}
use Rattle.ctd_traps.specs.calls.Events.{goes_on}
use Rattle.ctd_traps.specs.declared.note.EventKind.TheVariants as kinds
use Rattle.ctd_traps.proofs.Noting.{events_both}

-- elements of lists
pub none_in : {X : Type 0} (x : X) → Contains [] x → ⊥
none_in x has = omega (arith, has.1)

only_or_none : {X : Type 0} (y x : X) → Contains [] x ⊎ (y ≡ x) → y ≡ x
only_or_none y x (inl none) = absurd (none_in x none)
only_or_none y x (inr is) = is

either_part : {X : Type 0} (y : X) (ys : List X) (x : X) → Contains (y ∷ []) x ⊎ Contains ys x → (y ≡ x) ⊎ Contains ys x
either_part y ys x (inl one) = inl (only_or_none y x (Contains-push_cases [] y x one))
either_part y ys x (inr rest) = inr rest

pub first_or_rest : {X : Type 0} (y : X) (ys : List X) (x : X) → Contains (y ∷ ys) x → (y ≡ x) ⊎ Contains ys x
first_or_rest y ys x has = either_part y ys x (Contains-append_cases (y ∷ []) ys x has)

in_front : {X : Type 0} (y : X) (ys : List X) → Contains (y ∷ ys) y
in_front y ys = Contains-append_left (y ∷ []) ys y (Contains-push [] y)

behind : {X : Type 0} (y : X) (ys : List X) (x : X) → Contains ys x → Contains (y ∷ ys) x
behind y ys x has = Contains-append_right (y ∷ []) ys x has

-- a note of an event
record NoteOf (notes : List Note) (e : PlacedEvent) : Type 0 where
  note : Note
  among : Contains notes note
  is : event_of note ≡ e

note_first : (x : Note) (notes : List Note) (e : PlacedEvent) → (Contains (events_of notes) e → NoteOf notes e) →
    (event_of x ≡ e) ⊎ Contains (events_of notes) e → NoteOf (x ∷ notes) e
note_first x notes e later (inl is) = record { note = x; among = in_front x notes; is = is }
note_first x notes e later (inr rest) =
    let n : NoteOf notes e = later rest in record { note = n.note; among = behind x notes n.note n.among; is = n.is }

note_of : (notes : List Note) (e : PlacedEvent) → Contains (events_of notes) e → NoteOf notes e
note_of [] e has = absurd (none_in e has)
note_of (x ∷ notes) e has = note_first x notes e (note_of notes e) (first_or_rest (event_of x) (events_of notes) e has)

-- the kind of an event
abbrev kind_back : Event → EventKind
kind_back begins = kinds.Begins
kind_back (finds moment h) = kinds.Begins
kind_back goes_on = kinds.GoesOn
kind_back (answers true) = kinds.IsTrue
kind_back (answers false) = kinds.IsFalse
kind_back (fails fault) = kinds.Begins

kind_is_back : (k : EventKind) → kind_back (event_of_kind k) ≡ k
kind_is_back kinds.Begins = refl
kind_is_back kinds.GoesOn = refl
kind_is_back kinds.IsTrue = refl
kind_is_back kinds.IsFalse = refl

note_path : (a b : Note) → a.place ≡ b.place → a.kind ≡ b.kind → a ≡ b
note_path a b place kind i = record { place = place i; kind = kind i }

-- two notes of one event are one note
same_note : (a b : Note) → event_of a ≡ event_of b → a ≡ b
same_note a b is =
    let kind : a.kind ≡ b.kind = sym (kind_is_back a.kind) ∙ ap (λ (e : PlacedEvent). kind_back e.event) is ∙ kind_is_back b.kind in
    let place : a.place ≡ b.place = ap (λ (e : PlacedEvent). e.place) is in
    note_path a b place kind

-- a note that is among some is left, or its key is in the set
abbrev pub LeftOr : (rest whole : List Note) → (Note → Bool) → Type 0
LeftOr rest whole has = (x : Note) → Contains whole x → Contains rest x ⊎ (has x ≡ true)

pub key_step : (notes : List Note) (i : ℕ) (d : Note) (old new : Note → Bool) → i < length notes → ((x : Note) → old x ≡ true → new x ≡ true) → new (get_or notes i d) ≡ true →
    LeftOr (drop i notes) notes old → LeftOr (drop (i + 1) notes) notes new
key_step notes i d old new inside more here so_far x has = which (so_far x has)
  where
    of_front : (get_or notes i d ≡ x) ⊎ Contains (drop (i + 1) notes) x → Contains (drop (i + 1) notes) x ⊎ (new x ≡ true)
    of_front (inl same) = inr (subst (λ y. new y ≡ true) same here)
    of_front (inr rest) = inl rest

    which : Contains (drop i notes) x ⊎ (old x ≡ true) → Contains (drop (i + 1) notes) x ⊎ (new x ≡ true)
    which (inl left) = of_front (first_or_rest (get_or notes i d) (drop (i + 1) notes) x (subst (λ l. Contains l x) (at_drop_more (λ l. l) notes i d inside) left))
    which (inr in_set) = inr (more x in_set)

pub keys_done : (notes : List Note) (i : ℕ) (has : Note → Bool) → length notes ≤ i → LeftOr (drop i notes) notes has → (x : Note) → Contains notes x → has x ≡ true
keys_done notes i has all so_far x among = which (so_far x among)
  where
    which : Contains (drop i notes) x ⊎ (has x ≡ true) → has x ≡ true
    which (inl left) = absurd (none_in x (subst (λ l. Contains l x) (drop_all i notes all) left))
    which (inr in_set) = in_set

pub still_true : (a b : Bool) → b ≡ true → cond a true b ≡ true
still_true true b is = refl
still_true false b is = is

-- one more event that is not noted
pub absent_pushed : (notes never all : List Note) (x : Note) → all ≡ never ++ x ∷ [] → (Contains notes x → ⊥) → AreAbsent notes never → AreAbsent notes all
absent_pushed notes never all x is absent so_far e has noted = which (Contains-push_cases (events_of never) (event_of x) e (subst (λ l. Contains l e) (ap events_of is ∙ events_both never (x ∷ [])) has))
  where
    which : Contains (events_of never) e ⊎ (event_of x ≡ e) → ⊥
    which (inl before) = so_far e before noted
    which (inr same) = let n : NoteOf notes e = note_of notes e noted in absent (subst (Contains notes) (same_note n.note x (n.is ∙ sym same)) n.among)

-- no fault is among the events
no_fault_in : (never : List Note) (place : Place) (fault : Fault) → Contains (events_of never) (record { place = place; event = fails fault }) → ⊥
no_fault_in never place fault has = let n : NoteOf never (record { place = place; event = fails fault }) = note_of never (record { place = place; event = fails fault }) has in of_kind n.note.kind (ap (λ (e : PlacedEvent). e.event) n.is)
  where
    of_kind : (k : EventKind) → event_of_kind k ≡ fails fault → ⊥
    of_kind kinds.Begins is = cc
    of_kind kinds.GoesOn is = cc
    of_kind kinds.IsTrue is = cc
    of_kind kinds.IsFalse is = cc

-- that variables are found is not among the events
nothing_found_in : (never : List Note) (place : Place) (moment : Moment) (h : Bindings) → Contains (events_of never) (record { place = place; event = finds moment h }) → ⊥
nothing_found_in never place moment h has =
    let n : NoteOf never (record { place = place; event = finds moment h }) = note_of never (record { place = place; event = finds moment h }) has in
    of_kind n.note.kind (ap (λ (e : PlacedEvent). e.event) n.is)
  where
    of_kind : (k : EventKind) → event_of_kind k ≡ finds moment h → ⊥
    of_kind kinds.Begins is = cc
    of_kind kinds.GoesOn is = cc
    of_kind kinds.IsTrue is = cc
    of_kind kinds.IsFalse is = cc

-- what is not noted never happens, where all that happens is noted
pub never_happens : (g : Context) (program : CommandList) (presets : List Preset) (noted : Noted) (never : List Note) → HasEachEvent program presets (noted_in g noted) → AreAbsent noted.events.items never → NeverHappens program presets (events_of never)
never_happens g program presets noted never each absent mode d steps n s t task rest place event less skipped comes happens listed =
    of_event event (each mode d steps n s t task rest place event less skipped comes happens) listed
  where
    of_event : (event : Event) → noted_in g noted place event → Contains (events_of never) (record { place = place; event = event }) → ⊥
    of_event begins is listed = absent (record { place = place; event = begins }) listed is
    of_event (finds moment h) is listed = nothing_found_in never place moment h listed
    of_event goes_on is listed = absent (record { place = place; event = goes_on }) listed is
    of_event (answers b) is listed = absent (record { place = place; event = answers b }) listed is
    of_event (fails fault) is listed = no_fault_in never place fault listed
