-- Events that are not noted.
use Rattle.std.specs.Prelude.{◌≡◌, ℕ, true, Bool, List, Contains, nat_eq}
use Rattle.ctd_traps.specs.Prelude.{EventKind, HashSet, Note, contains, eq_of_both, on}
use Rattle.ctd_traps.specs.calls.Events.{PlacedEvent, events_of}
use Rattle.ctd_traps.specs.declared.note.EventKind.TheVariants as kinds
use Rattle.ctd_traps.specs.declared.never.Key.{Key}

-- the number of a kind of events
abbrev pub number_of_kind : EventKind → ℕ
number_of_kind kinds.Begins = 0
number_of_kind kinds.GoesOn = 1
number_of_kind kinds.IsTrue = 2
number_of_kind kinds.IsFalse = 3

-- the key of a note
abbrev pub key_of : Note → Key
key_of note = record { line = note.place.line; column = note.place.column; kind = number_of_kind note.kind }

-- whether two keys are the same
abbrev pub same_key : Key → Key → Bool
same_key = eq_of_both (on (λ k. k.line) nat_eq) (eq_of_both (on (λ k. k.column) nat_eq) (on (λ k. k.kind) nat_eq))

-- whether a key is among some
abbrev pub has_key : {S : Type 0} → HashSet Key S → Key → Bool
has_key keys key = contains same_key keys key

-- the key of each note is among some
abbrev pub HasAll : {S : Type 0} → HashSet Key S → List Note → Type 0
HasAll keys notes = (x : Note) → Contains notes x → has_key keys (key_of x) ≡ true

-- no event of one list is in another
abbrev pub AreAbsent : List Note → List Note → Type 0
AreAbsent notes never = (x : PlacedEvent) → Contains (events_of never) x → Contains (events_of notes) x → ⊥
