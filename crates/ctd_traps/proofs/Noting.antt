-- Notes that are added to others.
use Rattle.ctd_traps.proofs.Common.{AbstractState, AreNoted, ArePart, BegunIn, BeginsBy, Contains, Contains-append_left, Contains-append_right, Contains-push, Context, Event, EventKind, Faults, FoundIn, IsPart, IsWithin, List, Moment, Note, Noted, OneStands, finds, ℕ}
use Rattle.ctd_traps.proofs.Common.{NotedIn, Place, PlacedEvent, [], answers, ap, begins, event_of, event_of_kind, events_of, fails, faults_of, noted_in, refl, subst, sym, ◌++◌, ◌∙◌, ◌∷◌, ◌≡◌}
use Rattle.ctd_command.specs.State.{State}
use Rattle.ctd_traps.specs.calls.Events.{goes_on}
use Rattle.ctd_traps.specs.declared.joined.Moment.TheVariants as moments
use Rattle.ctd_traps.specs.declared.note.EventKind.TheVariants as kinds

pub events_both : (a b : List Note) → events_of (a ++ b) ≡ events_of a ++ events_of b
events_both [] b = refl
events_both (x ∷ a) b = ap (λ l. event_of x ∷ l) (events_both a b)

-- all events of one list are in another
abbrev pub HaveEvents : List Note → List Note → Type 0
HaveEvents some all = (e : PlacedEvent) → Contains (events_of some) e → Contains (events_of all) e

pub events_left : (a b all : List Note) → all ≡ a ++ b → HaveEvents a all
events_left a b all is e has = subst (λ l. Contains l e) (sym (ap events_of is ∙ events_both a b)) (Contains-append_left (events_of a) (events_of b) e has)

pub events_right : (a b all : List Note) → all ≡ a ++ b → HaveEvents b all
events_right a b all is e has = subst (λ l. Contains l e) (sym (ap events_of is ∙ events_both a b)) (Contains-append_right (events_of a) (events_of b) e has)

pub event_pushed : (a all : List Note) (x : Note) → all ≡ a ++ x ∷ [] → Contains (events_of all) (event_of x)
event_pushed a all x is = subst (λ l. Contains l (event_of x)) (sym (ap events_of is ∙ events_both a (x ∷ []))) (Contains-push (events_of a) (event_of x))

-- what is noted grows with its lists and its joined states
pub part_of : (g : Context) (old new : Noted) → ArePart (faults_of old.traps.items) (faults_of new.traps.items) → HaveEvents old.events.items new.events.items → IsWithin g old.joined new.joined → IsPart g old new
part_of g old new traps events found place begins is = events (record { place = place; event = begins }) is
part_of g old new traps events found place (finds moment h) is = found place moment h is
part_of g old new traps events found place goes_on is = events (record { place = place; event = goes_on }) is
part_of g old new traps events found place (answers b) is = events (record { place = place; event = answers b }) is
part_of g old new traps events found place (fails fault) is = traps (record { place = place; fault = fault }) is

-- an event of a kind is noted, if it is among the events
pub kind_noted : (g : Context) (noted : Noted) (place : Place) (kind : EventKind) → Contains (events_of noted.events.items) (record { place = place; event = event_of_kind kind }) → noted_in g noted place (event_of_kind kind)
kind_noted g noted place kinds.Begins has = has
kind_noted g noted place kinds.GoesOn has = has
kind_noted g noted place kinds.IsTrue has = has
kind_noted g noted place kinds.IsFalse has = has

-- parts of parts
pub part_refl : (g : Context) (a : Noted) → IsPart g a a
part_refl g a place event is = is

pub part_trans : (g : Context) (a b c : Noted) → IsPart g a b → IsPart g b c → IsPart g a c
part_trans g a b c first second place event is = second place event (first place event is)

-- what is noted in fewer is noted in more
pub noted_more : (g : Context) (a b : Noted) (place : Place) (event : Event) (states : List AbstractState) → IsPart g a b → NotedIn g a place event states → NotedIn g b place event states
noted_more g a b place event states part noted n h one = part place event (noted n h one)

pub found_more : (g : Context) (a b : Noted) (place : Place) (moment : Moment) (states : List AbstractState) → IsPart g a b → FoundIn g a place moment states → FoundIn g b place moment states
found_more g a b place moment states part found n h one = part place (finds moment h) (found n h one)

pub begun_more : (g : Context) (a b : Noted) (place : Place) (states : List AbstractState) → IsPart g a b → BegunIn g a place states → BegunIn g b place states
begun_more g a b place states part begun = record {
  begun = noted_more g a b place begins states part begun.begun;
  found = found_more g a b place moments.Begins states part begun.found;
}

-- a command begins by what is noted
pub begins_by : (g : Context) (noted : Noted) (place : Place) (states : List AbstractState) (n : ℕ) (s : State) → BegunIn g noted place states → OneStands g states n s.store → BeginsBy (noted_in g noted) place s
begins_by g noted place states n s begun one = record { begun = begun.begun n s.store one; found = begun.found n s.store one }

pub faults_more : (g : Context) (a b : Noted) (place : Place) (f : Faults) → IsPart g a b → AreNoted a place f → AreNoted b place f
faults_more g a b place f part noted j why of_value is = part place (fails why) (noted g why of_value is)
