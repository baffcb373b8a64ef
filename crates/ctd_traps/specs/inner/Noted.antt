-- What a walk has noted.
use Rattle.std.specs.Prelude.{ℕ, List, Contains}
use Rattle.ctd_traps.specs.Prelude.{AbstractState, Bindings, Context, Fault, Faults, IsAmong, Moment, Noted, OneStands, Place, State}
use Rattle.ctd_traps.specs.calls.Traps.{IsOfValue, faults_of}
use Rattle.ctd_traps.specs.calls.Events.{Event, Events, begins, finds, goes_on, answers, fails, events_of}
use Rattle.ctd_traps.specs.declared.joined.Moment.TheVariants as moments
use Rattle.ctd_traps.specs.inner.Joined.{IsFound}

-- the events that are noted: of faults those of the traps, of variables those that joined states describe
abbrev pub noted_in : Context → Noted → Events
noted_in g noted place begins = Contains (events_of noted.events.items) (record { place = place; event = begins })
noted_in g noted place (finds moment h) = IsFound g noted.joined place moment h
noted_in g noted place goes_on = Contains (events_of noted.events.items) (record { place = place; event = goes_on })
noted_in g noted place (answers b) = Contains (events_of noted.events.items) (record { place = place; event = answers b })
noted_in g noted place (fails fault) = Contains (faults_of noted.traps.items) (record { place = place; fault = fault })

-- all that is noted in one is noted in another
abbrev pub IsPart : Context → Noted → Noted → Type 0
IsPart g some all = (place : Place) (event : Event) → noted_in g some place event → noted_in g all place event

-- an event is noted, where a run is in one of some states
abbrev pub NotedIn : Context → Noted → Place → Event → List AbstractState → Type 0
NotedIn g noted place event states = (n : ℕ) (h : Bindings) → OneStands g states n h → noted_in g noted place event

-- each of these faults is noted at a place
abbrev pub AreNoted : Noted → Place → Faults → Type 0
AreNoted noted place f = (g : Context) (why : Fault) → IsOfValue why → IsAmong f why → noted_in g noted place (fails why)

-- the variables at a place and a moment are noted, where a run is in one of some states
abbrev pub FoundIn : Context → Noted → Place → Moment → List AbstractState → Type 0
FoundIn g noted place moment states = (n : ℕ) (h : Bindings) → OneStands g states n h → noted_in g noted place (finds moment h)

-- that a command begins in some states is noted, and which variables it finds
pub record BegunIn (g : Context) (noted : Noted) (place : Place) (states : List AbstractState) : Type 0 where
  pub begun : NotedIn g noted place begins states
  pub found : FoundIn g noted place moments.Begins states

-- a command begins by events
pub record BeginsBy (events : Events) (place : Place) (s : State) : Type 0 where
  pub begun : events place begins
  pub found : events place (finds moments.Begins s.store)
