-- What a partition says of the state of a run, and which traps are listed.
use Rattle.std.specs.Prelude.{◌≡◌, ◌<◌, ◌^◌, ℕ, List, Contains}
use Rattle.ctd_traps.specs.Prelude.{AbstractState, Bindings, Context, EachStands, Fault, Faults, IsAmong, OneStands, Place, State, Variables, pins_in}
use Rattle.ctd_traps.specs.calls.Traps.{PlacedFault, IsOfValue}

-- one of some abstract states describes the state of a run with these pins, where so many steps are left
pub record Holds (g : Context) (pins : Variables) (states : List AbstractState) (n : ℕ) (s : State) : Type 0 where
  pub steps : n < 2 ^ 64
  pub pinned : s.store.pins ≡ pins
  pub one : OneStands g states n s.store

-- all that the state of the pins describes is described by a partition
abbrev pub PinsAreIn : Context → List AbstractState → Type 0
PinsAreIn g states = (n : ℕ) (h : Bindings) → EachStands (pins_in g) n h → OneStands g states n h

-- all traps of one list are in another
abbrev pub ArePart : List PlacedFault → List PlacedFault → Type 0
ArePart some all = (t : PlacedFault) → Contains some t → Contains all t

-- each of these faults is listed at a place
abbrev pub AreListed : List PlacedFault → Place → Faults → Type 0
AreListed traps place f = (why : Fault) → IsOfValue why → IsAmong f why → Contains traps (record { place = place; fault = why })
