-- What is known by joined states.
use Rattle.std.specs.Prelude.{ℕ, List, Option, Some, None, Contains, IfSome}
use Rattle.std.specs.Borrow.{Bor}
use Rattle.ctd_traps.specs.Prelude.{AbstractState, Bindings, CommandList, Context, JoinedState, JoinedStates, Noted, Preset, StateStands}
use Rattle.ctd_traps.specs.calls.Events.{HasEachEvent, program_end}
use Rattle.ctd_traps.specs.calls.Known.{AreSo, EachAcceptedHas, EachFinds, IsKnownOf}
use Rattle.ctd_traps.specs.declared.joined.Moment.TheVariants as moments
use Rattle.ctd_traps.specs.declared.known.Known.{Known}
use Rattle.ctd_traps.specs.declared.known.KnownAt.{KnownAt}
use Rattle.ctd_traps.specs.declared.known.Knowledge.{Knowledge}
use Rattle.ctd_traps.specs.declared.program.Analysis.{Analysis}
use Rattle.ctd_traps.specs.inner.Joined.{IsFound, OneDescribes}
use Rattle.ctd_traps.specs.inner.Noted.{noted_in}

-- all that is known is so where a state describes the variables
abbrev pub TellsAll : AbstractState → List Known → Type 0
TellsAll st known = (g : Context) (n : ℕ) (h : Bindings) → StateStands g st n h → AreSo g.names.now h known

-- there is a state, which describes some variables
abbrev pub SomeStands : Context → Option AbstractState → Bindings → Type 0
SomeStands g None h = ⊥
SomeStands g (Some st) h = (n : ℕ) × StateStands g st n h

-- a state describes all that two others do, if there is a first
pub record IsJoinOf (g : Context) (all : Option AbstractState) (state both : AbstractState) : Type 0 where
  pub first : (h : Bindings) → SomeStands g all h → SomeStands g (Some both) h
  pub second : (n : ℕ) (h : Bindings) → StateStands g state n h → StateStands g both n h

-- all that is known at each place is so of the variables that are found there
abbrev pub AreKnown : Context → JoinedStates → List KnownAt → Type 0
AreKnown g joined found = (x : KnownAt) → Contains found x → (h : Bindings) → IsFound g joined x.place x.moment h → AreSo g.names.now h x.known.items

-- all that is known is so of the variables that are found
pub record IsKnowledge (g : Context) (joined : JoinedStates) (k : Knowledge) : Type 0 where
  pub at_end : (h : Bindings) → IsFound g joined program_end moments.Done h → IsKnownOf g.names.now h k.at_end
  pub at_places : (x : KnownAt) → Contains k.at_places.items x → (h : Bindings) → IsFound g joined x.place x.moment h → AreSo g.names.now h x.known.items

-- all that happens in a program is noted
pub record AllNoted (program : CommandList) (presets : List Preset) (noted : Noted) : Type 0 where
  pub context : Context
  pub each : HasEachEvent program presets (noted_in context noted)

-- what an analysis gives is so of the runs of a program
pub record IsAnalysis (names : List (Bor (List ℕ))) (program : CommandList) (presets : List Preset) (analysis : Analysis) : Type 0 where
  pub noted : AllNoted program presets analysis.noted
  pub ends : IfSome analysis.knowledge (λ k. EachAcceptedHas program presets names k.at_end)
  pub finds : IfSome analysis.knowledge (λ k. EachFinds program presets names k.at_places.items)
