-- The states in which runs may be at the places of a program.
use Rattle.std.specs.Prelude.{◌≡◌, ◌⊎◌, ℕ, Bool, false, true, List, [], ◌∷◌}
use Rattle.ctd_traps.specs.Prelude.{Bindings, Context, JoinedState, JoinedStates, Moment, Place, StateStands}
use Rattle.ctd_traps.specs.declared.joined.Asked.{Asked}
use Rattle.ctd_traps.specs.declared.joined.Asked.TheVariants as asks
use Rattle.ctd_traps.specs.declared.joined.Moment.TheVariants as moments

-- a joined state is the one of a place and a moment
pub record IsOf (joined : JoinedState) (place : Place) (moment : Moment) : Type 0 where
  pub at : joined.place ≡ place
  pub when : joined.moment ≡ moment

-- a joined state describes some variables at a place and a moment
pub record Describes (g : Context) (joined : JoinedState) (place : Place) (moment : Moment) (h : Bindings) : Type 0 where
  pub here : IsOf joined place moment
  pub left : ℕ
  pub stands : StateStands g joined.state left h

-- one of some joined states does
abbrev pub OneDescribes : Context → List JoinedState → Place → Moment → Bindings → Type 0
OneDescribes g [] place moment h = ⊥
OneDescribes g (x ∷ xs) place moment h = Describes g x place moment h ⊎ OneDescribes g xs place moment h

-- all that some joined states describe is described by others
abbrev pub AreWithin : Context → List JoinedState → List JoinedState → Type 0
AreWithin g some all = (place : Place) (moment : Moment) (h : Bindings) → OneDescribes g some place moment h → OneDescribes g all place moment h

-- all that a joined state describes is described by some
abbrev pub IsAdded : Context → JoinedState → List JoinedState → Type 0
IsAdded g joined all = (place : Place) (moment : Moment) (h : Bindings) → Describes g joined place moment h → OneDescribes g all place moment h

-- whether it is asked what is known at a moment
abbrev pub is_asked : Asked → Moment → Bool
is_asked asks.Nothing moment = false
is_asked asks.Ends moments.Begins = false
is_asked asks.Ends moments.TurnEnded = true
is_asked asks.Ends moments.Done = true
is_asked asks.All moment = true

-- some variables at a place and a moment are described, if it is asked what is known then
abbrev pub IsFound : Context → JoinedStates → Place → Moment → Bindings → Type 0
IsFound g joined place moment h = is_asked joined.asked moment ≡ true → OneDescribes g joined.states.items place moment h

-- all that is described by some is described by others, at the moments of which both are asked
abbrev pub IsWithin : Context → JoinedStates → JoinedStates → Type 0
IsWithin g some all = (place : Place) (moment : Moment) (h : Bindings) → IsFound g some place moment h → IsFound g all place moment h
