-- A partition: states side by side, of which one describes the variables of a run.
use Rattle.std.specs.Prelude.{◌⊎◌, ℕ, List, [], ◌∷◌}
use Rattle.ctd_store.specs.Store.{Bindings}
use Rattle.ctd_states.specs.declared.assign.Context.{Context}
use Rattle.ctd_partitions.specs.declared.state.State.{State}
use Rattle.ctd_partitions.specs.calls.States.{StateStands}

-- one of the states describes some variables, where so many steps are left
abbrev pub OneStands : Context → List State → ℕ → Bindings → Type 0
OneStands g [] n h = ⊥
OneStands g (x ∷ xs) n h = StateStands g x n h ⊎ OneStands g xs n h

-- all that a state describes is described by a partition
abbrev pub IsInPartition : Context → State → List State → Type 0
IsInPartition g state states = (n : ℕ) (h : Bindings) → StateStands g state n h → OneStands g states n h

-- all that a partition describes is described by another
abbrev pub PartitionIsWithin : Context → List State → List State → Type 0
PartitionIsWithin g states others = (n : ℕ) (h : Bindings) → OneStands g states n h → OneStands g others n h

-- a state is an upper bound of the states of a partition
abbrev pub IsUpperBound : Context → List State → State → Type 0
IsUpperBound g states state = (n : ℕ) (h : Bindings) → OneStands g states n h → StateStands g state n h
