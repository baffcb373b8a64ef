-- What a test gives in a state.
use Rattle.std.specs.Prelude.{◌≡◌, ℕ, true, false, Bool, List, map, Result, Ok, Err}
use Rattle.std.specs.List.{list_all}
use Rattle.ctd_partitions.specs.calls.States.{IsCopyOf}
use Rattle.ctd_transfer.specs.Prelude.{AbstractState, Bindings, Context, Fault, Faults, IsAmong, IsLimited, Limits, MayBe, PartitionIsWithin, PossibleValues, SplitState, SplitStates, StateStands, TestData, TestTree, Value, truth}
use Rattle.ctd_store.specs.Store.{values_of}
use Rattle.ctd_transfer.specs.calls.Results.{FailsBy}
use Rattle.ctd_value.specs.Truth.{all_same_shape, have_same_shape, uniqueness, value_in_array}

-- the states where a test is true, and where it is false, and the faults that are listed
abbrev pub Decides : Context → (if_true if_false : AbstractState) → Faults → ℕ → Bindings → Result Bool Fault → Type 0
Decides g if_true if_false f n h (Ok true) = StateStands g if_true n h
Decides g if_true if_false f n h (Ok false) = StateStands g if_false n h
Decides g if_true if_false f n h (Err fault) = IsAmong f fault

-- what a test may give in a state
abbrev pub SplitsBy : Context → AbstractState → TestTree → (if_true if_false : AbstractState) → Faults → Type 0
SplitsBy g st t if_true if_false f = (n : ℕ) (h : Bindings) (d : TestData) (p : ℕ) → StateStands g st n h → Decides g if_true if_false f n h (truth t h d p)

-- the state stays the same whatever a test gives, with these faults
pub record AreSame (st : AbstractState) (f : Faults) (s : SplitState) : Type 0 where
  pub if_true : IsCopyOf st s.if_true
  pub if_false : IsCopyOf st s.if_false
  pub faults : s.faults ≡ f

-- the same of a test that looks at one of some values
pub record AreSameWith (possible : PossibleValues) (st : AbstractState) (f : Faults) (s : SplitState) : Type 0 where
  pub if_true : (k : ℕ) (v : Value) → MayBe possible k v → IsCopyOf st s.if_true
  pub if_false : (k : ℕ) (v : Value) → MayBe possible k v → IsCopyOf st s.if_false
  pub faults : s.faults ≡ f

-- the state stays the same where a test has the one answer that it can have, and no fault
pub record AreOne (st : AbstractState) (answer : Bool) (s : SplitState) : Type 0 where
  pub if_true : answer ≡ true → IsCopyOf st s.if_true
  pub if_false : answer ≡ false → IsCopyOf st s.if_false

-- two arrays have values at the same indices
abbrev pub AreAlike : Context → AbstractState → (name other : List ℕ) → Type 0
AreAlike g st name other = (n : ℕ) (h : Bindings) → StateStands g st n h → have_same_shape (values_of h name) (values_of h other) ≡ true

-- an array and others have values at the same indices
abbrev pub AreAllAlike : Context → AbstractState → List ℕ → (others : List (List ℕ)) → Type 0
AreAllAlike g st name others = (n : ℕ) (h : Bindings) → StateStands g st n h → list_all (have_same_shape (values_of h name)) (map (values_of h) others) ≡ true

-- all of some arrays have values at the same indices
abbrev pub HaveOneShape : Context → AbstractState → List (List ℕ) → Type 0
HaveOneShape g st names = (n : ℕ) (h : Bindings) → StateStands g st n h → all_same_shape (map (values_of h) names) ≡ true

-- UNIQUE of some arrays fails by these faults, if it does
abbrev pub UniqueFailsBy : Context → AbstractState → List (List ℕ) → Faults → Type 0
UniqueFailsBy g st names f = (n : ℕ) (h : Bindings) → StateStands g st n h → FailsBy f (uniqueness (map (values_of h) names))

-- the state where a value, of which something is known, is one of an array
abbrev pub HitsArray : Context → AbstractState → Limits → List ℕ → AbstractState → Type 0
HitsArray g st limits name after = (n : ℕ) (h : Bindings) (v : Value) → StateStands g st n h → IsLimited g.names.now h limits v → value_in_array (Ok v) (values_of h name) ≡ Ok true → StateStands g after n h

-- the opposite of a test
abbrev pub opposite : SplitStates → SplitStates
opposite s = record { if_true = s.if_false; if_false = s.if_true; faults = s.faults }

-- one test or another, of which the other is asked where the first is false
pub record IsEither (g : Context) (first second all : SplitStates) : Type 0 where
  pub left : PartitionIsWithin g first.if_true.items all.if_true.items
  pub right : PartitionIsWithin g second.if_true.items all.if_true.items
  pub neither : PartitionIsWithin g second.if_false.items all.if_false.items
  pub by_first : (f : Fault) → IsAmong first.faults f → IsAmong all.faults f
  pub by_second : (f : Fault) → IsAmong second.faults f → IsAmong all.faults f
