-- What a test gives in the states of a partition.
use Rattle.std.specs.Prelude.{ℕ, true, false, Bool, List, Result, Ok, Err}
use Rattle.ctd_transfer.specs.Prelude.{AbstractState, Bindings, Context, Fault, Faults, IsAmong, OneStands, TestData, TestTree, truth}

-- the states where a test is true, and those where it is false, and the faults that are listed
abbrev pub DividesTo : Context → (if_true if_false : List AbstractState) → Faults → ℕ → Bindings → Result Bool Fault → Type 0
DividesTo g if_true if_false f n h (Ok true) = OneStands g if_true n h
DividesTo g if_true if_false f n h (Ok false) = OneStands g if_false n h
DividesTo g if_true if_false f n h (Err fault) = IsAmong f fault

-- what a test gives in the states in which it is asked
abbrev pub Divides : Context → List AbstractState → TestTree → (if_true if_false : List AbstractState) → Faults → Type 0
Divides g states t if_true if_false f = (n : ℕ) (h : Bindings) (d : TestData) (p : ℕ) → OneStands g states n h → DividesTo g if_true if_false f n h (truth t h d p)
