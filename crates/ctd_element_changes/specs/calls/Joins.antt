-- Which facts are so of states.
use Rattle.std.specs.Prelude.{ℕ, List}
use Rattle.std.specs.Borrow.{Bor}
use Rattle.ctd_store.specs.Store.{Bindings}
use Rattle.ctd_elements.specs.declared.fact.Fact.{Fact}
use Rattle.ctd_elements.specs.declared.fact.AbstractState.{AbstractState}
use Rattle.ctd_elements.specs.calls.Blocks.{AllStand}
use Rattle.ctd_elements.specs.calls.States.{Describes}

-- by a state, all facts are so
abbrev pub ImpliesAll : AbstractState → List Fact → Type 0
ImpliesAll s fs = (n : ℕ) (h : Bindings) → Describes s n h → AllStand s.names.now h fs

-- where all of some facts are so, all of others are
abbrev pub IsPartOf : List Fact → List Fact → Type 0
IsPartOf fs others = (names : List (Bor (List ℕ))) (h : Bindings) → AllStand names h others → AllStand names h fs
