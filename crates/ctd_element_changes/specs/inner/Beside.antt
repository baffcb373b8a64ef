-- What is still so whatever became of a name.
use Rattle.std.specs.Prelude.{ℕ, List}
use Rattle.std.specs.Borrow.{Bor}
use Rattle.ctd_store.specs.Store.{Bindings}
use Rattle.ctd_elements.specs.declared.fact.Fact.{Fact}
use Rattle.ctd_elements.specs.calls.Blocks.{Stands}
use Rattle.ctd_element_changes.specs.calls.Changes.{AgreeBeside}

-- a fact stays so where variables of one name alone change
abbrev pub StaysBeside : List (Bor (List ℕ)) → List ℕ → Fact → Type 0
StaysBeside names name f = (h after : Bindings) → AgreeBeside name h after → Stands names h f → Stands names after f
