-- Which elements surely have values.
use Rattle.std.specs.Prelude.{ℕ, List, [], ◌∷◌, Option, Some, None}
use Rattle.std.specs.Borrow.{Bor}
use Rattle.ctd_store.specs.declared.value.Value.{Value}
use Rattle.ctd_store.specs.Store.{Bindings}
use Rattle.ctd_elements.specs.declared.fact.AbstractState.{AbstractState}
use Rattle.ctd_elements.specs.declared.limits.Limits.{Limits}
use Rattle.ctd_elements.specs.calls.Blocks.{Has, AreIn}
use Rattle.ctd_elements.specs.calls.States.{Describes}
use Rattle.ctd_elements.specs.calls.Limits.{IsLimited}
use Rattle.ctd_elements.specs.declared.fact.Block.{Block}

-- something is known of one index or two
abbrev pub AreLimited : List (Bor (List ℕ)) → Bindings → Limits → Option Limits → List Value → Type 0
AreLimited names h first second [] = ⊥
AreLimited names h first None (i ∷ []) = IsLimited names h first i
AreLimited names h first (Some second) (i ∷ []) = ⊥
AreLimited names h first None (i ∷ j ∷ is) = ⊥
AreLimited names h first (Some second) (i ∷ j ∷ []) = IsLimited names h first i × IsLimited names h second j
AreLimited names h first (Some second) (i ∷ j ∷ k ∷ is) = ⊥

-- by a state, an array has a value at such indices
abbrev pub HasElement : AbstractState → ℕ → Limits → Option Limits → Type 0
HasElement s array first second = (n : ℕ) (h : Bindings) (is : List Value) → Describes s n h → AreLimited s.names.now h first second is → Has s.names.now h array is

-- the same of indices, and a block
abbrev pub AreLimitedIn : AbstractState → Limits → Option Limits → Block → Type 0
AreLimitedIn s first second block = (n : ℕ) (h : Bindings) (is : List Value) → Describes s n h → AreLimited s.names.now h first second is → AreIn s.names.now h block is

-- an array has a value at an index of which something is known
abbrev pub HasKey : AbstractState → ℕ → Limits → Type 0
HasKey s array limits = (n : ℕ) (h : Bindings) (v : Value) → Describes s n h → IsLimited s.names.now h limits v → Has s.names.now h array (v ∷ [])
