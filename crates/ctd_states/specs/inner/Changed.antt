-- When an abstract value is within another, and what a step changes.
use Rattle.std.specs.Prelude.{◌<◌, ◌^◌, ℕ, suc, List, Option}
use Rattle.ctd_store.specs.declared.value.Value.{Value}
use Rattle.ctd_store.specs.Store.{Bindings}
use Rattle.ctd_states.specs.declared.value.PossibleValues.{PossibleValues}
use Rattle.ctd_states.specs.declared.value.AbstractValue.{AbstractValue}
use Rattle.ctd_states.specs.calls.States.{MayBe, MayHave, NameStands}

-- each of some possible values is among others
abbrev pub AreWithin : PossibleValues → PossibleValues → Type 0
AreWithin a b = (n : ℕ) (v : Value) → n < 2 ^ 64 → MayBe a n v → MayBe b n v

-- an abstract value is within another
pub record NameIsWithin (a b : AbstractValue) : Type 0 where
  pub alone : (n : ℕ) (v : Option Value) → n < 2 ^ 64 → MayHave a n v → MayHave b n v
  pub elements : AreWithin a.elements b.elements

-- possible values once a step is paid
abbrev pub ValuesPay : PossibleValues → PossibleValues → Type 0
ValuesPay a b = (n : ℕ) (v : Value) → MayBe a (suc n) v → MayBe b n v

-- an abstract value once a step is paid
abbrev pub NamePays : AbstractValue → AbstractValue → Type 0
NamePays a b = (name : List ℕ) (n : ℕ) (h : Bindings) → NameStands name a (suc n) h → NameStands name b n h
