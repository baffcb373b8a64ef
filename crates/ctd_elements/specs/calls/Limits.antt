-- What is known of a value.
use Rattle.std.specs.Prelude.{◌≡◌, ◌≢◌, ℕ, List, [], ◌∷◌, Option, Some, None, ℤ, ◌≤ℤ◌}
use Rattle.std.specs.Borrow.{Bor}
use Rattle.ctd_store.specs.declared.value.Value.{Value}
use Rattle.ctd_store.specs.declared.value.Value.TheVariants as values
use Rattle.ctd_store.specs.Store.{Bindings, value_at}
use Rattle.ctd_states.specs.calls.States.{at_key, name_at}
use Rattle.ctd_elements.specs.declared.fact.Bound.{Bound}
use Rattle.ctd_elements.specs.declared.fact.AbstractState.{AbstractState}
use Rattle.ctd_elements.specs.declared.fact.Index.{Index}
use Rattle.ctd_elements.specs.declared.limits.Limits.{Limits}
use Rattle.ctd_elements.specs.declared.fact.Cell.{Cell}
use Rattle.ctd_elements.specs.declared.fact.Source.{Source}
use Rattle.ctd_elements.specs.calls.Bounds.{IsAt, IsBound}
use Rattle.ctd_elements.specs.calls.Blocks.{AreIn, block_at, IsUpTo}
use Rattle.ctd_elements.specs.calls.States.{Describes}

-- a value is that of an index, if there is one
abbrev pub IsExactly : List (Bor (List ℕ)) → Bindings → Option Index → Value → Type 0
IsExactly names h None v = Unit {0}
IsExactly names h (Some index) v = IsAt names h index v

-- a value is a number of at least a bound, which has one, or of at most
abbrev pub IsAtLeast : List (Bor (List ℕ)) → Bindings → Bound → Value → Type 0
IsAtLeast names h b (values.Int x) = (z : ℤ) × IsBound names h b z × (z ≤ℤ x)
IsAtLeast names h b (values.Text bytes) = ⊥

-- a value is a number, and a bound has one that is at least this
abbrev pub IsAtMost : List (Bor (List ℕ)) → Bindings → Bound → Value → Type 0
IsAtMost names h b (values.Int x) = (z : ℤ) × IsBound names h b z × (x ≤ℤ z)
IsAtMost names h b (values.Text bytes) = ⊥

-- so it is of all bounds
abbrev pub IsAtLeastAll : List (Bor (List ℕ)) → Bindings → List Bound → Value → Type 0
IsAtLeastAll names h [] v = Unit {0}
IsAtLeastAll names h (b ∷ bs) v = IsAtLeast names h b v × IsAtLeastAll names h bs v

-- so it is of all these bounds
abbrev pub IsAtMostAll : List (Bor (List ℕ)) → Bindings → List Bound → Value → Type 0
IsAtMostAll names h [] v = Unit {0}
IsAtMostAll names h (b ∷ bs) v = IsAtMost names h b v × IsAtMostAll names h bs v

-- indices are those of a cell, if there is one
abbrev pub IsCell : List (Bor (List ℕ)) → Bindings → Option Cell → List Value → Type 0
IsCell names h None is = Unit {0}
IsCell names h (Some c) is = AreIn names h (block_at c) is

-- a value is that of an element, if there is one
abbrev pub IsElementOf : List (Bor (List ℕ)) → Bindings → Option Source → Value → Type 0
IsElementOf names h None v = Unit {0}
IsElementOf names h (Some s) v = (i : Value) × (is : List Value) × (value_at h (at_key (name_at names s.array) (i ∷ is)) ≡ Some v) × IsCell names h s.cell (i ∷ is)

-- what is known of a value
pub record IsLimited (names : List (Bor (List ℕ))) (h : Bindings) (limits : Limits) (v : Value) : Type 0 where
  pub exact : IsExactly names h limits.exact v
  pub lows : IsAtLeastAll names h limits.lows.now v
  pub highs : IsAtMostAll names h limits.highs.now v
  pub source : IsElementOf names h limits.source v

-- by a state, two numbers of which something is known differ
abbrev pub Differ : AbstractState → Limits → Limits → Type 0
Differ s a b = (n : ℕ) (h : Bindings) (x y : ℤ) → Describes s n h → IsLimited s.names.now h a (values.Int x) → IsLimited s.names.now h b (values.Int y) → x ≢ y

-- a value is a number of at least a bound; nothing is said where the bound has no number
abbrev pub IsFrom : List (Bor (List ℕ)) → Bindings → Bound → Value → Type 0
IsFrom names h b (values.Int x) = (z : ℤ) → IsBound names h b z → z ≤ℤ x
IsFrom names h b (values.Text bytes) = ⊥

-- by what is known of it, a value is at least a bound, or at most
abbrev pub IsLimitedFrom : AbstractState → Limits → Bound → Type 0
IsLimitedFrom s limits b = (n : ℕ) (h : Bindings) (v : Value) → Describes s n h → IsLimited s.names.now h limits v → IsFrom s.names.now h b v

-- by what is known of it, a value is a number of at most a bound
abbrev pub IsLimitedTo : AbstractState → Limits → Bound → Type 0
IsLimitedTo s limits b = (n : ℕ) (h : Bindings) (v : Value) → Describes s n h → IsLimited s.names.now h limits v → IsUpTo s.names.now h (Some b) v
