-- Bounds: numbers that depend on variables.
use Rattle.std.specs.Prelude.{◌≡◌, ◌≢◌, ℕ, List, [], Option, Some, None, ℤ, pos, ◌+ℤ◌, ◌*ℤ◌, ◌≤ℤ◌}
use Rattle.std.specs.Borrow.{Bor}
use Rattle.ctd_store.specs.declared.value.Value.{Value}
use Rattle.ctd_store.specs.declared.value.Value.TheVariants as values
use Rattle.ctd_store.specs.Store.{Bindings, value_at}
use Rattle.ctd_states.specs.calls.States.{at_key, name_at}
use Rattle.ctd_elements.specs.declared.fact.Term.{Term}
use Rattle.ctd_elements.specs.declared.fact.Bound.{Bound}
use Rattle.ctd_elements.specs.declared.fact.Index.{Index}
use Rattle.ctd_elements.specs.declared.fact.Index.TheVariants as indices

-- the value of a name without indices, by the index of the name
abbrev pub alone : List (Bor (List ℕ)) → Bindings → ℕ → Option Value
alone names h i = value_at h (at_key (name_at names i) [])

-- a number is a multiple of that of a name, with one added; or it is this one
abbrev pub IsNumber : List (Bor (List ℕ)) → Bindings → Option Term → ℤ → ℤ → Type 0
IsNumber names h None c z = z ≡ c
IsNumber names h (Some t) c z = (x : ℤ) × (alone names h t.name ≡ Some (values.Int x)) × (z ≡ (pos t.times *ℤ x) +ℤ c)

-- a number is that of a bound
abbrev pub IsBound : List (Bor (List ℕ)) → Bindings → Bound → ℤ → Type 0
IsBound names h b z = IsNumber names h b.term b.add z

-- one number is at most another, wherever both bounds have numbers
abbrev pub IsOrdered : List (Bor (List ℕ)) → Bindings → Bound → Bound → Type 0
IsOrdered names h a b = (x y : ℤ) → IsBound names h a x → IsBound names h b y → x ≤ℤ y

-- two numbers differ, wherever both bounds have numbers
abbrev pub AreUnequal : List (Bor (List ℕ)) → Bindings → Bound → Bound → Type 0
AreUnequal names h a b = (x y : ℤ) → IsBound names h a x → IsBound names h b y → x ≢ y

-- a value is that of an index
abbrev pub IsAt : List (Bor (List ℕ)) → Bindings → Index → Value → Type 0
IsAt names h (indices.Number b) (values.Int k) = IsBound names h b k
IsAt names h (indices.Number b) (values.Text bytes) = ⊥
IsAt names h (indices.Value i) v = alone names h i ≡ Some v
IsAt names h (indices.Text i) v = v ≡ values.Text (name_at names i)
