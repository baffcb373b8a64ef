-- What is known of the results of operators.
use Rattle.std.specs.Prelude.{◌≡◌, ℕ, List, Option, None, ℤ, pos, ◌*ℤ◌, ◌<ℤ◌}
use Rattle.std.specs.Borrow.{Bor}
use Rattle.ctd_store.specs.declared.value.Value.TheVariants as values
use Rattle.ctd_store.specs.Store.{Bindings}
use Rattle.ctd_elements.specs.declared.fact.Bound.{Bound}
use Rattle.ctd_elements.specs.declared.fact.Index.{Index}
use Rattle.ctd_elements.specs.calls.Limits.{IsAtMostAll, IsExactly}
use Rattle.ctd_limits.specs.declared.known.ValueLimits.{ValueLimits}
use Rattle.ctd_limits.specs.calls.Known.{IsKnown}

-- an index that is the result of an operator
abbrev pub ExactBy : (ℤ → ℤ → ℤ) → Option Index → Option Index → Option Index → Type 0
ExactBy f a b c = (names : List (Bor (List ℕ))) (h : Bindings) (x y : ℤ) → IsExactly names h a (values.Int x) → IsExactly names h b (values.Int y) → IsExactly names h c (values.Int (f x y))

-- a value can only be one number
abbrev pub IsLiteral : ValueLimits → ℕ → Type 0
IsLiteral l k = (names : List (Bor (List ℕ))) (h : Bindings) (x : ℤ) → IsKnown names h l (values.Int x) → x ≡ pos k

-- an index has a multiple of the number that another has
abbrev pub ExactMultiple : ℕ → Option Index → Option Index → Type 0
ExactMultiple times a c = (names : List (Bor (List ℕ))) (h : Bindings) (x : ℤ) → IsExactly names h a (values.Int x) → IsExactly names h c (values.Int (pos times *ℤ x))

-- what is known of a multiple
abbrev pub KnowsMultiple : ℕ → ValueLimits → ValueLimits → Type 0
KnowsMultiple times a l = (names : List (Bor (List ℕ))) (h : Bindings) (x : ℤ) → IsKnown names h a (values.Int x) → IsKnown names h l (values.Int (pos times *ℤ x))

-- what is less than one value is at most bounds that are one less
abbrev pub LessOne : List Bound → List Bound → Type 0
LessOne bounds all = (names : List (Bor (List ℕ))) (h : Bindings) (x z : ℤ) → IsAtMostAll names h bounds (values.Int x) → z <ℤ x → IsAtMostAll names h all (values.Int z)

-- the bound that is zero
abbrev pub zero_bound : Bound
zero_bound = record { term = None; add = pos 0 }
