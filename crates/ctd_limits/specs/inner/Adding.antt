-- Sums and differences of bounds.
use Rattle.std.specs.Prelude.{ℕ, List, Option, ℤ, ◌+ℤ◌, ◌-ℤ◌}
use Rattle.std.specs.Borrow.{Bor}
use Rattle.ctd_store.specs.Store.{Bindings}
use Rattle.ctd_elements.specs.declared.fact.Term.{Term}
use Rattle.ctd_elements.specs.declared.fact.Bound.{Bound}
use Rattle.ctd_elements.specs.calls.Bounds.{IsBound, IsNumber}

-- a multiple of a name with a number has the sum of two such
abbrev pub AddsTerms : Option Term → Option Term → Option Term → Type 0
AddsTerms a b t = (names : List (Bor (List ℕ))) (h : Bindings) (c d x y : ℤ) → IsNumber names h a c x → IsNumber names h b d y → IsNumber names h t (c +ℤ d) (x +ℤ y)

-- a bound has the sum of the numbers of two bounds
abbrev pub Adds : Bound → Bound → Bound → Type 0
Adds a b c = (names : List (Bor (List ℕ))) (h : Bindings) (x y : ℤ) → IsBound names h a x → IsBound names h b y → IsBound names h c (x +ℤ y)

-- a multiple of a name with a number has the difference of two such
abbrev pub SubtractsTerms : Option Term → Option Term → Option Term → Type 0
SubtractsTerms a b t = (names : List (Bor (List ℕ))) (h : Bindings) (c d x y : ℤ) → IsNumber names h a c x → IsNumber names h b d y → IsNumber names h t (c -ℤ d) (x -ℤ y)

-- a bound has the difference of the numbers of two bounds
abbrev pub Subtracts : Bound → Bound → Bound → Type 0
Subtracts a b c = (names : List (Bor (List ℕ))) (h : Bindings) (x y : ℤ) → IsBound names h a x → IsBound names h b y → IsBound names h c (x -ℤ y)
