-- Comparisons that what is known of two numbers denies.
use Rattle.std.specs.Prelude.{ℕ, ℤ, ◌≤ℤ◌, ◌<ℤ◌}
use Rattle.ctd_program.specs.declared.tree.Compare.{Compare}
use Rattle.ctd_range.specs.calls.Ranges.{Relates}
use Rattle.ctd_store.specs.Store.{Bindings}
use Rattle.ctd_store.specs.declared.value.Value.TheVariants as values
use Rattle.ctd_elements.specs.declared.fact.AbstractState.{AbstractState}
use Rattle.ctd_elements.specs.declared.limits.Limits.{Limits}
use Rattle.ctd_elements.specs.calls.Limits.{IsLimited}
use Rattle.ctd_elements.specs.calls.States.{Describes}

-- what is so of any two numbers of which this is known, where a state describes the variables
abbrev pub OfBoth : AbstractState → Limits → Limits → (ℤ → ℤ → Type 0) → Type 0
OfBoth s a b IsSo = (n : ℕ) (h : Bindings) (x y : ℤ) → Describes s n h →
    IsLimited s.names.now h a (values.Int x) → IsLimited s.names.now h b (values.Int y) → IsSo x y

-- the first is at least the second
abbrev pub IsAtLeastBy : AbstractState → Limits → Limits → Type 0
IsAtLeastBy s a b = OfBoth s a b (λ x y. y ≤ℤ x)

-- the first is above the second
abbrev pub IsAboveBy : AbstractState → Limits → Limits → Type 0
IsAboveBy s a b = OfBoth s a b (λ x y. y <ℤ x)

-- they do not compare so
abbrev pub Denies : AbstractState → Compare → Limits → Limits → Type 0
Denies s by a b = OfBoth s a b (λ x y. Relates by x y → ⊥)
