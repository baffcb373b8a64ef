-- What a comparison says of bounds.
use Rattle.std.specs.Prelude.{◌≡◌, ℕ, Some, ℤ, ◌≤ℤ◌, ◌<ℤ◌}
use Rattle.ctd_program.specs.declared.tree.Compare.{Compare}
use Rattle.ctd_store.specs.declared.value.Value.TheVariants as values
use Rattle.ctd_store.specs.Store.{Bindings}
use Rattle.ctd_range.specs.calls.Ranges.{Relates}
use Rattle.ctd_elements.specs.declared.fact.Bound.{Bound}
use Rattle.ctd_elements.specs.declared.fact.Fact.{Fact}
use Rattle.ctd_elements.specs.declared.fact.Index.TheVariants as indices
use Rattle.ctd_elements.specs.declared.fact.AbstractState.{AbstractState}
use Rattle.ctd_elements.specs.declared.limits.Limits.{Limits}
use Rattle.ctd_elements.specs.calls.Bounds.{IsOrdered}
use Rattle.ctd_elements.specs.calls.Blocks.{Stands}
use Rattle.ctd_elements.specs.calls.States.{Describes}
use Rattle.ctd_elements.specs.calls.Limits.{IsLimited}

-- one bound is at most another where one value is at most another, or less
abbrev pub IsNoMore : AbstractState → Bound → Bound → Limits → Limits → Type 0
IsNoMore s p q a b = (n : ℕ) (h : Bindings) (x y : ℤ) → Describes s n h → IsLimited s.names.now h a (values.Int x) → IsLimited s.names.now h b (values.Int y) → x ≤ℤ y → IsOrdered s.names.now h p q

-- one bound is at most another where one value is less than another
abbrev pub IsLess : AbstractState → Bound → Bound → Limits → Limits → Type 0
IsLess s p q a b = (n : ℕ) (h : Bindings) (x y : ℤ) → Describes s n h → IsLimited s.names.now h a (values.Int x) → IsLimited s.names.now h b (values.Int y) → x <ℤ y → IsOrdered s.names.now h p q

-- two values are the numbers of two bounds
abbrev pub AreNumbers : Bound → Bound → Limits → Limits → Type 0
AreNumbers p q a b = (a.exact ≡ Some (indices.Number p)) × (b.exact ≡ Some (indices.Number q))

-- a fact is so where two numbers compare so
abbrev pub IsCompared : AbstractState → Compare → Limits → Limits → Fact → Type 0
IsCompared s by a b f = (n : ℕ) (h : Bindings) (x y : ℤ) → Describes s n h → IsLimited s.names.now h a (values.Int x) → IsLimited s.names.now h b (values.Int y) → Relates by x y → Stands s.names.now h f
