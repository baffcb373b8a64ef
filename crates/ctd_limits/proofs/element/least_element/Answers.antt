use Rattle.std.proofs.Common.{None, rules, subst, sym, ◌≡◌}
use Rattle.std.specs.Int.RustNames.{FitsSigned}
use Rattle.std.specs.Int.{w128}
use Rattle.std.proofs.lemmas.Int.{to_z-of_z}
use Rattle.ctd_limits.specs.inner.Elements.{IsLeastElement}
use Rattle.ctd_limits.proofs.Valuing.{least_is}
use Rattle.ctd_limits.proofs.element.least_element.Goals as goal

pub returns-in-Some : goal.returns-in-Some
returns-in-Some c =
    let fits : FitsSigned w128 c.in-Some.range.low = search rules in
    let none : c.args.value.elements.text ≡ None = search rules in
    subst (λ g. IsLeastElement c.args.value g) (sym (to_z-of_z w128 c.in-Some.range.low fits)) (least_is c.args.value c.in-Some.range none c.in-Some.is)
