use Rattle.std.proofs.Common.{get_or, length, rules, subst, ◌<◌, ◌≡◌}
use Rattle.std.specs.Int.RustNames.{FitsSigned}
use Rattle.std.specs.Int.{w128}
use Rattle.std.proofs.lemmas.Int.{to_z-of_z}
use Rattle.ctd_elements.specs.calls.Orders.{IsGreatestElement}
use Rattle.ctd_limits.proofs.Valuing.{above_some}
use Rattle.ctd_limits.proofs.element.number_above.Goals as goal

pub returns-in_ok-greatest_element-in-Some : goal.returns-in_ok-greatest_element-in-Some
returns-in_ok-greatest_element-in-Some c =
    let i = c.args.array in
    let entries = c.args.state.entries.now in
    let g = c.in_ok-greatest_element-in-Some.field-0 in
    let fits : FitsSigned w128 g = search rules in
    let inside : i < length entries = search rules in
    let is : c.in-Some.value.now ≡ get_or entries i c.in-Some.value.now = search rules in
    above_some c.args.state i c.in-Some.value.now g c.bound_of_number.result inside (subst (λ v. IsGreatestElement v g) is c.in_ok-greatest_element-in-Some.ensures) (rw (to_z-of_z w128 g fits) at c.bound_of_number.ensures)
