use Rattle.std.proofs.Common.{rules, sym, subst}
use Rattle.ctd_elements.proofs.Common.{FitsSigned, None, to_z-of_z, w128, ◌≡◌}
use Rattle.ctd_elements.specs.calls.Orders.{IsGreatestElement}
use Rattle.ctd_elements.proofs.Following.{greatest_is}
use Rattle.ctd_elements.proofs.follow.greatest_element.Goals as goal

pub returns-in-Some : goal.returns-in-Some
returns-in-Some c =
    let fits : FitsSigned w128 c.in-Some.range.high = search rules in
    let none : c.args.value.elements.text ≡ None = search rules in
    subst (λ g. IsGreatestElement c.args.value g) (sym (to_z-of_z w128 c.in-Some.range.high fits)) (greatest_is c.args.value c.in-Some.range none c.in-Some.is)
