use Rattle.std.proofs.Common.{rules}
use Rattle.ctd_elements.proofs.Common.{FitsSigned, get_or, length, subst, to_z-of_z, w128, ◌<◌, ◌≡◌}
use Rattle.ctd_elements.specs.calls.Orders.{IsLeast, IsGreatestElement}
use Rattle.ctd_elements.proofs.Following.{small_by}
use Rattle.ctd_elements.proofs.follow.is_small_anyway.Goals as goal

pub returns-in-Some-greatest_element : goal.returns-in-Some-greatest_element
returns-in-Some-greatest_element c =
    let i = c.args.array in
    let high = c.in-Some-greatest_element.high in
    let fits : FitsSigned w128 high = search rules in
    let inside : i < length c.args.state.entries.now = search rules in
    let is : c.in-Some.value.now ≡ get_or c.args.state.entries.now i c.in-Some.value.now = search rules in
    λ yes. small_by c.args.state i c.in-Some.value.now c.args.most high inside (subst (λ v. IsGreatestElement v high) is c.in-Some-greatest_element.ensures) (subst (λ m. IsLeast c.args.state c.args.most m) (to_z-of_z w128 high fits) (c.reaches.ensures yes))
