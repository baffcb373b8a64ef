use Rattle.std.proofs.Common.{rules}
use Rattle.ctd_elements.proofs.Common.{FitsSigned, get_or, length, subst, to_z-of_z, w128, w64, ◌<◌, ◌≡◌}
use Rattle.ctd_elements.specs.inner.Bounds.{IsLeastOf}
use Rattle.ctd_elements.proofs.Bounds.{least_some}
use Rattle.ctd_elements.proofs.order.least.Goals as goal

pub returns-in_ok-least_of-in-Some-get : goal.returns-in_ok-least_of-in-Some-get
returns-in_ok-least_of-in-Some-get c =
    let t = c.in-Some.term in
    let entries = c.args.state.entries.now in
    let g = c.in_ok-least_of-in-Some-get.field-0 in
    let inside : t.name < length entries = search rules in
    let is : c.in-Some-get.value.now ≡ get_or entries t.name c.in-Some-get.value.now = search rules in
    let fits_1 : FitsSigned w128 g = search rules in
    let fits_2 : FitsSigned w64 c.args.b.add = search rules in
    least_some c.args.state t c.in-Some-get.value.now c.args.b g c.multiple_of.result inside c.in-Some.is (subst (λ v. IsLeastOf v g) is c.in_ok-least_of-in-Some-get.ensures)
    (rw (to_z-of_z w128 g fits_1, to_z-of_z w64 c.args.b.add fits_2) at c.multiple_of.ensures)
