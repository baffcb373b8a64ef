use Rattle.std.proofs.Common.{rules}
use Rattle.ctd_elements.proofs.Common.{None, get_or, length, subst, ◌<◌, ◌≡◌}
use Rattle.ctd_elements.proofs.Following.{no_element}
use Rattle.ctd_elements.proofs.follow.has_no_element.Goals as goal

pub returns-in-Some : goal.returns-in-Some
returns-in-Some c =
    let i = c.args.array in
    let inside : i < length c.args.state.entries.now = search rules in
    let is : c.in-Some.value.now ≡ get_or c.args.state.entries.now i c.in-Some.value.now = search rules in
    λ yes. no_element c.args.state i c.in-Some.value.now inside (subst (λ v. (v.elements.text ≡ None) × (v.elements.number ≡ None)) is (c.is_none.ensures yes))
