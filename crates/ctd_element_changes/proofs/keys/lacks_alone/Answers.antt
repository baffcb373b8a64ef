use Rattle.std.proofs.Common.{rules}
use Rattle.ctd_element_changes.proofs.Common.{None, get_or, length, subst, ◌<◌, ◌≡◌}
use Rattle.ctd_element_changes.proofs.KeyTests.{lacks}
use Rattle.ctd_element_changes.proofs.keys.lacks_alone.Goals as goal

pub returns-in-Some : goal.returns-in-Some
returns-in-Some c =
    let i = c.args.name in
    let inside : i < length c.args.state.entries.now = search rules in
    let is : c.in-Some.value.now ≡ get_or c.args.state.entries.now i c.in-Some.value.now = search rules in
    λ yes. lacks c.args.state i c.in-Some.value.now inside (subst (λ v. (v.alone.text ≡ None) × (v.alone.number ≡ None)) is (c.is_none.ensures yes))
