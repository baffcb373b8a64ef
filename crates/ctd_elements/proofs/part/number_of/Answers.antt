use Rattle.std.proofs.Common.{rules}
use Rattle.ctd_elements.proofs.Common.{get_or, length, None, refl, subst, ◌<◌, ◌≡◌}
use Rattle.ctd_elements.proofs.Parts.{name_number}
use Rattle.ctd_elements.proofs.part.number_of.Goals as goal

pub returns-then-has_no_text : goal.returns-then-has_no_text
returns-then-has_no_text c =
    let i = c.in-Value.name in
    let inside : i < length c.args.state.entries.now = search rules in
    let is : c.in-Some.value.now ≡ get_or c.args.state.entries.now i c.in-Some.value.now = search rules in
    name_number c.args.state c.args.index i c.in-Some.value.now c.bound_of.result c.in-Value.is inside (subst (λ v. v.alone.text ≡ None) is (c.if-has_no_text.ensures refl)) c.bound_of.ensures
