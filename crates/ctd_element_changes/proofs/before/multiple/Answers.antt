use Rattle.std.proofs.Common.{rules}
use Rattle.std.specs.Int.RustNames.{FitsSigned}
use Rattle.ctd_element_changes.proofs.Common.{Bound, Some, ap, pos, to_z-of_z, w64, ◌*ℤ◌, ◌+ℤ◌, ◌≡◌}
use Rattle.ctd_element_changes.proofs.Earlier.{term_multiple}
use Rattle.ctd_element_changes.proofs.before.multiple.Goals as goal

pub returns-in_ok-multiple_of_term-in-Some : goal.returns-in_ok-multiple_of_term-in-Some
returns-in_ok-multiple_of_term-in-Some c =
    let add = c.in_ok-add.add in
    let fits : FitsSigned w64 add = search rules in
    let own : FitsSigned w64 c.args.b.add = search rules in
    let more : FitsSigned w64 c.args.add = search rules in
    let h : add ≡ (pos c.args.times *ℤ c.args.b.add) +ℤ c.args.add = rw (to_z-of_z w64 c.args.b.add own, to_z-of_z w64 c.args.add more) at c.in_ok-add.ensures in
    let new : Bound = record { term = Some c.in_ok-multiple_of_term-in-Some.field-0; add = add } in
    rw (to_z-of_z w64 add fits) (term_multiple c.args.times c.args.b new c.args.add c.in-Some.term c.in-Some.is (ap Some c.in_ok-multiple_of_term-in-Some.ensures) h)
