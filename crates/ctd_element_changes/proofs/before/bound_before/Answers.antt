use Rattle.std.proofs.Common.{rules}
use Rattle.ctd_element_changes.proofs.Common.{FitsSigned, refl, to_z-of_z, w64}
use Rattle.ctd_element_changes.proofs.Earlier.{given_some, number_was, other_was}
use Rattle.ctd_element_changes.proofs.before.bound_before.Goals as goal

pub returns-in-None : goal.returns-in-None
returns-in-None c = number_was c.args.names.now c.args.name.now c.args.exact c.args.b c.in-None.is

pub returns-then-not-is_name : goal.returns-then-not-is_name
returns-then-not-is_name c = other_was c.args.names.now c.args.name.now c.args.exact c.args.b c.in-Some.term c.in-Some.is (c.if-not-is_name.ensures.other refl)

pub returns-in_ok-number_before-in-Some : goal.returns-in_ok-number_before-in-Some
returns-in_ok-number_before-in-Some c =
    let fits : FitsSigned w64 c.args.b.add = search rules in
    given_some c.args.names.now c.args.name.now c.args.exact c.args.b c.in_ok-number_before-in-Some.field-0 c.in-Some.term c.multiple.result c.in-Some.is (c.if-not-is_name.ensures.same refl) c.in_ok-number_before-in-Some.ensures
    (rw (to_z-of_z w64 c.args.b.add fits) at c.multiple.ensures)
