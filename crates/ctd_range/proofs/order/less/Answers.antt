use Rattle.ctd_range.proofs.Common.{FitsSigned, of_z, rules, to_z, to_z-of_z, w128, ◌≡◌}
use Rattle.ctd_range.proofs.Ends.{just_below}
use Rattle.ctd_range.proofs.order.less.Goals as goal

pub returns-in-Some : goal.returns-in-Some
returns-in-Some c =
    let same : to_z w128 (of_z w128 c.args.b.high) ≡ c.args.b.high = to_z-of_z w128 c.args.b.high (search rules) in
    let fits : FitsSigned w128 c.in-Some.high = search rules in
    let less = rw c.in-Some.is at c.checked_sub.ensures in
    let is = rw same at less.1 in
    let refines = rw (to_z-of_z w128 c.in-Some.high fits) at c.with_high.ensures in
    record { refines = λ n x y before a b. refines n x (just_below c.args.b c.in-Some.high n x y is before b) a }
