use Rattle.ctd_range.proofs.Common.{FitsSigned, of_z, rules, to_z, to_z-of_z, w128, ◌≡◌}
use Rattle.ctd_range.proofs.Ends.{just_above}
use Rattle.ctd_range.proofs.order.greater.Goals as goal

pub returns-in-Some : goal.returns-in-Some
returns-in-Some c =
    let same : to_z w128 (of_z w128 c.args.b.low) ≡ c.args.b.low = to_z-of_z w128 c.args.b.low (search rules) in
    let fits : FitsSigned w128 c.in-Some.low = search rules in
    let more = rw c.in-Some.is at c.checked_add.ensures in
    let is = rw same at more.1 in
    let refines = rw (to_z-of_z w128 c.in-Some.low fits) at c.with_low.ensures in
    record { refines = λ n x y before a b. refines n x (just_above c.args.b c.in-Some.low n x y is before b) a }
