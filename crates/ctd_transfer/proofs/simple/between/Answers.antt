use Rattle.ctd_transfer.proofs.Common.{FitsSigned, rules, to_z-of_z, w128}
use Rattle.ctd_transfer.proofs.Acting.{between_numbers}
use Rattle.ctd_transfer.proofs.simple.between.Goals as goal

pub returns-in-Some-Some : goal.returns-in-Some-Some
returns-in-Some-Some c =
    let fits_low : FitsSigned w128 c.in-Some-Some.least.low = search rules in
    let fits_high : FitsSigned w128 c.in-Some-Some.most.high = search rules in
    rw (to_z-of_z w128 c.in-Some-Some.least.low fits_low, to_z-of_z w128 c.in-Some-Some.most.high fits_high)
    (λ k x y z l r below above. between_numbers c.args.a.number c.args.b.number c.in-Some-Some.least c.in-Some-Some.most k x y z c.in-Some-Some.is-0 c.in-Some-Some.is-1 l r below above)
