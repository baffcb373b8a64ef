use Rattle.ctd_range.proofs.Common.{FitsSigned, rules, to_z-of_z, w128}
use Rattle.ctd_range.proofs.Divisions.{not_negative, positive_from}
use Rattle.ctd_range.proofs.arithmetic.remainders.Goals as goal

pub returns-then-b-lt0 : goal.returns-then-b-lt0
returns-then-b-lt0 c = λ n x y z i j between less. c.towards_zero.ensures n x z i between

pub returns : goal.returns
returns c =
    let fits_b : FitsSigned w128 c.args.b.low = search rules in
    let positive = rw (to_z-of_z w128 c.args.b.low fits_b) at c.if-b-lt0.false in
    λ n x y z i j between less. c.less.ensures.refines n z y (less (positive_from c.args.b n y (not_negative c.args.b.low positive) j)) (c.towards_zero-2.ensures n x z i between) j
