use Rattle.ctd_range.proofs.Common.{FitsSigned, arith, ints, pos, refl, rules, to_z-of_z, w128}
use Rattle.ctd_range.proofs.Ends.{power_covers}
use Rattle.ctd_range.proofs.Divisions.{above_low, below_high, power_up_to}
use Rattle.ctd_range.proofs.Squares.{power_by_two}
use Rattle.ctd_range.proofs.arithmetic.power.Goals as goal

pub returns-then-b-eq2-2 : goal.returns-then-b-eq2-2
returns-then-b-eq2-2 c =
    record { covers = λ n x y left right. power_by_two c.args.b c.square.result n x y (search rules) (search rules) right (c.square.ensures n x left) }

pub returns-in-Some : goal.returns-in-Some
returns-in-Some c =
    let fits_1 : FitsSigned w128 c.args.a.low = search rules in
    let fits_2 : FitsSigned w128 c.args.a.high = search rules in
    let fits_3 : FitsSigned w128 c.args.b.low = search rules in
    let fits_4 : FitsSigned w128 c.args.b.high = search rules in
    let fits_5 : FitsSigned w128 c.least_power.result = search rules in
    let fits_6 : FitsSigned w128 c.in-Some.most = search rules in
    let up = rw (c.in-Some.is, to_z-of_z w128 c.args.a.high fits_2, to_z-of_z w128 c.args.b.high fits_4) at c.greatest_power.ensures in
    let down = rw (to_z-of_z w128 c.args.a.low fits_1, to_z-of_z w128 c.args.b.low fits_3) at c.least_power.ensures in
    let bad = c.may_be_no_exponent-has_bad_exponent.result in
    rw (to_z-of_z w128 c.least_power.result fits_5, to_z-of_z w128 c.in-Some.most fits_6) (record {
      covers = λ n x y left right.
          power_up_to c.least_power.result c.in-Some.most c.args.a.low c.args.b.low c.args.a.high c.args.b.high bad n x y fits_5 fits_6
          (above_low c.args.a c.args.a.low n x (omega (arith, ints)) left) (above_low c.args.b c.args.b.low n y (omega (arith, ints)) right) down
          (above_low c.args.a (pos 0) n x (search rules) left) (below_high c.args.a n x left)
          (λ good. c.may_be_no_exponent-has_bad_exponent.ensures good n y right) (below_high c.args.b n y right) up;
    })

pub returns : goal.returns
returns c = record {
  covers = λ n x y left inside. power_covers (record { range = c.every_value.result; overflows = _; divides_by_zero = _; has_bad_exponent = c.may_be_no_exponent-has_bad_exponent.result }) n x y
      (λ z value. c.every_value.ensures.every n z value) refl (λ good. c.may_be_no_exponent-has_bad_exponent.ensures good n y inside);
}
