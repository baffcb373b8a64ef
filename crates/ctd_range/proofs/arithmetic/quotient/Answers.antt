use Rattle.ctd_range.proofs.Common.{IsIn, int_div, refl, rules, subst}
use Rattle.ctd_range.proofs.Ends.{division_covers}
use Rattle.ctd_range.proofs.Quotients.{quotient_covers}
use Rattle.ctd_range.proofs.arithmetic.quotient.Goals as goal

pub returns-in-Some : goal.returns-in-Some
returns-in-Some c = record {
  covers = λ n x y left right. quotient_covers (record { range = c.in-Some.range; overflows = _; divides_by_zero = c.may_be_zero.result; has_bad_exponent = _ }) n x y (search rules) (search rules)
      (c.in-Some.ensures n x y left right) (λ is. c.may_be_zero.ensures n (subst (λ w. IsIn c.args.b n w) is right));
}

pub returns-in-None : goal.returns-in-None
returns-in-None c = record {
  covers = λ n x y left right. division_covers int_div (record { range = c.every_value.result; overflows = _; divides_by_zero = c.may_be_zero-in-None.result; has_bad_exponent = _ }) n x y
      (λ z value. c.every_value.ensures.every n z value) refl (λ is. c.may_be_zero-in-None.ensures n (subst (λ w. IsIn c.args.b n w) is right));
}
