use Rattle.ctd_range.proofs.Common.{IsIn, rules, subst}
use Rattle.ctd_range.proofs.Divisions.{remainder_covers}
use Rattle.ctd_range.proofs.arithmetic.remainder.Goals as goal

pub returns : goal.returns
returns c = record {
  covers = λ n x y left inside. remainder_covers (record { range = c.remainders.result; overflows = _; divides_by_zero = c.may_be_zero.result; has_bad_exponent = _ }) n x y
      (search rules) (search rules) (λ z. c.remainders.ensures n x y z left inside) (λ is. c.may_be_zero.ensures n (subst (λ w. IsIn c.args.b n w) is inside));
}
