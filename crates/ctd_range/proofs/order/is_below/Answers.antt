use Rattle.ctd_range.proofs.Common.{FitsSigned, arith, ints, nat_tests, rules, subst, to_z-of_z, true, w128, ℤ, ◌-◌, ◌^◌, ◌≡◌, ◌≤ℤ◌}
use Rattle.ctd_range.proofs.Slopes.{below_by_gain, below_flat}
use lib.Signed.{le_z}
use Rattle.ctd_range.proofs.order.is_below.Goals as goal

le_is : (a b : ℤ) → le_z a b ≡ true → a ≤ℤ b
le_is a b is = grind (arith, ints)

pub returns-then-b-a : goal.returns-then-b-a
returns-then-b-a c = λ is n x few here.
    let fits_1 : FitsSigned w128 c.args.a.high = search rules in
    let fits_2 : FitsSigned w128 c.args.b.high = search rules in
    below_flat x c.args.a.high c.args.b.high c.args.a.fall c.args.b.fall n (grind (arith, nat_tests, c.if-b-a.true)) here (le_is c.args.a.high c.args.b.high (rw (to_z-of_z w128 c.args.a.high fits_1, to_z-of_z w128 c.args.b.high fits_2) at is))

pub returns-in-Some-checked_add : goal.returns-in-Some-checked_add
returns-in-Some-checked_add c =
    let product = rw c.in-Some.is at c.checked_mul.ensures in
    let sum = rw c.in-Some-checked_add.is at c.checked_add.ensures in
    let fits_1 : FitsSigned w128 c.from.result = search rules in
    let fits_2 : FitsSigned w128 c.from-2.result = search rules in
    let fits_3 : FitsSigned w128 c.in-Some.gain = search rules in
    let fits_4 : FitsSigned w128 c.args.a.high = search rules in
    let fits_5 : FitsSigned w128 c.in-Some-checked_add.most = search rules in
    let fits_6 : FitsSigned w128 c.args.b.high = search rules in
    let gained = rw (to_z-of_z w128 c.from.result fits_1, to_z-of_z w128 c.from-2.result fits_2, c.from.ensures, c.from-2.ensures) at product.1 in
    let most = rw (to_z-of_z w128 c.args.a.high fits_4, to_z-of_z w128 c.in-Some.gain fits_3, gained) at sum.1 in
    λ is n x few h. below_by_gain x c.args.a.high c.args.b.high c.args.a.fall c.args.b.fall n (2 ^ 64 - 1) (grind (arith, nat_tests, c.if-b-a.false)) (omega (arith, few)) h
    (subst (λ m. m ≤ℤ c.args.b.high) most (le_is c.in-Some-checked_add.most c.args.b.high (rw (to_z-of_z w128 c.in-Some-checked_add.most fits_5, to_z-of_z w128 c.args.b.high fits_6) at is)))
