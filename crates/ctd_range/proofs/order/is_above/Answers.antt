use Rattle.ctd_range.proofs.Common.{FitsSigned, arith, ints, nat_tests, rules, subst, to_z-of_z, true, w128, ℤ, ◌-◌, ◌^◌, ◌≡◌, ◌≤ℤ◌}
use Rattle.ctd_range.proofs.Slopes.{above_by_gain, above_flat}
use lib.Signed.{le_z}
use Rattle.ctd_range.proofs.order.is_above.Goals as goal

le_is : (a b : ℤ) → le_z a b ≡ true → a ≤ℤ b
le_is a b is = grind (arith, ints)

pub returns-then-b-a : goal.returns-then-b-a
returns-then-b-a c = λ is n x few here.
    let fits_1 : FitsSigned w128 c.args.a.low = search rules in
    let fits_2 : FitsSigned w128 c.args.b.low = search rules in
    above_flat x c.args.a.low c.args.b.low c.args.a.rise c.args.b.rise n (grind (arith, nat_tests, c.if-b-a.true)) (le_is c.args.b.low c.args.a.low (rw (to_z-of_z w128 c.args.a.low fits_1, to_z-of_z w128 c.args.b.low fits_2) at is)) here

pub returns-in-Some-checked_add : goal.returns-in-Some-checked_add
returns-in-Some-checked_add c =
    let product = rw c.in-Some.is at c.checked_mul.ensures in
    let sum = rw c.in-Some-checked_add.is at c.checked_add.ensures in
    let fits_1 : FitsSigned w128 c.from.result = search rules in
    let fits_2 : FitsSigned w128 c.from-2.result = search rules in
    let fits_3 : FitsSigned w128 c.in-Some.gain = search rules in
    let fits_4 : FitsSigned w128 c.args.b.low = search rules in
    let fits_5 : FitsSigned w128 c.in-Some-checked_add.least = search rules in
    let fits_6 : FitsSigned w128 c.args.a.low = search rules in
    let gained = rw (to_z-of_z w128 c.from.result fits_1, to_z-of_z w128 c.from-2.result fits_2, c.from.ensures, c.from-2.ensures) at product.1 in
    let least = rw (to_z-of_z w128 c.args.b.low fits_4, to_z-of_z w128 c.in-Some.gain fits_3, gained) at sum.1 in
    λ is n x few h. above_by_gain x c.args.a.low c.args.b.low c.args.a.rise c.args.b.rise n (2 ^ 64 - 1) (grind (arith, nat_tests, c.if-b-a.false)) (omega (arith, few)) h
    (subst (λ m. m ≤ℤ c.args.a.low) least (le_is c.in-Some-checked_add.least c.args.a.low (rw (to_z-of_z w128 c.in-Some-checked_add.least fits_5, to_z-of_z w128 c.args.a.low fits_6) at is)))
