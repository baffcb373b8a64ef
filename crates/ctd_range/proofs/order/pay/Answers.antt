use Rattle.ctd_range.proofs.Common.{FitsSigned, arith, ints, pos, rules, saturate_signed, to_z-of_z, w128, ℕ, ℤ, ◌*◌, ◌+ℤ◌, ◌-ℤ◌, ◌≡◌, ◌≤ℤ◌}
use Rattle.ctd_range.proofs.Slopes.{paid_low, paid_high}
use Rattle.ctd_range.proofs.Saturating.{not_above, not_below}
use Rattle.ctd_range.proofs.order.pay.Goals as goal

low_paid : (l r x t : ℤ) (s n : ℕ) → FitsSigned w128 l → r ≡ saturate_signed w128 (l +ℤ pos s) → ((l +ℤ pos s) +ℤ pos (s * n)) ≤ℤ x → (r +ℤ pos (s * n)) ≤ℤ x
low_paid l r x t s n fits is h = let k = not_above (l +ℤ pos s) (omega (arith, ints)) in rw is (omega (arith, ints, k, h))

high_paid : (g r x t : ℤ) (s n : ℕ) → FitsSigned w128 g → r ≡ saturate_signed w128 (g -ℤ pos s) → (x +ℤ pos (s * n)) ≤ℤ (g -ℤ pos s) → (x +ℤ pos (s * n)) ≤ℤ r
high_paid g r x t s n fits is h = let k = not_below (g -ℤ pos s) (omega (arith, ints)) in rw is (omega (arith, ints, k, h))

pub returns : goal.returns
returns c =
    let fits_low : FitsSigned w128 c.args.a.low = search rules in
    let fits_high : FitsSigned w128 c.args.a.high = search rules in
    let fits_rise : FitsSigned w128 c.from.result = search rules in
    let fits_fall : FitsSigned w128 c.from-2.result = search rules in
    let low = rw (to_z-of_z w128 c.args.a.low fits_low, to_z-of_z w128 c.from.result fits_rise, c.from.ensures) at c.saturating_add.ensures in
    let high = rw (to_z-of_z w128 c.args.a.high fits_high, to_z-of_z w128 c.from-2.result fits_fall, c.from-2.ensures) at c.saturating_sub.ensures in
    let fits_1 : FitsSigned w128 c.saturating_add.result = search rules in
    let fits_2 : FitsSigned w128 c.saturating_sub.result = search rules in
    rw (to_z-of_z w128 c.saturating_add.result fits_1, to_z-of_z w128 c.saturating_sub.result fits_2) (record {
      pays = λ n x i. record {
        low = low_paid c.args.a.low c.saturating_add.result x x c.args.a.rise n fits_low low (paid_low c.args.a.low x c.args.a.rise n i.low);
        high = high_paid c.args.a.high c.saturating_sub.result x x c.args.a.fall n fits_high high (paid_high c.args.a.high x c.args.a.fall n i.high);
      };
    })
