use Rattle.ctd_range.proofs.Common.{FitsSigned, ap, arith, ints, of_z, or-true, rules, to_z, to_z-of_z, w128, ◌+ℤ◌, ◌||◌, ◌∙◌, ◌≡◌}
use Rattle.ctd_range.proofs.Ends.{ends_cover, sum_below, sum_above}
use Rattle.ctd_range.proofs.arithmetic.sum.Goals as goal

pub returns : goal.returns
returns c =
    let fits_low : FitsSigned w128 c.end_sum-low.result.at = search rules in
    let fits_high : FitsSigned w128 c.end_sum-high.result.at = search rules in
    let same_1 : to_z w128 (of_z w128 c.args.a.low) ≡ c.args.a.low = to_z-of_z w128 c.args.a.low (search rules) in
    let same_2 : to_z w128 (of_z w128 c.args.b.low) ≡ c.args.b.low = to_z-of_z w128 c.args.b.low (search rules) in
    let same_3 : to_z w128 (of_z w128 c.args.a.high) ≡ c.args.a.high = to_z-of_z w128 c.args.a.high (search rules) in
    let same_4 : to_z w128 (of_z w128 c.args.b.high) ≡ c.args.b.high = to_z-of_z w128 c.args.b.high (search rules) in
    let low = rw (same_1, same_2) at c.end_sum-low.ensures.end in
    let high = rw (same_3, same_4) at c.end_sum-high.ensures.end in
    rw (to_z-of_z w128 c.end_sum-low.result.at fits_low, to_z-of_z w128 c.end_sum-high.result.at fits_high) (record {
      covers = λ n x y p q.
          ends_cover (x +ℤ y) (c.args.a.low +ℤ c.args.b.low) (c.args.a.high +ℤ c.args.b.high) c.slope_sum.result c.slope_sum-2.result n c.end_sum-low.result c.end_sum-high.result (c.end_sum-low.result.passes || c.end_sum-high.result.passes)
          low high
          (sum_below c.args.a.low c.args.b.low x y c.args.a.rise c.args.b.rise c.slope_sum.result n c.slope_sum.ensures p.low q.low)
          (sum_above c.args.a.high c.args.b.high x y c.args.a.fall c.args.b.fall c.slope_sum-2.result n c.slope_sum-2.ensures p.high q.high)
          (omega (arith, ints)) (omega (arith, ints)) (λ is. ap (λ b. b || c.end_sum-high.result.passes) is) (λ is. ap (λ b. c.end_sum-low.result.passes || b) is ∙ or-true c.end_sum-low.result.passes);
    })
