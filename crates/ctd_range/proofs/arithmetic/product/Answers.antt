use Rattle.ctd_range.proofs.Common.{of_z, rules, to_z, to_z-of_z, w128, ◌≡◌}
use Rattle.ctd_range.proofs.Products.{corners_cover}
use Rattle.ctd_range.proofs.arithmetic.product.Goals as goal

pub returns : goal.returns
returns c =
    let same_1 : to_z w128 (of_z w128 c.args.a.low) ≡ c.args.a.low = to_z-of_z w128 c.args.a.low (search rules) in
    let same_2 : to_z w128 (of_z w128 c.args.a.high) ≡ c.args.a.high = to_z-of_z w128 c.args.a.high (search rules) in
    let same_3 : to_z w128 (of_z w128 c.args.b.low) ≡ c.args.b.low = to_z-of_z w128 c.args.b.low (search rules) in
    let same_4 : to_z w128 (of_z w128 c.args.b.high) ≡ c.args.b.high = to_z-of_z w128 c.args.b.high (search rules) in
    let p = rw (same_1, same_3) at c.corner_of.ensures.corner in
    let q = rw (same_1, same_4) at c.corner_of-2.ensures.corner in
    let r = rw (same_2, same_3) at c.corner_of-3.ensures.corner in
    let s = rw (same_2, same_4) at c.corner_of-4.ensures.corner in
    let found = c.between_corners.ensures in
    record {
      covers = λ n x y i j. corners_cover c.args.a c.args.b n x y c.corner_of.result c.corner_of-2.result c.corner_of-3.result c.corner_of-4.result c.between_corners.result
          p q r s found.low found.high found.flat.0 found.flat.1 found.overflows i j;
    }
