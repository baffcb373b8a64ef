use Rattle.ctd_range.proofs.Common.{FitsSigned, refl, rules, to_z-of_z, w128}
use Rattle.ctd_range.proofs.arithmetic.between_corners.Goals as goal

pub returns : goal.returns
returns c =
    let fits_p : FitsSigned w128 c.args.p.at = search rules in
    let fits_q : FitsSigned w128 c.args.q.at = search rules in
    let fits_r : FitsSigned w128 c.args.r.at = search rules in
    let fits_s : FitsSigned w128 c.args.s.at = search rules in
    let fits_least : FitsSigned w128 c.least.result = search rules in
    let fits_greatest : FitsSigned w128 c.greatest.result = search rules in
    let low = rw (to_z-of_z w128 c.args.p.at fits_p, to_z-of_z w128 c.args.q.at fits_q, to_z-of_z w128 c.args.r.at fits_r, to_z-of_z w128 c.args.s.at fits_s) at c.least.ensures in
    let high = rw (to_z-of_z w128 c.args.p.at fits_p, to_z-of_z w128 c.args.q.at fits_q, to_z-of_z w128 c.args.r.at fits_r, to_z-of_z w128 c.args.s.at fits_s) at c.greatest.ensures in
    rw (to_z-of_z w128 c.least.result fits_least, to_z-of_z w128 c.greatest.result fits_greatest) (record {
      low = record { p_above = low.p; q_above = low.q; r_above = low.r; s_above = low.s };
      high = record { p_below = high.p; q_below = high.q; r_below = high.r; s_below = high.s };
      flat = (refl, refl);
      overflows = c.one_passes.ensures;
    })
