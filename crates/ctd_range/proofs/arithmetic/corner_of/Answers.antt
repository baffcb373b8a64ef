use Rattle.ctd_range.proofs.Common.{FitsSigned, of_z, rules, to_z, to_z-of_z, w128, ◌*ℤ◌, ◌∙◌, ◌≡◌}
use Rattle.ctd_range.proofs.Saturating.{saturated_corner}
use Rattle.ctd_range.proofs.arithmetic.corner_of.Goals as goal

pub returns : goal.returns
returns c =
    let same_a : to_z w128 (of_z w128 c.args.a) ≡ c.args.a = to_z-of_z w128 c.args.a (search rules) in
    let same_b : to_z w128 (of_z w128 c.args.b) ≡ c.args.b = to_z-of_z w128 c.args.b (search rules) in
    let fits : FitsSigned w128 c.saturating_mul.result = search rules in
    let at = rw (same_a, same_b) at c.saturating_mul.ensures in
    let iff = rw (same_a, same_b) at c.checked_mul.ensures in
    record { corner = saturated_corner (c.args.a *ℤ c.args.b) c.checked_mul.result (record { at = to_z w128 (of_z w128 c.saturating_mul.result); passes = c.is_none.result }) (to_z-of_z w128 c.saturating_mul.result fits ∙ at) iff c.is_none.ensures }
