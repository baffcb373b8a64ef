use Rattle.std.proofs.Common.{of_z, rules, to_z, ◌∙◌, ◌≡◌}
use Rattle.std.specs.Int.RustNames.{FitsSigned}
use Rattle.std.specs.Int.{w128, w64}
use Rattle.std.proofs.lemmas.Int.{to_z-of_z}
use Rattle.ctd_limits.proofs.NumberBounds.{to_most}
use Rattle.ctd_limits.proofs.numbers.up_to_highs.Goals as goal

pub returns-in-Some : goal.returns-in-Some
returns-in-Some c =
    let fits : FitsSigned w64 c.in-Some.most = search rules in
    let wide : FitsSigned w128 c.from.result = search rules in
    let same : to_z w128 (of_z w128 c.from.result) ≡ c.in-Some.most = to_z-of_z w128 c.from.result wide ∙ c.from.ensures ∙ to_z-of_z w64 c.in-Some.most fits in
    to_most c.args.range c.with_high.result c.args.highs.now c.in-Some.most c.in-Some.ensures (rw same at c.with_high.ensures)
