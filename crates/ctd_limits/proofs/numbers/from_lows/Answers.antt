use Rattle.std.proofs.Common.{of_z, rules, to_z, ◌∙◌, ◌≡◌}
use Rattle.std.specs.Int.RustNames.{FitsSigned}
use Rattle.std.specs.Int.{w128, w64}
use Rattle.std.proofs.lemmas.Int.{to_z-of_z}
use Rattle.ctd_limits.proofs.NumberBounds.{from_least}
use Rattle.ctd_limits.proofs.numbers.from_lows.Goals as goal

pub returns-in-Some : goal.returns-in-Some
returns-in-Some c =
    let fits : FitsSigned w64 c.in-Some.least = search rules in
    let wide : FitsSigned w128 c.from.result = search rules in
    let same : to_z w128 (of_z w128 c.from.result) ≡ c.in-Some.least = to_z-of_z w128 c.from.result wide ∙ c.from.ensures ∙ to_z-of_z w64 c.in-Some.least fits in
    from_least c.args.range c.with_low.result c.args.lows.now c.in-Some.least c.in-Some.ensures (rw same at c.with_low.ensures)
