use Rattle.std.proofs.Common.{rules}
use Rattle.std.specs.Int.RustNames.{FitsSigned}
use Rattle.std.specs.Int.{w128}
use Rattle.std.proofs.lemmas.Int.{to_z-of_z}
use Rattle.ctd_limits.proofs.NumberBounds.{adds_number}
use Rattle.ctd_limits.proofs.Valuing.{when_ok}
use Rattle.ctd_limits.proofs.numbers.with_number.Goals as goal

pub returns-in-Some : goal.returns-in-Some
returns-in-Some c =
    let fits : FitsSigned w128 c.args.n = search rules in
    let is = rw (to_z-of_z w128 c.args.n fits) at c.in-Some.ensures in
    when_ok c.with_bound.result (λ all same. adds_number c.args.bounds.items all.items c.in-Some.b c.args.n is same) c.with_bound.ensures
