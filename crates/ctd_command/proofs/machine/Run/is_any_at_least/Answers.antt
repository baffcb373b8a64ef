use Rattle.std.proofs.Common.{rules}
use Rattle.std.proofs.lemmas.Int.{to_z-of_z}
use Rattle.std.specs.Int.{w64, w128}
use Rattle.ctd_command.proofs.machine.Run.is_any_at_least.Goals as goal

pub returns-in-Ok : goal.returns-in-Ok
returns-in-Ok g c above =
    let value = to_z-of_z w64 c.args.value c.ranges.value in
    let wide = to_z-of_z w128 c.from.result (search rules) in
    let least = to_z-of_z w128 c.in-Ok.least (search rules) in
    record { least = c.in-Ok.least; low_is = c.in-Ok.ensures.performs; above = simp (c.from.ensures, value) at (simp (wide, least) at above) }
