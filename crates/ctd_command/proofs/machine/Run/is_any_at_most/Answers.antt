use Rattle.std.proofs.Common.{rules}
use Rattle.std.proofs.lemmas.Int.{to_z-of_z}
use Rattle.std.specs.Int.{w64, w128}
use Rattle.ctd_command.proofs.machine.Run.is_any_at_most.Goals as goal

pub returns-in-Ok : goal.returns-in-Ok
returns-in-Ok g c below =
    let value = to_z-of_z w64 c.args.value c.ranges.value in
    let wide = to_z-of_z w128 c.from.result (search rules) in
    let most = to_z-of_z w128 c.in-Ok.most (search rules) in
    record { most = c.in-Ok.most; high_is = c.in-Ok.ensures.performs; below = simp (c.from.ensures, value) at (simp (wide, most) at below) }
