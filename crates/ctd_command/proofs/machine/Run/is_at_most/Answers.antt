use Rattle.std.proofs.Common.{rules}
use Rattle.std.proofs.lemmas.Int.{to_z-of_z}
use Rattle.std.specs.Int.{w64}
use Rattle.ctd_command.proofs.machine.Run.is_at_most.Goals as goal

pub returns-in-Some : goal.returns-in-Some
returns-in-Some g c below =
    let value = to_z-of_z w64 c.args.value c.ranges.value in
    let most = to_z-of_z w64 c.in-Some.most (search rules) in
    record { most = c.in-Some.most; high_is = c.in-Some.ensures.performs; below = simp (value, most) at below }

pub returns-in-Some-fast_number : goal.returns-in-Some-fast_number
returns-in-Some-fast_number g c below =
    let value = to_z-of_z w64 c.args.value c.ranges.value in
    let most = to_z-of_z w64 c.in-Some-fast_number.most (search rules) in
    record { most = c.in-Some-fast_number.most; high_is = c.in-Some-fast_number.ensures.performs; below = simp (value, most) at below }
