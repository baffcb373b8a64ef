use Rattle.std.proofs.Common.{rules}
use Rattle.std.proofs.lemmas.Int.{to_z-of_z}
use Rattle.std.specs.Int.{w64}
use Rattle.ctd_command.proofs.machine.Run.is_at_least.Goals as goal

pub returns-in-Some : goal.returns-in-Some
returns-in-Some g c above =
    let value = to_z-of_z w64 c.args.value c.ranges.value in
    let least = to_z-of_z w64 c.in-Some.least (search rules) in
    record { least = c.in-Some.least; low_is = c.in-Some.ensures.performs; above = simp (value, least) at above }

pub returns-in-Some-fast_number : goal.returns-in-Some-fast_number
returns-in-Some-fast_number g c above =
    let value = to_z-of_z w64 c.args.value c.ranges.value in
    let least = to_z-of_z w64 c.in-Some-fast_number.least (search rules) in
    record { least = c.in-Some-fast_number.least; low_is = c.in-Some-fast_number.ensures.performs; above = simp (value, least) at above }
