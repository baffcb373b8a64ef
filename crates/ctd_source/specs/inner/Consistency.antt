-- The state of a cursor, and the data that it is consistent with.
use Rattle.std.specs.Prelude.{Result, Ok, Err}
use Rattle.ctd_source.specs.declared.spot.LookFault.{LookFault}

-- an answer with what it gives
abbrev pub answer_with : {X Y : Type 0} → Result X LookFault → Y → Result Y LookFault
answer_with (Ok _) y = Ok y
answer_with (Err fault) y = Err fault
