use Rattle.ctd_outcome.specs.declared.reason.Reason.TheVariants.{ExpectedEof}
use Rattle.ctd_command.proofs.Acts.{and_then, early_by, given, rejecting}
use Rattle.ctd_command.proofs.machine.Run.end_of_data.Goals as goal

pub returns-in_err-next : goal.returns-in_err-next
returns-in_err-next g c = record { performs = early_by _ _ c.from_residual.ensures c.in_err-next.ensures.performs }

pub returns-in-None : goal.returns-in-None
returns-in-None g c = record { performs = and_then _ c.in_ok-next.ensures.performs (rw c.in-None.is (given c.next.new.self tt c.in_ok-next.ensures.performs.sound)) }

pub returns-in-Some : goal.returns-in-Some
returns-in-Some g c = record { performs = and_then _ c.in_ok-next.ensures.performs (rw (c.in-Some.is, c.rejected.ensures) (rejecting c.next.new.self ExpectedEof)) }
