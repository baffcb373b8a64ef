use Rattle.std.proofs.Common.{sym, ◌∙◌}
use Rattle.ctd_outcome.specs.declared.reason.Reason.TheVariants.{ExpectedSpace}
use Rattle.ctd_command.proofs.Acts.{and_then, early_by, rejecting}
use Rattle.ctd_command.proofs.machine.Run.blank_and_more.Goals as goal

pub returns-in_err-byte : goal.returns-in_err-byte
returns-in_err-byte g c = record { performs = early_by _ _ c.from_residual.ensures c.in_err-byte.ensures.performs }

pub returns-then-not-is_blank : goal.returns-then-not-is_blank
returns-then-not-is_blank g c = record { performs = and_then _ c.in_ok-byte.ensures.performs (rw (c.in-Some.is, sym c.is_blank.ensures ∙ c.if-not-is_blank.true, c.rejected.ensures) (rejecting c.next.new.self ExpectedSpace)) }

pub returns-else-not-is_blank : goal.returns-else-not-is_blank
returns-else-not-is_blank g c = record { performs = and_then _ c.in_ok-byte.ensures.performs (rw (c.in-Some.is, sym c.is_blank.ensures ∙ c.if-not-is_blank.false) c.any_blanks.ensures.performs) }

pub returns-in-None : goal.returns-in-None
returns-in-None g c = record { performs = and_then _ c.in_ok-byte.ensures.performs (rw (c.in-None.is, c.rejected-in-None.ensures) (rejecting c.next.new.self ExpectedSpace)) }
