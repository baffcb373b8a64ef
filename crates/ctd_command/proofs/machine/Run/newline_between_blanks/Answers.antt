use Rattle.std.proofs.Common.{rules}
use Rattle.ctd_command.proofs.Acts.{and_then, early_by}
use Rattle.ctd_command.proofs.machine.Run.newline_between_blanks.Goals as goal

pub returns-in_err-skip_blanks : goal.returns-in_err-skip_blanks
returns-in_err-skip_blanks g c = record { performs = early_by _ _ c.from_residual.ensures c.in_err-skip_blanks.ensures.performs }

pub returns-in_err-one_byte : goal.returns-in_err-one_byte
returns-in_err-one_byte g c = record { performs = and_then _ c.in_ok-skip_blanks.ensures.performs (early_by _ _ c.from_residual-in_err-one_byte.ensures c.in_err-one_byte.ensures.performs) }

pub returns : goal.returns
returns g c = record { performs = and_then _ c.in_ok-skip_blanks.ensures.performs (and_then _ c.in_ok-one_byte.ensures.performs (search rules)) }
