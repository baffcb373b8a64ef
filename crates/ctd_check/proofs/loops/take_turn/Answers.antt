use Rattle.ctd_command.proofs.Acts.{and_then, early_by}
use Rattle.ctd_check.proofs.loops.take_turn.Goals as goal

pub returns-in_err-count_turn : goal.returns-in_err-count_turn
returns-in_err-count_turn g c = record { performs = early_by _ _ c.from_residual.ensures c.in_err-count_turn.ensures.performs }

pub returns : goal.returns
returns g c = record { performs = and_then _ c.in_ok-count_turn.ensures.performs c.goes_on.ensures.performs }
