use Rattle.ctd_command.proofs.Telling.{unvalued}
use Rattle.ctd_command.proofs.machine.Run.count.Goals as goal

pub returns-in_err-count_of : goal.returns-in_err-count_of
returns-in_err-count_of g c = record { performs = unvalued c.args.self.now c.in_err-count_of.field-0.0 c.from_residual.result _ c.requires.sound c.from_residual.ensures c.in_err-count_of.ensures.value }
