use Rattle.ctd_command.proofs.Acts.{given}
use Rattle.ctd_check.proofs.loops.count_turn.Goals as goal

pub returns-in-None : goal.returns-in-None
returns-in-None g c = record { performs = rw c.in-None.is (given c.args.run.now tt c.requires.sound) }
