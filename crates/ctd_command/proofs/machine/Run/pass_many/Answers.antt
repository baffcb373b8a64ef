use Rattle.ctd_command.proofs.Acts.{passed}
use Rattle.ctd_command.proofs.machine.Run.pass_many.Goals as goal

pub returns : goal.returns
returns g c = record { performs = passed c.args.n c.args.self.now c.take_many.new.self c.requires.sound c.take_many.ensures.moves }
