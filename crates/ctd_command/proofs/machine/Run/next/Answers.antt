use Rattle.ctd_command.proofs.Acts.{looked, looked_faulty}
use Rattle.ctd_command.proofs.machine.Run.next.Goals as goal

pub returns-in-Ok-clause-performs : goal.returns-in-Ok-clause-performs
returns-in-Ok-clause-performs g c = looked c.args.self.now c.look.new.self c.in-Ok.next c.in-Ok.ensures.reads c.in-Ok.ensures.fault (c.in-Ok.ensures.answer c.requires.sound)

pub returns-in-Err-clause-performs : goal.returns-in-Err-clause-performs
returns-in-Err-clause-performs g c = looked_faulty c.args.self.now c.look.new.self c.in-Err.fault c.from.result c.in-Err.ensures.reads c.from.ensures (c.in-Err.ensures.answer c.requires.sound)
