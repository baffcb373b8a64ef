use Rattle.ctd_command.proofs.Acts.{and_then, given}
use Rattle.ctd_command.proofs.machine.Run.assert.Goals as goal

pub returns-in-Some-true : goal.returns-in-Some-true
returns-in-Some-true g c = record { performs = and_then _ c.in-Some-true.ensures.performs (rw c.in-Some-true.field-0-test (given c.args.self.now tt c.requires.sound)) }
