use Rattle.std.proofs.Common.{ap, Err}
use Rattle.ctd_program.specs.calls.View.{test_tree}
use Rattle.ctd_command.proofs.Acts.{answers_as}
use Rattle.ctd_command.proofs.Telling.{answered, unanswered}
use Rattle.ctd_command.proofs.machine.Run.answer_by_parts.Goals as goal

pub returns-in-Ok : goal.returns-in-Ok
returns-in-Ok g c = record { performs = answered c.args.self.now c.holds.new.next (test_tree c.args.t.now) c.in-Ok.answer c.in-Ok.ensures.reads.reads (c.in-Ok.ensures.sound c.requires.sound) (c.in-Ok.ensures.answer c.requires.sound) }

pub returns-in-Err : goal.returns-in-Err
returns-in-Err g c = record { performs = answers_as (ap Err c.from.ensures) (unanswered c.args.self.now c.holds.new.next (test_tree c.args.t.now) c.in-Err.fault c.in-Err.ensures.reads.reads (c.in-Err.ensures.answer c.requires.sound)) }
