use Rattle.std.proofs.Common.{sym}
use Rattle.std.proofs.lemmas.Option.{IfSome_then}
use Rattle.ctd_program.specs.calls.View.{test_tree}
use Rattle.ctd_command.proofs.Telling.{answered_in_front}
use Rattle.ctd_command.proofs.machine.Run.buffered_answer.Goals as goal

pub returns : goal.returns
returns g c =
    let run = c.held_run.result.now in
    record {
      performs = IfSome_then c.test_at_byte.result c.test_at_byte.ensures.value
          (λ truth known. answered_in_front c.args.self.now (test_tree c.args.t.now) truth c.in_ok-byte.byte.now run c.requires.sound (sym c.in_ok-byte.ensures.value) c.held_run.ensures.front c.held_run.ensures.held c.held_run.ensures.within known);
    }
