use Rattle.std.proofs.lemmas.Option.{IfSome_then}
use Rattle.ctd_program.specs.calls.View.{test_tree}
use Rattle.ctd_command.proofs.Telling.{answered_at_once}
use Rattle.ctd_command.proofs.machine.Run.fast_answer.Goals as goal

pub returns : goal.returns
returns g c = record { performs = IfSome_then c.fast_test.result c.fast_test.ensures.value (λ truth is. answered_at_once c.args.self.now (test_tree c.args.t.now) truth c.requires.sound is) }
