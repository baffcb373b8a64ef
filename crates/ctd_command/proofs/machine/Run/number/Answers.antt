use Rattle.std.proofs.Common.{Ok, ap, rules}
use Rattle.std.proofs.lemmas.Int.{to_z-of_z}
use Rattle.std.specs.Int.{w128}
use Rattle.ctd_program.specs.calls.View.{expr_tree}
use Rattle.ctd_value.specs.Val.{number_of}
use Rattle.ctd_command.proofs.Acts.{answers_as, evaluated}
use Rattle.ctd_command.proofs.Telling.{unvalued}
use Rattle.ctd_command.proofs.machine.Run.number.Goals as goal

pub returns-in_err-number_of : goal.returns-in_err-number_of
returns-in_err-number_of g c = record { performs = unvalued c.args.self.now c.in_err-number_of.field-0.0 c.from_residual.result _ c.requires.sound c.from_residual.ensures c.in_err-number_of.ensures.value }

pub returns : goal.returns
returns g c = record {
  performs = answers_as (ap Ok (to_z-of_z w128 c.in_ok-number_of.field-0 (search rules))) (evaluated c.args.self.now (Ok c.in_ok-number_of.field-0) (number_of (expr_tree c.args.e.now)) c.requires.sound c.in_ok-number_of.ensures.value);
}
