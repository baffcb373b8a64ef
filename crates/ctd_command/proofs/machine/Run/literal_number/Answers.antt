use Rattle.std.proofs.Common.{Ok, ap}
use Rattle.std.proofs.lemmas.Option.{IfSome_then}
use Rattle.ctd_program.specs.calls.View.{expr_tree}
use Rattle.ctd_value.specs.Fault.{◌>>=◌}
use Rattle.ctd_value.specs.Val.{number, number_of}
use Rattle.ctd_command.proofs.Acts.{evaluated}
use Rattle.ctd_command.proofs.machine.Run.literal_number.Goals as goal

pub returns : goal.returns
returns g c = record {
  performs = IfSome_then c.literal_number.result c.literal_number.ensures.value
      (λ n is. evaluated c.args.self.now (Ok n) (number_of (expr_tree c.args.e.now)) c.requires.sound (ap (λ m. m >>= number) (is c.args.self.now.store)));
}
