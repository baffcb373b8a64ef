use Rattle.std.proofs.Common.{ap}
use Rattle.ctd_program.specs.calls.View.{target}
use Rattle.ctd_command.specs.Regex.{regex}
use Rattle.ctd_command.proofs.Acts.{performs_as}
use Rattle.ctd_command.proofs.machine.Run.regex.Goals as goal

pub returns-in-Some : goal.returns-in-Some
returns-in-Some g c = record {
  performs = performs_as (λ d s. ap (λ l. regex l (target c.args.arguments.now.target) d s) c.as_slice-literal.ensures.whole) c.pass_match_of.ensures.performs;
}

pub returns-in-None : goal.returns-in-None
returns-in-None g c = record {
  performs = performs_as (λ d s. ap (λ l. regex l (target c.args.arguments.now.target) d s) c.as_slice-literal.ensures.whole) c.pass_match_anew.ensures.performs;
}
