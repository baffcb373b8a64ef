use Rattle.std.proofs.Common.{ap, refl, ◌∙◌}
use Rattle.ctd_program.specs.calls.View.{target}
use Rattle.ctd_command.specs.Regex.{regex}
use Rattle.ctd_command.proofs.Acts.{out_of_memory, performs_as}
use Rattle.ctd_command.proofs.machine.Run.pass_match_anew.Goals as goal

pub returns-in_default : goal.returns-in_default
returns-in_default g c = record { performs = out_of_memory c.args.self.now _ (refl, c.from.ensures) }

pub returns-in_err-matcher : goal.returns-in_err-matcher
returns-in_err-matcher g c = record { performs = out_of_memory c.args.self.now _ c.from_residual.ensures }

pub returns : goal.returns
returns g c = record {
  performs = performs_as (λ d s. ap (λ l. regex l (target c.args.var.now) d s) (c.in_ok-matcher.ensures.literal ∙ c.in-Ok.ensures.literal)) c.pass_match.ensures.performs;
}
