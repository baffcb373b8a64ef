use Rattle.std.proofs.Common.{ap}
use Rattle.ctd_program.specs.calls.View.{target}
use Rattle.ctd_command.specs.Regex.{regex}
use Rattle.ctd_command.proofs.Acts.{performs_as}
use Rattle.ctd_command.proofs.machine.Run.pass_match_of.Goals as goal

pub returns-then-is_of : goal.returns-then-is_of
returns-then-is_of g c = record { performs = performs_as (λ d s. ap (λ l. regex l (target c.args.var.now) d s) (c.is_of.ensures.same c.if-is_of.true)) c.pass_match.ensures.performs }
