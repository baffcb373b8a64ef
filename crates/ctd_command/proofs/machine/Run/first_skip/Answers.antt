use Rattle.std.proofs.Common.{ap, sym}
use Rattle.ctd_command.specs.inner.Blanks.{start_in}
use Rattle.ctd_command.specs.calls.Performs.{state}
use Rattle.ctd_command.proofs.Acts.{performs_at}
use Rattle.ctd_command.proofs.machine.Run.first_skip.Goals as goal

pub returns-in-BlanksOk : goal.returns-in-BlanksOk
returns-in-BlanksOk g c = record { performs = performs_at (λ d. ap (λ m. start_in m d (state c.args.self.now)) (sym c.in-BlanksOk.is)) c.skip_blanks.ensures.performs }
