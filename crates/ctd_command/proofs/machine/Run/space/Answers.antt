use Rattle.std.proofs.Common.{ap, sym}
use Rattle.ctd_command.specs.inner.Blanks.{space_in}
use Rattle.ctd_command.specs.calls.Performs.{state}
use Rattle.ctd_command.proofs.Acts.{performs_at}
use Rattle.ctd_command.proofs.machine.Run.space.Goals as goal

pub returns-in-Exact : goal.returns-in-Exact
returns-in-Exact g c = record { performs = performs_at (λ d. ap (λ m. space_in m d (state c.args.self.now)) (sym c.in-Exact.is)) c.one_byte.ensures.performs }

pub returns-in-BlanksOk : goal.returns-in-BlanksOk
returns-in-BlanksOk g c = record { performs = performs_at (λ d. ap (λ m. space_in m d (state c.args.self.now)) (sym c.in-BlanksOk.is)) c.some_blanks.ensures.performs }
