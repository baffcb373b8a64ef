use Rattle.std.proofs.Common.{ap, sym}
use Rattle.ctd_command.specs.inner.Blanks.{end_in}
use Rattle.ctd_command.specs.calls.Performs.{state}
use Rattle.ctd_command.proofs.Acts.{performs_at}
use Rattle.ctd_command.proofs.machine.Run.end.Goals as goal

pub returns-in-Exact : goal.returns-in-Exact
returns-in-Exact g c = record { performs = performs_at (λ d. ap (λ m. end_in m d (state c.args.self.now)) (sym c.in-Exact.is)) c.end_of_data.ensures.performs }

pub returns-in-BlanksOk : goal.returns-in-BlanksOk
returns-in-BlanksOk g c = record { performs = performs_at (λ d. ap (λ m. end_in m d (state c.args.self.now)) (sym c.in-BlanksOk.is)) c.end_behind_blanks.ensures.performs }
