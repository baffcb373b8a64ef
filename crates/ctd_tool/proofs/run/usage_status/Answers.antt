use Rattle.std.proofs.Common.{Err, ap, refl}
use Rattle.ctd_report.specs.Report.{usage_report}
use Rattle.ctd_report.proofs.EndLemmas.{breaks_off}
use Rattle.ctd_report.specs.Written.{whole}
use Rattle.ctd_tool.proofs.run.usage_status.Goals as goal

pub returns-in-Ok : goal.returns-in-Ok
returns-in-Ok g c = whole (usage_report c.args.fault.now) refl c.in-Ok.ensures.written

pub returns-in-Err : goal.returns-in-Err
returns-in-Err g c = breaks_off _ _ (usage_report c.args.fault.now) c.in-Err.field-0 (λ is. c.in-Err.ensures.no_memory (ap (λ fault. Err fault) is)) c.in-Err.ensures.written
