use Rattle.std.proofs.Common.{append_assoc}
use Rattle.std.proofs.lemmas.Result.{IfOk-weaker}
use Rattle.ctd_report.proofs.report.line_of.Goals as goal

pub returns-in-Rejected : goal.returns-in-Rejected
returns-in-Rejected c = IfOk-weaker c.format.result _ _ (λ t h. rw c.in-Rejected.is (rw h (simp append_assoc))) c.format.ensures.ok

pub returns-in-Stopped : goal.returns-in-Stopped
returns-in-Stopped c = IfOk-weaker c.format-in-Stopped.result _ _ (λ t h. rw c.in-Stopped.is (rw h (simp append_assoc))) c.format-in-Stopped.ensures.ok
