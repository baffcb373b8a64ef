-- What is written for words that ask for no program.
use Rattle.ctd_lint_tool.proofs.Common.{BeforeAfter, Err, FailsMidway, Ghosts, Leaves, LintFault, Memory, Report, Result, ToolFault, Write, subst, sym, usage_report, ℕ, ◌≡◌}

-- a report that is that of a fault was written, and the fault is this one
pub usage_written : {O E : Type 0} {G : Ghosts O} {H : Ghosts E} (out : BeforeAfter O G) (err : BeforeAfter E H) (result : Result ℕ ToolFault) (fault this : LintFault) (report : Report)
    → fault ≡ this → report ≡ usage_report this → Leaves out err report result → Leaves out err (usage_report fault) result
usage_written out err result fault this report is same written =
    subst (λ f. Leaves out err (usage_report f) result) (sym is) (subst (λ r. Leaves out err r result) same written)

module _ {O E : Type 0} {G : Ghosts O} {H : Ghosts E} (out : BeforeAfter O G) (err : BeforeAfter E H) (report : Report) (result : Result ℕ ToolFault) where
  -- after `Write` the report broke off
  pub breaks : result ≡ Err Write → Leaves out err report result → FailsMidway out err report
  breaks is = subst (Leaves out err report) is

  -- after `Memory` nothing was written
  pub untouched : result ≡ Err Memory → Leaves out err report result → (out.new ≡ out.old) × (err.new ≡ err.old)
  untouched is = subst (Leaves out err report) is
