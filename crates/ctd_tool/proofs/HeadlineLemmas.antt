-- What `run_tool` reports, put together from what loading and checking promise.
use Rattle.std.proofs.Common.{◌≡◌, ◌≢◌, ◌+◌, ◌≤◌, ℕ, [], Ok, Err, Result, refl, ap, arith, sym, subst}
use Rattle.ctd_source.specs.declared.source.Seen.{Seen}
use Rattle.ctd_source.specs.declared.source.Source.{Ghosts}
use Rattle.ctd_source.specs.Agreement.{Agrees}
use Rattle.ctd_source.specs.SourceReads.{GaveAtMost}
use Rattle.ctd_source.specs.inner.ReadingOn.{gave_nothing}
use Rattle.ctd_token.specs.declared.fault.LoadFault.{LoadFault}
use Rattle.ctd_token.specs.declared.fault.LoadKind.TheVariants.{Memory}
use Rattle.ctd_token.specs.declared.limits.TheConstants.{PROGRAM_LIMIT}
use Rattle.ctd_outcome.specs.declared.outcome.Checked.{Checked}
use Rattle.ctd_program.specs.Tree.{CommandList}
use Rattle.ctd_loader.specs.calls.Loading.{LoadsFrom}
use Rattle.ctd_check.specs.Run.{meaning}
use Rattle.ctd_check.specs.calls.Checks.{FindsMeaning, IsAhead}
use Rattle.ctd_arguments.specs.declared.setup.Setup.{Setup}
use Rattle.ctd_report.specs.Report.{check_report, load_report}
use Rattle.ctd_report.specs.Written.{before_after}
use Rattle.ctd_tool.specs.Theorem.{IsReport, of_meaning, of_program_fault}

-- loading reads no more than the limit of programs and one byte
pub loads_few : {V R : Type 0} (tree_of : V → CommandList) (G : Ghosts R) (old new : R) (result : Result V LoadFault) → LoadsFrom tree_of G old new result → GaveAtMost G (PROGRAM_LIMIT + 1) old new
loads_few tree_of G old new result l = record { bytes = l.bytes; gave = l.gave; few = l.short }

-- a source that was left alone gave nothing
pub gave_none : {R : Type 0} (G : Ghosts R) (n : ℕ) (s : R) → GaveAtMost G n s s
gave_none G n s = record { bytes = []; gave = gave_nothing s; few = omega arith }

module _ {V P D : Type 0} (tree_of : V → CommandList) (G : Ghosts P) (H : Ghosts D) (s : Setup) (old_program new_program : P) where
  -- a program that was loaded, and data that were checked
  pub reports_meaning : (old new : D) (plan : V) (checked : Checked) → LoadsFrom tree_of G old_program new_program (Ok plan)
      → FindsMeaning H old new s.limits (λ d. meaning s.mode (tree_of plan) s.presets d s.limits.steps) checked → IsAhead checked → checked.taken ≤ s.limits.bytes + 1 → checked.seen ≡ H.seen new
      → IsReport s (before_after G old_program new_program) (before_after H old new) (check_report s.quiet checked.outcome)
  reports_meaning old new plan checked l m ahead within seen = of_meaning (record {
    tree = tree_of plan;
    text = l.bytes;
    gave_text = l.gave;
    loads = l.answer;
    bytes = m.given;
    gave = m.gave;
    within = omega (arith, m.taken, within);
    means = λ d limit agrees.
        let As : Seen → Type 0 = λ x. Agrees m.given x d in
        let f = m.finds d limit (subst As (sym seen) agrees) in
        record {
          report_is = ap (check_report s.quiet) f.outcome;
          behind = omega (arith, f.consumed, m.taken, ahead.behind);
          ahead = omega (arith, f.consumed, m.taken, ahead.ahead);
        };
  })

  -- a program that was refused
  pub reports_fault : (testdata : D) (fault : LoadFault) → LoadsFrom tree_of G old_program new_program (Err fault) → fault.kind ≢ Memory
      → IsReport s (before_after G old_program new_program) (before_after H testdata testdata) (load_report fault)
  reports_fault testdata fault l other =
      of_program_fault (record { fault = fault; text = l.bytes; gave_text = l.gave; within = l.short; fails = l.answer other; untouched = refl; report_is = refl })
