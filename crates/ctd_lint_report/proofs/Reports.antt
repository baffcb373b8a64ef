-- What is reported of a program, put together from what loading promises.
use Rattle.ctd_lint_report.proofs.Common.{All, AreRemarks, AreTraps, CommandList, Err, Finding, Ghosts, GuaranteeGroup, IsGuaranteed, IsLintReport, IsPlaced, IsTrueOfRuns, LintSetup, List, LoadFault, LoadsFrom, Memory, NeverHappens, Ok, Option}
use Rattle.ctd_lint_report.proofs.Common.{Place, TrapList, before_after, events_of, inl, inr, places_of, program_report, refl, refusal_report, remarks_of, ℕ, ◌≢◌}

module _ {V P : Type 0} (tree_of : V → CommandList) (G : Ghosts P) (file : List ℕ) (setup : LintSetup) (old new : P) where
  -- a program that was loaded, its findings and its traps
  pub reports_program : (plan : V) (found : List Finding) (groups : List GuaranteeGroup) (trap_list : TrapList) → LoadsFrom tree_of G old new (Ok plan) → All (IsPlaced (places_of (tree_of plan))) found
      → All (IsTrueOfRuns (tree_of plan) setup.presets) found → AreTraps (tree_of plan) setup.presets trap_list → NeverHappens (tree_of plan) setup.presets (events_of trap_list.never.items)
      → All (IsGuaranteed (tree_of plan) setup.presets trap_list.names.items) groups → IsLintReport AreRemarks file setup (before_after G old new) (program_report file setup (remarks_of file setup found groups trap_list) trap_list)
  reports_program plan found groups trap_list l placed meant are never guaranteed =
      inl (record {
        tree = tree_of plan;
        text = l.bytes;
        gave_text = l.gave;
        loads = l.answer;
        trap_list = trap_list;
        traps = are;
        remarks = remarks_of file setup found groups trap_list;
        remarked = record { found = found; placed = placed; meant = meant; never = never; groups = groups; guaranteed = guaranteed; remarks_are = refl };
        report_is = refl;
      })

  -- a program that was refused
  pub reports_refusal : (fault : LoadFault) (told : List ℕ) (unclosed : Option Place) → LoadsFrom tree_of G old new (Err fault) → fault.kind ≢ Memory
      → IsLintReport AreRemarks file setup (before_after G old new) (refusal_report setup.form file fault told unclosed)
  reports_refusal fault told unclosed l other =
      inr (record { fault = fault; text = l.bytes; gave_text = l.gave; within = l.short; fails = l.answer other; told = told; unclosed = unclosed; report_is = refl })
