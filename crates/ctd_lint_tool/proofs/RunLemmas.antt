-- The parts of a run, put together.
use Rattle.ctd_lint_tool.proofs.Common.{Args, BeforeAfter, EndsArgs, EndsIn, EndsInFault, EndsWithReport, EndsWords, Err, ErrorKind, FailsMidwayAt, IsErr, IsErrAnd, IsLintFault, IsReportOf, LeavesRun}
use Rattle.ctd_lint_tool.proofs.Common.{LintFault, LintSetup, Lints, List, Means, Memory, Ok, OutOfMemory, Report, Result, RunsOutAt, Stand, ToolFault, WasAskedFor, Write, WritesOneOf, bad_words}
use Rattle.ctd_lint_tool.proofs.Common.{before_after, broken_off, inl, inr, max, no_room, of_fault, one_more, refl, subst, sym, usage_report, whole, ℕ, ◌∷◌, ◌≡◌, ◌≢◌, ◌⊎◌}
use Rattle.ctd_report.specs.declared.sink.Sink as sinks
use Rattle.ctd_lint_tool.specs.declared.command_line.LintFault.TheVariants as faults

-- one of two kinds of reports
either : {O E : Type 0} {S : sinks.Ghosts O} {T : sinks.Ghosts E} (out : BeforeAfter O S) (err : BeforeAfter E T) (A B : Report → Type 0) (status : ℕ)
    → EndsWithReport out err (λ r. A r ⊎ B r) status → EndsWithReport out err A status ⊎ EndsWithReport out err B status
either out err A B status (whole report (inl a) all) = inl (whole report a all)
either out err A B status (whole report (inr b) all) = inr (whole report b all)
either out err A B status (broken_off report (inl a) part two) = inl (broken_off report a part two)
either out err A B status (broken_off report (inr b) part two) = inr (broken_off report b part two)

-- a fault was told, or that memory ran out at that
pub told : {F S O E : Type 0} (m : Means F S O E) (first last : Stand F O E) (fault : LintFault) (status : ℕ) → last.files ≡ first.files
    → EndsWithReport (before_after m.out first.out last.out) (before_after m.err first.err last.err) (λ r. (r ≡ usage_report fault) ⊎ (r ≡ usage_report faults.Memory)) status
    → EndsInFault m first last fault status ⊎ EndsInFault m first last faults.Memory status
told m first last fault status same ends = one (either _ _ _ _ status ends)
  where
    one : EndsIn m first last (λ r. r ≡ usage_report fault) status ⊎ EndsIn m first last (λ r. r ≡ usage_report faults.Memory) status
        → EndsInFault m first last fault status ⊎ EndsInFault m first last faults.Memory status
    one (inl is) = inl (record { no_file = same; told = is })
    one (inr is) = inr (record { no_file = same; told = is })

-- what holds of a fault holds of what `?` returns for it
pub holds_on_return : (P : Result ℕ ToolFault → Type 0) (f : ToolFault) (q : Result ℕ ToolFault) → IsErr q × IsErrAnd q (λ e. e ≡ f) → P (Err f) → P q
holds_on_return P f (Ok x) is has = absurd is.1
holds_on_return P f (Err e) is has = subst (λ x. P (Err x)) (sym is.1) has

module _ {F S O E : Type 0} (m : Means F S O E) (setup : LintSetup) (names : List (List ℕ)) (first : Stand F O E) (rest later : List (List ℕ)) (name : List ℕ) (status : ℕ) (between new : Stand F O E) (is : rest ≡ name ∷ later) (linted : Lints m setup names first rest status between) where
  -- one more program was linted
  pub goes_on : (own total : ℕ) → total ≡ max status own → WritesOneOf (before_after m.out between.out new.out) (before_after m.err between.err new.err) (IsReportOf m setup name between new) (Ok own)
      → Lints m setup names first later total new
  goes_on own total greatest h = subst (λ t. Lints m setup names first later t new) (sym greatest) (one_more name later status own between new (subst (λ r. Lints m setup names first r status between) is linted)
      (record { report = h.0; is = h.1; written = h.2 }))

  -- the run stopped at a program
  pub stops : (fault : ToolFault) → WritesOneOf (before_after m.out between.out new.out) (before_after m.err between.err new.err) (IsReportOf m setup name between new) (Err fault)
      → WasAskedFor m.opens m.closes m.asks between.files name new.files → LeavesRun m setup names first new (Err fault)
  stops Write h asked = record {
    at = record { name = name; later = later; status = status; between = between; linted = subst (λ r. Lints m setup names first r status between) is linted };
    breaks = record { report = h.0; is = h.1; part = h.2 };
  }
  stops Memory h asked = record {
    at = record { name = name; later = later; status = status; between = between; linted = subst (λ r. Lints m setup names first r status between) is linted };
    asked = asked;
    no_out = h.0;
    no_err = h.1;
  }

-- words with a fault that was told
pub words_fault : {F S O E : Type 0} (m : Means F S O E) (words : List (List ℕ)) (first last : Stand F O E) (fault : LintFault) (status : ℕ) → IsLintFault words fault
    → EndsInFault m first last fault status ⊎ EndsInFault m first last faults.Memory status → EndsWords m words first last status
words_fault m words first last fault status is (inl ends) = of_fault fault is ends
words_fault m words first last fault status is (inr ends) = of_fault faults.Memory (inr refl) ends

-- a system that gave no words, which was told
pub args_fault : {F S O E : Type 0} (m : Means F S O E) (args : Args) (first last : Stand F O E) (kind : ErrorKind) (status : ℕ) → args ≡ Err kind → kind ≢ OutOfMemory
    → EndsInFault m first last faults.Words status ⊎ EndsInFault m first last faults.Memory status → EndsArgs m args first last status
args_fault m args first last kind status is other (inl ends) = bad_words kind is other ends
args_fault m args first last kind status is other (inr ends) = no_room ends

module _ {F S O E : Type 0} (m : Means F S O E) (setup : LintSetup) (given names : List (List ℕ)) (first last : Stand F O E) (result : Result ℕ ToolFault) (are : given ≡ names) where
  -- after `Write` the run broke off
  pub run_breaks : result ≡ Err Write → LeavesRun m setup given first last result → FailsMidwayAt m setup names first last
  run_breaks is left = subst (λ n. FailsMidwayAt m setup n first last) are (subst (LeavesRun m setup given first last) is left)

  -- after `Memory` it ran out
  pub run_runs_out : result ≡ Err Memory → LeavesRun m setup given first last result → RunsOutAt m setup names first last
  run_runs_out is left = subst (λ n. RunsOutAt m setup n first last) are (subst (LeavesRun m setup given first last) is left)
