-- The status that a list of traps asks for.
use Rattle.ctd_lint_report.proofs.Common.{Bool, LintKind, LintSetup, List, Trap, TrapList, ap, if◌then◌else◌, is_open, list_any, verdict_status, ◌∙◌, ◌≡◌}

-- the status of a list, by whether some of its traps are open
pub status_of_list : (setup : LintSetup) (list : TrapList) (traps : List Trap) (ignored : List LintKind) (open_ : Bool)
    → traps ≡ list.traps.items → ignored ≡ setup.ignored.items → open_ ≡ list_any (λ t. is_open ignored t.kind) traps
    → (if open_ then 1 else 0) ≡ verdict_status setup list
status_of_list setup list traps ignored open_ traps_are ignored_is is =
    ap (λ (b : Bool). if b then 1 else 0)
    (is ∙ ap (λ (i : List LintKind). list_any (λ t. is_open i t.kind) traps) ignored_is ∙ ap (λ (ts : List Trap). list_any (λ t. is_open setup.ignored.items t.kind) ts) traps_are)
