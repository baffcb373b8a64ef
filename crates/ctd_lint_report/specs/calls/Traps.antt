-- The lines of traps, and the line that tells of verdicts.
use Rattle.std.specs.Prelude.{ℕ, Bool, true, false, not, ◌||◌, ◌&&◌, ◌+◌, List, [], ◌∷◌, ◌++◌, codes, Option, Some, None, if◌then◌else◌, nat_eq}
use Rattle.ctd_lint_report.specs.Prelude.{CommandList, Form, HasEachTrap, LintKind, LintSetup, Place, Preset, Trap, TrapKind, TrapList, decimal, faults_of, list_any}
use Rattle.ctd_lint_report.specs.calls.Kinds.{is_element, is_ignored, is_shape, is_unconditional, trap_name}
use Rattle.ctd_lint_report.specs.calls.Text.{trap_entry, verdict_entry}
use Rattle.ctd_lint_report.specs.declared.setup.Form.TheVariants as forms

-- These are all places at which a run of a program may stop by a fault of a value.
abbrev pub AreTraps : CommandList → List Preset → TrapList → Type 0
AreTraps program presets trap_list = HasEachTrap program presets (faults_of trap_list.traps.items)

-- whether two places are the same
abbrev pub is_same_place : Place → Place → Bool
is_same_place p q = nat_eq p.line q.line && nat_eq p.column q.column

-- whether traps of a kind are shown: not where they are left out
abbrev pub is_kind_shown : LintSetup → List ℕ → Bool
is_kind_shown setup name = not (is_ignored setup.ignored.items name)

-- whether a trap is shown: not where a line of a finding tells it
abbrev pub is_shown : LintSetup → (Trap → Bool) → Trap → Bool
is_shown setup told t = is_kind_shown setup (trap_name t.kind) && not (told t)

-- the traps that are shown
abbrev pub kept_traps : LintSetup → (Trap → Bool) → List Trap → List Trap
kept_traps setup told [] = []
kept_traps setup told (t ∷ rest) = if is_shown setup told t then t ∷ kept_traps setup told rest else kept_traps setup told rest

-- what is written of each of some traps
abbrev pub traps_lines : Form → List ℕ → (Trap → Option (List ℕ)) → List Trap → List ℕ
traps_lines form file reason [] = []
traps_lines form file reason (t ∷ rest) = trap_entry form file (reason t) t ++ traps_lines form file reason rest

-- whether some traps are neither of elements nor of arrays
abbrev pub some_unconditional : List Trap → Bool
some_unconditional traps = list_any (λ t. is_unconditional t.kind) traps

-- whether some are of elements
abbrev pub some_element : List Trap → Bool
some_element traps = list_any (λ t. is_element t.kind) traps

-- whether some are of arrays in UNIQUE
abbrev pub some_shape : List Trap → Bool
some_shape traps = list_any (λ t. is_shape t.kind) traps

-- under which condition, by whether elements and arrays are left
abbrev pub condition_text : Bool → Bool → List ℕ
condition_text false false = []
condition_text true false = codes ", if elements have values where they are read"
condition_text false true = codes ", if arrays in UNIQUE have values at the same indices"
condition_text true true = codes ", if elements have values where they are read, and arrays in UNIQUE at the same indices"

-- whether a place is that of the trap before, if there is one
abbrev pub is_place_before : Option Place → Place → Bool
is_place_before None p = false
is_place_before (Some q) p = is_same_place q p

-- how many more places traps have; those one after the other at one place count once
abbrev pub places_behind : Option Place → List Trap → ℕ
places_behind before [] = 0
places_behind before (t ∷ rest) = (if is_place_before before t.place then 0 else 1) + places_behind (Some t.place) rest

-- that so many places may stop a run
abbrev pub places_text : ℕ → List ℕ
places_text count = codes "places that may stop a run without a verdict: at most " ++ decimal count

-- that each data file gets a verdict, under a condition
abbrev pub every_text : List ℕ → List ℕ
every_text condition = codes "every data file gets a verdict" ++ condition

-- what these traps say of verdicts
abbrev pub verdict_text : List Trap → List ℕ
verdict_text traps = if some_unconditional traps then places_text (places_behind None traps) else every_text (condition_text (some_element traps) (some_shape traps))

-- whether verdicts are told of: where it is asked for, and always as JSON
abbrev pub tells_verdict : Form → Bool → Bool
tells_verdict forms.Text asked = asked
tells_verdict forms.Json asked = true

-- what a report says besides traps and verdicts: the lines of findings, the status that these ask for, whether they tell a trap too, the reason of each trap, and the lines that stand behind the traps
pub record Remarks : Type 0 where
  pub lines : List ℕ
  pub status : ℕ
  pub told : Trap → Bool
  pub reason : Trap → Option (List ℕ)
  pub notes : List ℕ

-- what is written of the traps of a program: a line for each that is shown, what is told behind them, and the last line, if verdicts are told of
abbrev pub verdict_lines : List ℕ → LintSetup → Remarks → TrapList → List ℕ
verdict_lines file setup remarks list =
    traps_lines setup.form file remarks.reason (kept_traps setup remarks.told list.traps.items) ++ (remarks.notes ++ (if tells_verdict setup.form setup.verdicts then verdict_entry setup.form file (verdict_text list.traps.items) else []))

-- whether traps of a kind leave open whether each data file gets a verdict: not where they are of elements or arrays, and --ignore accepts them
abbrev pub is_open : List LintKind → TrapKind → Bool
is_open ignored kind = is_unconditional kind || not (is_ignored ignored (trap_name kind))

-- the status that --verdicts asks for: 0 where each data file gets a verdict, be it under conditions that --ignore accepts, else 1
abbrev pub verdict_status : LintSetup → TrapList → ℕ
verdict_status setup list = if list_any (λ t. is_open setup.ignored.items t.kind) list.traps.items then 1 else 0
