-- The kinds of traps, and what --ignore names.
use Rattle.ctd_findings.specs.declared.kind.Kind.TheVariants as findings
use Rattle.ctd_findings.specs.declared.kind.Rank.TheVariants as ranks
use Rattle.ctd_states.specs.declared.faults.TrapKind.TheVariants as traps
use Rattle.ctd_lint_report.specs.declared.kind.LintKind.TheVariants as kinds
use Rattle.std.specs.Prelude.{ℕ, Bool, true, false, List, [], ◌∷◌, codes, Option, Some, None, if◌then◌else◌}
use Rattle.ctd_lint_report.specs.Prelude.{Kind, LintKind, Rank, TrapKind, bytes_eq, kind_named, kind_row, list_any}

-- the word of a rank
abbrev pub rank_text : Rank → List ℕ
rank_text ranks.Note = codes "note"
rank_text ranks.Warning = codes "warning"

-- all kinds of traps
abbrev pub all_traps : List TrapKind
all_traps = traps.NoValue ∷ traps.NoElement ∷ traps.WrongType ∷ traps.Overflow ∷ traps.DivisionByZero ∷ traps.BadExponent ∷ traps.BadCount ∷ traps.OtherShape ∷ []

-- the name of a kind of traps
abbrev pub trap_name : TrapKind → List ℕ
trap_name traps.NoValue = codes "no-value-here"
trap_name traps.NoElement = codes "no-element-here"
trap_name traps.WrongType = codes "wrong-type-here"
trap_name traps.Overflow = codes "overflow"
trap_name traps.DivisionByZero = codes "division-by-zero"
trap_name traps.BadExponent = codes "bad-exponent"
trap_name traps.BadCount = codes "bad-count"
trap_name traps.OtherShape = codes "other-shape"

-- what a kind of traps says, without the reason
abbrev pub trap_text : TrapKind → List ℕ
trap_text traps.NoValue = codes "may be without a value here"
trap_text traps.NoElement = codes "may have an element without a value here"
trap_text traps.WrongType = codes "may be a string here where a number is wanted, or a number where a string is wanted"
trap_text traps.Overflow = codes "may overflow"
trap_text traps.DivisionByZero = codes "may divide by zero"
trap_text traps.BadExponent = codes "may be a bad exponent"
trap_text traps.BadCount = codes "may be a bad count"
trap_text traps.OtherShape = codes "may be arrays with different indices"

-- whether a trap is that of an element without a value
abbrev pub is_element : TrapKind → Bool
is_element traps.NoElement = true
is_element _ = false

-- whether a trap is that of arrays in UNIQUE
abbrev pub is_shape : TrapKind → Bool
is_shape traps.OtherShape = true
is_shape _ = false

-- whether a trap is that of a variable without a value
abbrev pub is_valueless : TrapKind → Bool
is_valueless traps.NoValue = true
is_valueless _ = false

-- whether a trap is of a wrong type
abbrev pub is_mistyped : TrapKind → Bool
is_mistyped traps.WrongType = true
is_mistyped _ = false

-- whether a finding of a kind tells a trap of a kind too
abbrev pub is_told_kind : Kind → TrapKind → Bool
is_told_kind findings.NoValue trap = is_valueless trap
is_told_kind findings.WrongSort trap = is_mistyped trap
is_told_kind kind trap = false

-- whether a trap is neither of an element nor of arrays in UNIQUE
abbrev pub is_unconditional : TrapKind → Bool
is_unconditional traps.NoElement = false
is_unconditional traps.OtherShape = false
is_unconditional _ = true

-- the first of some kinds of traps that has this name
abbrev pub trap_named_among : List TrapKind → List ℕ → Option TrapKind
trap_named_among [] name = None
trap_named_among (k ∷ rest) name = if bytes_eq (trap_name k) name then Some k else trap_named_among rest name

-- the name of a kind of findings or of traps
abbrev pub lint_kind_name : LintKind → List ℕ
lint_kind_name (kinds.Finding kind) = (kind_row kind).name
lint_kind_name (kinds.Trap kind) = trap_name kind

-- a kind of findings, or one of traps, if there is one
abbrev pub either_kind : Option Kind → Option TrapKind → Option LintKind
either_kind (Some kind) trap = Some (kinds.Finding kind)
either_kind None (Some kind) = Some (kinds.Trap kind)
either_kind None None = None

-- the kind of findings or of traps that has this name, if there is one
abbrev pub lint_kind_named : List ℕ → Option LintKind
lint_kind_named name = either_kind (kind_named name) (trap_named_among all_traps name)

-- whether what has a kind of this name is left out
abbrev pub is_ignored : List LintKind → List ℕ → Bool
is_ignored ignored name = list_any (λ k. bytes_eq (lint_kind_name k) name) ignored
