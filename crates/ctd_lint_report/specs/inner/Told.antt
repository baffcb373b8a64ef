-- The traps that findings tell too.
use Rattle.std.specs.Prelude.{Bool, List, ◌&&◌}
use Rattle.ctd_lint_report.specs.Prelude.{Trap, list_any}
use Rattle.ctd_lint_report.specs.calls.Kinds.{is_told_kind}
use Rattle.ctd_lint_report.specs.calls.Traps.{is_same_place}
use Rattle.ctd_lint_report.specs.declared.told.Told.{Told}

-- whether a finding tells a trap too
abbrev pub tells_so : Told → Trap → Bool
tells_so told t = is_same_place told.place t.place && is_told_kind told.kind t.kind

-- whether one of some findings does
abbrev pub is_among : List Told → Trap → Bool
is_among told t = list_any (λ x. tells_so x t) told
