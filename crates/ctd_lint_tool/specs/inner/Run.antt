-- What linting programs leaves.
-- Used only by the proofs of this crate.
use Rattle.std.specs.Prelude.{ℕ, List, [], Result, Ok, Err}
use Rattle.ctd_report.specs.declared.written.ToolFault.{ToolFault}
use Rattle.ctd_report.specs.declared.written.ToolFault.TheVariants.{Memory, Write}
use Rattle.ctd_lint_report.specs.declared.setup.LintSetup.{LintSetup}
use Rattle.ctd_lint_tool.specs.calls.Run.{FailsMidwayAt, Lints, Means, RunsOutAt, Stand}

-- what linting the programs of these names leaves
abbrev pub LeavesRun : {F S O E : Type 0} → Means F S O E → LintSetup → List (List ℕ) → Stand F O E → Stand F O E → Result ℕ ToolFault → Type 0
LeavesRun m setup names first last (Ok status) = Lints m setup names first [] status last
LeavesRun m setup names first last (Err Write) = FailsMidwayAt m setup names first last
LeavesRun m setup names first last (Err Memory) = RunsOutAt m setup names first last
