-- What a check found, for all data that its source may have had.
use Rattle.std.specs.Prelude.{◌≡◌, ◌+◌, ◌≤◌, ℕ, List, length}
use Rattle.ctd_source.specs.declared.source.Source.{Ghosts}
use Rattle.ctd_source.specs.declared.limits.TheConstants.{WINDOW}
use Rattle.ctd_source.specs.TestData.{TestData}
use Rattle.ctd_source.specs.Agreement.{Agrees}
use Rattle.ctd_source.specs.SourceReads.{GaveBytes}
use Rattle.ctd_outcome.specs.declared.outcome.Checked.{Checked}
use Rattle.ctd_program.specs.declared.limits.Limits.{Limits}
use Rattle.ctd_check.specs.Run.{Meaning}
use Rattle.ctd_check.specs.calls.Run.{Finds}

-- in a call a source gave these bytes, as many as were taken; outcome, steps and consumed are the meaning on all data under the limit that agree with them and with what was seen of the end
pub record FindsMeaning {D : Type 0} (G : Ghosts D) (old new : D) (limits : Limits) (meaning_on : TestData → Meaning) (checked : Checked) : Type 0 where
  pub given : List ℕ
  pub gave : GaveBytes G old new given
  pub taken : checked.taken ≡ length given
  pub finds : (d : TestData) → d.limit ≡ limits.bytes → Agrees given checked.seen d → Finds checked (meaning_on d)

-- all that was consumed was taken, and no more than a window ahead
pub record IsAhead (checked : Checked) : Type 0 where
  pub behind : checked.consumed ≤ checked.taken
  pub ahead : checked.taken ≤ checked.consumed + WINDOW
