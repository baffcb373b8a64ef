-- A caller that keeps account of the bytes given so far knows which data a cursor is consistent with.
use Rattle.std.specs.Prelude.{◌≡◌, ◌≢◌, ℕ, List, [], ◌++◌, length}
use Rattle.ctd_source.specs.declared.cursor.Cursor.{Cursor}
use Rattle.ctd_source.specs.declared.source.Source.{Ghosts}
use Rattle.ctd_source.specs.declared.source.Seen.TheVariants.{Going}
use Rattle.ctd_source.specs.TestData.{TestData}
use Rattle.ctd_source.specs.Agreement.{Agrees}
use Rattle.ctd_source.specs.calls.Agreement.{known}
use Rattle.ctd_source.specs.calls.Consistency.{IsConsistentWith, IsAtStart}
use Rattle.ctd_source.specs.calls.SourceReads.{state_of, source, BorrowSame, ReadsOn, MovesPast}
use Rattle.ctd_source.specs.SourceReads.{GaveBytes}

module _ {R : Type 0} {G : Ghosts R} where
  -- since it was at first, the source of a cursor gave these bytes; the cursor took them all, and is consistent with them
  pub record HasReceived (first : R) (given : List ℕ) (c : Cursor R G) : Type 0 where
    pub gave : GaveBytes G first (source c) given
    pub taken : (state_of c).taken ≡ length given
    pub stands : IsConsistentWith (known given (state_of c).seen (state_of c).limit) (state_of c)

  -- a cursor went on: its source gave more, and P is so of all data under its limit that agree with all that was given and seen
  pub record AdvancesSuchThat (old new : Cursor R G) (P : TestData → Type 0) : Type 0 where
    pub more : List ℕ
    pub same_reference : BorrowSame old new
    pub limit : (state_of new).limit ≡ (state_of old).limit
    pub final : (state_of old).seen ≢ Going → (more ≡ []) × ((state_of new).seen ≡ (state_of old).seen)
    pub follows : (first : R) (given : List ℕ) → HasReceived first given old → HasReceived first (given ++ more) new
    pub holds : (first : R) (given : List ℕ) → HasReceived first given old → (d : TestData) → d.limit ≡ (state_of new).limit → Agrees (given ++ more) (state_of new).seen d → P d

-- a cursor at the start was given nothing
abbrev pub StartReceivesNothing : {R : Type 0} (G : Ghosts R) → Type 0
StartReceivesNothing {R} G = (c : Cursor R G) (limit : ℕ) → IsAtStart limit (state_of c) →
    ((d : TestData) → d.limit ≡ limit → IsConsistentWith d (state_of c)) → HasReceived (source c) [] c

-- as it reads on, it was given more
abbrev pub ReadingReceivesMore : {R : Type 0} (G : Ghosts R) → Type 0
ReadingReceivesMore {R} G = (first : R) (given : List ℕ) (old new : Cursor R G) → HasReceived first given old → (r : ReadsOn old new) → HasReceived first (given ++ r.more) new

-- as it moves on, it was given the same
abbrev pub MovingReceivesNoMore : {R : Type 0} (G : Ghosts R) → Type 0
MovingReceivesNoMore {R} G = (first : R) (given : List ℕ) (n : ℕ) (old new : Cursor R G) → HasReceived first given old → MovesPast n old new → HasReceived first given new

-- and it is consistent with all data under its limit that agree with what was given and seen
abbrev pub AgreeingDataAreConsistent : {R : Type 0} (G : Ghosts R) → Type 0
AgreeingDataAreConsistent {R} G = (first : R) (given : List ℕ) (c : Cursor R G) → HasReceived first given c →
    (d : TestData) → d.limit ≡ (state_of c).limit → Agrees given (state_of c).seen d → IsConsistentWith d (state_of c)
