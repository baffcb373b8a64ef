-- What callers see of a cursor.
-- Used only by per-call contracts and laws.
use Rattle.std.specs.Prelude.{◌≡◌, ◌≢◌, ℕ, ◌+◌, ◌<◌, Bool, true, List, ◌++◌, length, drop, slice_get, Option, None, Some, ◌⊎◌, Result, Ok, Err, IfSome, IfOk, IsFalse}
use Rattle.ctd_source.specs.declared.spot.LookFault.{LookFault}
use Rattle.ctd_source.specs.declared.spot.LookFault.TheVariants.{Read}
use Rattle.ctd_source.specs.declared.cursor.Cursor.{Cursor}
use Rattle.ctd_source.specs.declared.source.Source.{Ghosts}
use Rattle.ctd_source.specs.declared.source.Seen.TheVariants.{Going, Broken}
use Rattle.ctd_source.specs.declared.limits.TheConstants.{WINDOW}
use Rattle.ctd_source.specs.calls.Consistency.{CursorState, IsConsistentWith, IsBounded, has_to_read, fault_after, known_answer}
use Rattle.ctd_source.specs.TestData.{TestData, look, first_of, is_byte}
use Rattle.ctd_source.specs.SourceReads.{GaveBytes}
use denote.Ref.{Bor, MutBor}

-- the bytes that are lent
abbrev pub bytes_behind : Result (Bor (List ℕ)) LookFault → Result (List ℕ) LookFault
bytes_behind (Ok bytes) = Ok bytes.now
bytes_behind (Err fault) = Err fault

-- whether the next byte is this one, or the fault that came in its place
abbrev pub whether_byte : ℕ → Result (Option ℕ) LookFault → Result Bool LookFault
whether_byte wanted (Ok next) = Ok (is_byte wanted next)
whether_byte wanted (Err fault) = Err fault

module _ {R : Type 0} {G : Ghosts R} where
  -- the state of a cursor
  abbrev pub state_of : Cursor R G → CursorState
  state_of c = record { held = c.window.items; taken = c.taken; seen = c.intake.seen; spot = c.spot; limit = c.limit; fault = c.fault }

  -- the source that a cursor reads, as it is now
  abbrev pub source : Cursor R G → R
  source c = c.intake.source.now

  -- the source that it borrows is the one behind this reference
  abbrev pub Borrows : Cursor R G → MutBor R → Type 0
  Borrows c reference = c.intake.source.ghost_name ≡ reference.ghost_name

  -- both borrow one source
  abbrev pub BorrowSame : Cursor R G → Cursor R G → Type 0
  BorrowSame old new = new.intake.source.ghost_name ≡ old.intake.source.ghost_name

  -- a cursor read on: it holds at its end just what its source gave, and was consistent before with all data that it is consistent with now
  pub record ReadsOn (old new : Cursor R G) : Type 0 where
    pub more : List ℕ
    pub held : (state_of new).held ≡ (state_of old).held ++ more
    pub taken : (state_of new).taken ≡ (state_of old).taken + length more
    pub gave : GaveBytes G (source old) (source new) more
    pub spot : (state_of new).spot ≡ (state_of old).spot
    pub limit : (state_of new).limit ≡ (state_of old).limit
    pub same_reference : BorrowSame old new
    pub stood : (d : TestData) → IsConsistentWith d (state_of new) → IsConsistentWith d (state_of old)

  -- a cursor changed only as looks at its next byte change it: nothing is passed; its source is left alone where a byte is held, the end was seen or the limit is passed; after a fault nothing changes; and the fault is Read only where a read failed
  pub record Peeks (old new : Cursor R G) : Type 0 where
    pub reads : ReadsOn old new
    pub bounded : IsBounded (state_of new)
    pub idle : IsFalse (has_to_read 1 (state_of old)) → source new ≡ source old
    pub again : (fault : LookFault) → (state_of old).fault ≡ Some fault → state_of new ≡ state_of old
    pub read : (state_of new).fault ≡ Some Read → ((state_of old).fault ≡ Some Read) ⊎ (((state_of old).seen ≡ Going) × ((state_of new).seen ≡ Broken))

  -- a cursor moved past n of the bytes that it held, and is consistent with all data that it was consistent with
  pub record MovesPast (n : ℕ) (old new : Cursor R G) : Type 0 where
    pub held : (state_of new).held ≡ drop n (state_of old).held
    pub offset : (state_of new).spot.offset ≡ (state_of old).spot.offset + n
    pub taken : (state_of new).taken ≡ (state_of old).taken
    pub limit : (state_of new).limit ≡ (state_of old).limit
    pub fault : (state_of new).fault ≡ (state_of old).fault
    pub seen : (state_of new).seen ≡ (state_of old).seen
    pub source_is : source new ≡ source old
    pub same_reference : BorrowSame old new
    pub stands : (d : TestData) → IsConsistentWith d (state_of old) → IsConsistentWith d (state_of new)

  -- what a look of a cursor at its next byte answers, and what it leaves
  pub record GivesByte (old new : Cursor R G) (result : Result (Option ℕ) LookFault) : Type 0 where
    pub reads : ReadsOn old new
    pub bounded : IsBounded (state_of new)
    pub answer : (state_of old).fault ≡ None → (d : TestData) → IsConsistentWith d (state_of new) → result ≡ first_of (look d (state_of new).spot.offset 1)
    pub fault : (state_of new).fault ≡ fault_after result
    pub again : IfSome (state_of old).fault (λ fault. (result ≡ Err fault) × (state_of new ≡ state_of old))
    pub idle : IsFalse (has_to_read 1 (state_of old)) → source new ≡ source old
    pub read : result ≡ Err Read → ((state_of old).fault ≡ Some Read) ⊎ (((state_of old).seen ≡ Going) × ((state_of new).seen ≡ Broken))
    pub held : IfOk result (λ byte. byte ≡ slice_get (state_of new).held 0)
    pub within : IfOk result (λ byte. IfSome byte (λ _. (state_of new).spot.offset < (state_of new).limit))
    pub settles : known_answer (state_of new) ≡ Some result
    pub known : IfSome (known_answer (state_of old)) (λ answer. result ≡ answer)

  -- a cursor looked at its next byte, told whether it is this one, and moved past it where it is
  pub record PassesIfEqual (wanted : ℕ) (old new : Cursor R G) (result : Result Bool LookFault) : Type 0 where
    pub next : Result (Option ℕ) LookFault
    pub looked : Cursor R G
    pub looks : GivesByte old looked next
    pub answer : result ≡ whether_byte wanted next
    pub moves : result ≡ Ok true → MovesPast 1 looked new
    pub stays : result ≢ Ok true → new ≡ looked

  -- what a window of a cursor gives, and what it leaves
  pub record GivesWindow (old new : Cursor R G) (result : Result (Bor (List ℕ)) LookFault) : Type 0 where
    pub reads : ReadsOn old new
    pub bounded : IsBounded (state_of new)
    pub answer : (state_of old).fault ≡ None → (d : TestData) → IsConsistentWith d (state_of new) → bytes_behind result ≡ look d (state_of new).spot.offset WINDOW
    pub held : IfOk result (λ bytes. bytes.now ≡ (state_of new).held)
    pub fault : (state_of new).fault ≡ fault_after result
    pub again : IfSome (state_of old).fault (λ fault. (result ≡ Err fault) × (state_of new ≡ state_of old))
    pub idle : IsFalse (has_to_read WINDOW (state_of old)) → source new ≡ source old
    pub read : result ≡ Err Read → ((state_of old).fault ≡ Some Read) ⊎ (((state_of old).seen ≡ Going) × ((state_of new).seen ≡ Broken))
