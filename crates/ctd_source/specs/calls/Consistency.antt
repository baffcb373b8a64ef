-- The state of a cursor, and the data that it is consistent with.
use Rattle.std.specs.Prelude.{◌≡◌, ℕ, ◌+◌, ◌≤◌, Bool, true, false, List, length, take, drop, nat_lt, nat_le, ◌&&◌, slice_get, Option, None, Some, Result, Ok, Err, []}
use Rattle.ctd_source.specs.declared.spot.Spot.{Spot}
use Rattle.ctd_source.specs.declared.spot.LookFault.{LookFault}
use Rattle.ctd_source.specs.declared.spot.LookFault.TheVariants.{DataTooLong}
use Rattle.ctd_source.specs.declared.source.Seen.{Seen}
use Rattle.ctd_source.specs.declared.source.Seen.TheVariants.{Going, Ended, Broken}
use Rattle.ctd_source.specs.declared.limits.TheConstants.{WINDOW}
use Rattle.ctd_source.specs.TestData.{TestData, spot_at}

-- what a cursor has: the bytes that it holds, how many it took from its source, what was seen of the source's end, the spot of the next byte, the limit, and its fault
pub record CursorState : Type 0 where
  pub held : List ℕ
  pub taken : ℕ
  pub seen : Seen
  pub spot : Spot
  pub limit : ℕ
  pub fault : Option LookFault

-- a state is consistent with data: what is held is theirs, up to what was taken, and so are their end and the spot
pub record IsConsistentWith (d : TestData) (s : CursorState) : Type 0 where
  pub limit : d.limit ≡ s.limit
  pub taken : s.taken ≤ length d.bytes
  pub held : s.held ≡ drop s.spot.offset (take s.taken d.bytes)
  pub ended : s.seen ≡ Ended → (length d.bytes ≡ s.taken) × (d.broken ≡ false)
  pub broken : s.seen ≡ Broken → (length d.bytes ≡ s.taken) × (d.broken ≡ true)
  pub spot : s.spot ≡ spot_at d.bytes s.spot.offset

-- a cursor at the first byte, that has read nothing
pub record IsAtStart (limit : ℕ) (s : CursorState) : Type 0 where
  pub held : s.held ≡ []
  pub taken : s.taken ≡ 0
  pub seen : s.seen ≡ Going
  pub spot : s.spot ≡ record { line = 1; column = 1; offset = 0 }
  pub limit_is : s.limit ≡ limit
  pub fault : s.fault ≡ None

-- no more is taken than a window from the next byte on, and than one byte past the limit
pub record IsBounded (s : CursorState) : Type 0 where
  pub behind : s.spot.offset ≤ s.taken
  pub ahead : s.taken ≤ s.spot.offset + WINDOW
  pub limited : s.taken ≤ s.limit + 1

-- whether no end was seen
abbrev pub is_going : Seen → Bool
is_going Going = true
is_going Ended = false
is_going Broken = false

-- a cursor that is to hold n bytes has to read on
abbrev pub has_to_read : ℕ → CursorState → Bool
has_to_read n s = is_going s.seen && nat_lt (length s.held) n && nat_le s.taken s.limit

-- n more bytes, and what was taken, pass the limit
abbrev pub passes_limit : ℕ → CursorState → Bool
passes_limit n s = nat_lt s.limit s.taken && nat_lt s.limit (s.spot.offset + n)

-- the fault that an answer leaves
abbrev pub fault_after : {X : Type 0} → Result X LookFault → Option LookFault
fault_after (Ok _) = None
fault_after (Err fault) = Some fault

-- the fault again; nothing yet; too long; or the byte
abbrev pub known_answer_by : Option LookFault → Bool → Bool → Option ℕ → Option (Result (Option ℕ) LookFault)
known_answer_by (Some fault) _ _ byte = Some (Err fault)
known_answer_by None true _ byte = None
known_answer_by None false true byte = Some (Err DataTooLong)
known_answer_by None false false byte = Some (Ok byte)

-- what the next look answers, where no read has to come first
abbrev pub known_answer : CursorState → Option (Result (Option ℕ) LookFault)
known_answer s = known_answer_by s.fault (has_to_read 1 s) (passes_limit 1 s) (slice_get s.held 0)
