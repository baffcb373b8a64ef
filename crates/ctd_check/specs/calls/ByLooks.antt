-- INT and blanks look by look: each byte is seen, and passed where it fits. STRING, which is defined so, by the visible bytes.
use Rattle.std.specs.Prelude.{◌≡◌, ℕ, ◌+◌, Bool, true, false, ⊤, nat_eq, List, [], ◌∷◌, length, ℤ, Some, None, Ok, Err, if◌then◌else◌}
use Rattle.std.specs.Char.{is_ascii_digit}
use Rattle.std.specs.List.{common_prefix_len, take_while}
use Rattle.ctd_source.specs.declared.spot.LookFault.{LookFault}
use Rattle.ctd_source.specs.TestData.{TestData, next_byte, is_byte}
use Rattle.ctd_outcome.specs.declared.reason.Reason.TheVariants.{StringMismatch}
use Rattle.ctd_value.specs.Fault.{fault_of_look}
use Rattle.ctd_command.specs.State.{State, Effect, done, rejected, faulty, Act, ◌>>=◌, return, reject, pass, see_next, see_visible, pass_longest}
use Rattle.ctd_command.specs.Integer.{judge}
use Rattle.ctd_command.specs.Commands.{decide, integer, match_bytes}
use Rattle.ctd_command.specs.Blanks.{is_blank, skip_blanks}

-- the state one byte on
abbrev pub past_one : State → State
past_one s = record { offset = s.offset + 1; store = s.store; mode = s.mode }

-- an effect that answers bytes, with one more byte before them
abbrev pub prepend_byte : ℕ → Effect (List ℕ) → Effect (List ℕ)
prepend_byte b (done bytes after) = done (b ∷ bytes) after
prepend_byte b (rejected reason consumed) = rejected reason consumed
prepend_byte b (faulty fault consumed) = faulty fault consumed

-- bytes that pass a test are passed one after the other, up to another byte, the end of the data or a fault; the answer is these bytes
pub data PassesWhile (d : TestData) (test : ℕ → Bool) : State → Effect (List ℕ) → Type 0 where
  byte_fits : {s : State} {b : ℕ} {a : Effect (List ℕ)} → next_byte d s.offset ≡ Ok (Some b) → test b ≡ true → PassesWhile d test (past_one s) a → PassesWhile d test s (prepend_byte b a)
  other_byte : {s : State} {b : ℕ} → next_byte d s.offset ≡ Ok (Some b) → test b ≡ false → PassesWhile d test s (done [] s)
  no_byte : {s : State} → next_byte d s.offset ≡ Ok None → PassesWhile d test s (done [] s)
  look_fails : {s : State} {fault : LookFault} → next_byte d s.offset ≡ Err fault → PassesWhile d test s (faulty (fault_of_look fault) s.offset)

-- the visible bytes that pass a test, up to the first that does not
abbrev pub pass_visible : (ℕ → Bool) → Act (List ℕ)
pass_visible test = pass_longest (λ rest. length (take_while test rest)) (λ rest. return (take_while test rest))

-- after the sign, digits are passed as they are seen, and judged
abbrev pub digits_by_looks : ℤ → ℤ → Bool → Act ℤ
digits_by_looks least most negative = do
  digits ← pass_visible is_ascii_digit
  decide (judge least most negative digits)

-- an integer: a minus is passed, if one is seen, and then the digits
abbrev pub integer_by_looks : ℤ → ℤ → Act ℤ
integer_by_looks least most = do
  next ← see_next
  if is_byte 45 next then (pass 1 >>= λ _. digits_by_looks least most true) else digits_by_looks least most false

-- blanks, whichever they are
abbrev pub blanks_by_looks : Act ⊤
blanks_by_looks = do
  _ ← pass_visible is_blank
  return tt

-- the next byte is seen, and it is not the one that is wanted, or there is none
abbrev pub mismatch : Act ⊤
mismatch = do
  _ ← see_next
  reject StringMismatch

-- so many bytes of a string are passed; where these are not all, the next one does not match
abbrev pub match_front : List ℕ → ℕ → Act ⊤
match_front wanted n = do
  _ ← pass n
  if nat_eq n (length wanted) then return tt else mismatch

-- a string: of its bytes as many are passed as agree with the visible ones
abbrev pub match_visible : List ℕ → Act ⊤
match_visible wanted = do
  rest ← see_visible
  match_front wanted (common_prefix_len nat_eq wanted rest)

-- Laws.
-- to pass the visible bytes that fit is to pass bytes look by look
abbrev pub VisibleBytesAreSeen : Type 0
VisibleBytesAreSeen = (d : TestData) (test : ℕ → Bool) (s : State) → PassesWhile d test s (pass_visible test d s)

-- and look by look nothing else can be done
abbrev pub LooksHaveOneEffect : Type 0
LooksHaveOneEffect = (d : TestData) (test : ℕ → Bool) (s : State) (a : Effect (List ℕ)) → PassesWhile d test s a → a ≡ pass_visible test d s

-- so these do what their definitions by the visible bytes say
abbrev pub IntegersGoByLooks : Type 0
IntegersGoByLooks = (least most : ℤ) (d : TestData) (s : State) → integer least most d s ≡ integer_by_looks least most d s

-- blanks
abbrev pub BlanksGoByLooks : Type 0
BlanksGoByLooks = (d : TestData) (s : State) → skip_blanks d s ≡ blanks_by_looks d s

-- and a string, byte by byte, does what is said of the visible bytes
abbrev pub StringsGoByVisibleBytes : Type 0
StringsGoByVisibleBytes = (bytes : List ℕ) (d : TestData) (s : State) → match_bytes bytes d s ≡ match_visible bytes d s
