-- What parts of INT and STRING pass, and what is skipped.
use Rattle.std.specs.Prelude.{◌≡◌, ◌<◌, ℕ, ℤ, ◌+◌, Bool, true, false, nat_eq, List, ◌∷◌, ◌++◌, length, take, Option, Some, None, Result, Ok, Err, IsOk}
use Rattle.std.specs.List.{list_all, prefix_len, common_prefix_len}
use Rattle.std.specs.Char.{is_ascii_digit}
use Rattle.std.specs.Option.{ok_or}
use Rattle.ctd_source.specs.declared.spot.LookFault.{LookFault}
use Rattle.ctd_source.specs.TestData.{TestData, next_byte, visible}
use Rattle.ctd_command.specs.declared.digits.DigitSummary.{DigitSummary}
use Rattle.ctd_outcome.specs.declared.reason.Reason.TheVariants.{OutOfRange}
use Rattle.ctd_command.specs.Blanks.{is_blank}
use Rattle.ctd_command.specs.Integer.{is_minus, digits_of, prefix_len_of, in_interval, judge}
use Rattle.ctd_command.specs.inner.Summaries.{Summarizes}

-- bytes begin with an integer that ends before they do and has its form, so that its value alone is judged: its value and its length
pub record IsBufferedInteger (bytes : List ℕ) (value : ℤ) (size : ℕ) : Type 0 where
  pub len : size ≡ prefix_len_of bytes
  pub ends : size < length bytes
  pub judged : (least most : ℤ) → judge least most (is_minus bytes) (digits_of bytes) ≡ ok_or (in_interval least most value) OutOfRange

-- from offset p to q a minus is passed, or none where none is next, or a look has a fault
abbrev pub PassesMinus : TestData → (p q : ℕ) → Result Bool LookFault → Type 0
PassesMinus d p q (Ok true) = (q ≡ p + 1) × (visible d p ≡ 45 ∷ visible d q)
PassesMinus d p q (Ok false) = (q ≡ p) × (is_minus (visible d p) ≡ false)
PassesMinus d p q (Err fault) = (q ≡ p) × (next_byte d p ≡ Err fault)

-- what is looked at is no digit
abbrev pub IsPast : Result (Option ℕ) LookFault → Type 0
IsPast (Ok (Some byte)) = is_ascii_digit byte ≡ false
IsPast (Ok None) = Unit {0}
IsPast (Err fault) = ⊥

-- the digits end before a byte or at the end, or a look has a fault
abbrev pub StopsAt : Result (Unit {0}) LookFault → Result (Option ℕ) LookFault → Type 0
StopsAt (Ok _) next = IsPast next
StopsAt (Err fault) next = next ≡ Err fault

-- from offset p to q a row of digits is passed
pub record PassesRow (old new : DigitSummary) (d : TestData) (p q : ℕ) : Type 0 where
  pub row : List ℕ
  pub digits : list_all is_ascii_digit row ≡ true
  pub offset : q ≡ p + length row
  pub visible_is : visible d p ≡ row ++ visible d q
  pub seen : (before : List ℕ) → Summarizes old before → Summarizes new (before ++ row)

-- all of them, up to what is no digit or to a fault
pub record PassesDigits (old new : DigitSummary) (d : TestData) (p q : ℕ) (result : Result (Unit {0}) LookFault) : Type 0 where
  pub row : PassesRow old new d p q
  pub stop : StopsAt result (next_byte d q)

-- from offset p to q the first n of the wanted bytes are passed; where none are, the next byte is another one, or there is none
pub record PassesPrefix (wanted : List ℕ) (d : TestData) (p q n : ℕ) : Type 0 where
  pub offset : q ≡ p + n
  pub visible_is : visible d p ≡ take n wanted ++ visible d q
  pub seen : IsOk (next_byte d p)
  pub differs : n ≡ 0 → common_prefix_len nat_eq wanted (visible d p) ≡ 0

-- a run of them is passed, or a look has a fault
abbrev pub PassesSome : List ℕ → TestData → (p q : ℕ) → Result ℕ LookFault → Type 0
PassesSome wanted d p q (Ok n) = PassesPrefix wanted d p q n
PassesSome wanted d p q (Err fault) = (q ≡ p) × (next_byte d p ≡ Err fault)

-- from offset p to q all blanks are passed, up to another byte or the end, or to a fault
abbrev pub PassesBlanks : TestData → (p q : ℕ) → Result (Unit {0}) LookFault → Type 0
PassesBlanks d p q (Ok _) = (q ≡ p + prefix_len is_blank (visible d p)) × IsOk (next_byte d q)
PassesBlanks d p q (Err fault) = (q ≡ p + prefix_len is_blank (visible d p)) × (next_byte d q ≡ Err fault)

-- from offset p to q some of them are passed
abbrev pub PassesSomeBlanks : TestData → (p q : ℕ) → Type 0
PassesSomeBlanks d p q = p + prefix_len is_blank (visible d p) ≡ q + prefix_len is_blank (visible d q)
