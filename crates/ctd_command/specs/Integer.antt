-- The integer at the front of some bytes.
use Rattle.std.specs.Prelude.{ℕ, ◌+◌, Bool, not, ◌&&◌, nat_eq, nat_lt, List, length, drop, get_or, ℤ, pos, neg_ℤ, int_le, Option, Some, None, Result, Err, if◌then◌else◌}
use Rattle.std.specs.List.{take_while}
use Rattle.std.specs.Option.{ok_or}
use Rattle.std.specs.Char.{is_ascii_digit}
pub use Rattle.ctd_token.specs.Cut.{digits_value}
use Rattle.ctd_outcome.specs.declared.reason.Reason.{Reason}
use Rattle.ctd_outcome.specs.declared.reason.Reason.TheVariants.{ExpectedInt, LeadingZero, MinusZero, OutOfRange}

-- whether a minus comes first
abbrev pub is_minus : List ℕ → Bool
is_minus rest = nat_eq (get_or rest 0 0) 45

-- how many bytes the sign takes
abbrev pub sign_len : List ℕ → ℕ
sign_len rest = if is_minus rest then 1 else 0

-- the digits after the sign
abbrev pub digits_of : List ℕ → List ℕ
digits_of rest = take_while is_ascii_digit (drop (sign_len rest) rest)

-- how many bytes the longest prefix of the form -?[0-9]* has
abbrev pub prefix_len_of : List ℕ → ℕ
prefix_len_of rest = sign_len rest + length (digits_of rest)

-- whether the first digit is 0
abbrev pub is_zero_first : List ℕ → Bool
is_zero_first digits = nat_eq (get_or digits 0 0) 48

-- the number, negative after a minus
abbrev pub with_sign : Bool → ℕ → ℤ
with_sign negative n = if negative then neg_ℤ (pos n) else pos n

-- the number, where it lies in the interval
abbrev pub in_interval : ℤ → ℤ → ℤ → Option ℤ
in_interval least most z = if int_le least z && int_le z most then Some z else None

-- the value of a prefix within an interval, or why it is rejected
abbrev pub judge : ℤ → ℤ → Bool → List ℕ → Result ℤ Reason
judge least most negative digits =
    if nat_eq (length digits) 0 then Err ExpectedInt
    else if is_zero_first digits && not negative && nat_lt 1 (length digits) then Err LeadingZero
    else if is_zero_first digits && negative then Err MinusZero
    else ok_or (in_interval least most (with_sign negative (digits_value digits))) OutOfRange
