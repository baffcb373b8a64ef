-- What is kept of digits that have passed.
use Rattle.std.specs.Prelude.{◌≡◌, ◌+◌, ◌^◌, ℕ, List, length, min}
use Rattle.ctd_command.specs.declared.digits.DigitSummary.{DigitSummary}
use Rattle.ctd_command.specs.Integer.{digits_value, is_zero_first}

-- these digits were seen: whether there are more than one, whether the first is 0, and their number, up to one that no bound reaches
pub record Summarizes (seen : DigitSummary) (digits : List ℕ) : Type 0 where
  pub count : seen.count ≡ min (length digits) 2
  pub zero : seen.is_zero_first ≡ is_zero_first digits
  pub size : seen.size ≡ min (digits_value digits) (2 ^ 127 + 1)
