-- Numbers as people write them: `10^9`, `2^31-1`.
use Rattle.std.specs.Prelude.{ℕ, zero, suc, ℤ, pos, negsuc, ◌^◌, ◌&&◌, List, [], ◌++◌, codes, Option, Some, None, if◌then◌else◌, nat_eq, nat_le}
use Rattle.ctd_lint_report.specs.Prelude.{Form, decimal, signed_decimal}
use Rattle.ctd_lint_report.specs.declared.setup.Form.TheVariants as forms

-- the exponent with which a base gives a number: below a limit, and no less than a least one
abbrev pub exponent_below : ℕ → ℕ → ℕ → ℕ → Option ℕ
exponent_below zero least base n = None
exponent_below (suc k) least base n = if nat_le least k && nat_eq (base ^ k) n then Some k else exponent_below k least base n

-- a power with what stands behind it, if there is an exponent, else another text
abbrev pub power_or : ℕ → List ℕ → Option ℕ → List ℕ → List ℕ
power_or base behind None other = other
power_or base behind (Some k) other = decimal base ++ codes "^" ++ decimal k ++ behind

-- a number: from 10^6 and 2^20 on as a power of ten or two where it is one, and by its successor where that is one, else in digits
abbrev pub natural_text : List ℕ → ℕ → List ℕ
natural_text less n =
    power_or 10 [] (exponent_below 128 6 10 n) (power_or 2 [] (exponent_below 128 20 2 n)
    (power_or 10 less (exponent_below 128 6 10 (suc n)) (power_or 2 less (exponent_below 128 20 2 (suc n)) (decimal n))))

-- the same of a number that may be negative
abbrev pub integer_text : ℤ → List ℕ
integer_text (pos n) = natural_text (codes "-1") n
integer_text (negsuc n) = codes "-" ++ natural_text (codes "+1") (suc n)

-- what is written of a number: as JSON its digits
abbrev pub integer_entry : Form → ℤ → List ℕ
integer_entry forms.Text z = integer_text z
integer_entry forms.Json z = signed_decimal z
