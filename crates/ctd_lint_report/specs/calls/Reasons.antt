-- Why a trap is one: the variable that is to blame, and the numbers that it may be.
use Rattle.std.specs.Prelude.{ℕ, ℤ, List, [], ◌++◌, codes, Option, Some, None, if◌then◌else◌, option_map}
use Rattle.ctd_lint_report.specs.Prelude.{Bor, Operand, Trap, int_eq, signed_decimal, slice_get}

-- the name of a variable by its index, if there is one
abbrev pub name_at : List (Bor (List ℕ)) → ℕ → Option (List ℕ)
name_at names index = option_map (λ name. name.now) (slice_get names index)

-- a name, or an element of the array of this name
abbrev pub operand_text : Option (List ℕ) → Operand → List ℕ
operand_text None o = []
operand_text (Some name) o = name ++ (if o.is_element then codes "[..]" else [])

-- that a number is this one
abbrev pub same_text : ℤ → List ℕ
same_text n = codes " is " ++ signed_decimal n

-- that a number is at least this one
abbrev pub least_text : ℤ → List ℕ
least_text least = codes " is only known to be at least " ++ signed_decimal least

-- that a number is at most this one
abbrev pub most_text : ℤ → List ℕ
most_text most = codes " is only known to be at most " ++ signed_decimal most

-- that a number is from one to another
abbrev pub between_text : ℤ → ℤ → List ℕ
between_text least most = codes " is only known to be from " ++ (signed_decimal least ++ (codes " to " ++ signed_decimal most))

-- what is known of a number by its least and its greatest value, if it has these
abbrev pub bounds_text : Option ℤ → Option ℤ → List ℕ
bounds_text None None = []
bounds_text (Some least) None = least_text least
bounds_text None (Some most) = most_text most
bounds_text (Some least) (Some most) = if int_eq least most then same_text least else between_text least most

-- the reason of a trap, by the names that a program has, if a variable is to blame
abbrev pub reason_text : List (Bor (List ℕ)) → Option Operand → Option (List ℕ)
reason_text names None = None
reason_text names (Some o) = Some (operand_text (name_at names o.name) o ++ bounds_text o.least o.most)

-- the same of each trap of a list
abbrev pub reason_of : List (Bor (List ℕ)) → Trap → Option (List ℕ)
reason_of names t = reason_text names t.operand
