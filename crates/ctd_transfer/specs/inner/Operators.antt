-- What operations give of numbers of two ranges.
use Rattle.std.specs.Prelude.{◌≡◌, ℕ, true, Bool, List, Option, Some, ℤ, ◌+ℤ◌, ◌-ℤ◌, ◌*ℤ◌, pos, neg_ℤ, length, Result, Ok, Err}
use Rattle.ctd_transfer.specs.Prelude.{Add', Computed, Covers, Div', Element', Expr, Fault, IsAmong, IsIn, MayBe, Minus', Mul', Name, Numeral, Operator, PossibleResult, PossibleValues, Pow', Range, Rem'}
use Rattle.ctd_transfer.specs.Prelude.{Strlen', Sub', Text, Value, in_range, number, power, quotient, remainder, text}
use Rattle.ctd_store.specs.declared.value.Value.TheVariants as values
use Rattle.ctd_transfer.specs.declared.result.Operator.TheVariants as operators
use Rattle.ctd_value.specs.Fault.{◌>>=◌}

-- a number or a fault is among the possible ones, where so many steps are left
abbrev pub IsComputed : PossibleResult → ℕ → Result ℤ Fault → Type 0
IsComputed f k (Ok z) = MayBe f.values k (values.Int z)
IsComputed f k (Err fault) = IsAmong f.faults fault

-- what an operator gives of two numbers
abbrev pub operate : Operator → ℤ → ℤ → Result ℤ Fault
operate operators.Sum x y = in_range (x +ℤ y)
operate operators.Difference x y = in_range (x -ℤ y)
operate operators.Product x y = in_range (x *ℤ y)
operate operators.Quotient x y = quotient x y
operate operators.Remainder x y = remainder x y
operate operators.Power x y = power x y

-- the operator between the operands of an expression, if it has two
abbrev pub HasOperator : Operator → Expr → Type 0
HasOperator o (Add' p a q b) = o ≡ operators.Sum
HasOperator o (Sub' p a q b) = o ≡ operators.Difference
HasOperator o (Mul' p a q b) = o ≡ operators.Product
HasOperator o (Div' p a q b) = o ≡ operators.Quotient
HasOperator o (Rem' p a q b) = o ≡ operators.Remainder
HasOperator o (Pow' p a q b) = o ≡ operators.Power
HasOperator o (Numeral n) = Unit {0}
HasOperator o (Text t) = Unit {0}
HasOperator o (Name name) = Unit {0}
HasOperator o (Element' p name shape row) = Unit {0}
HasOperator o (Strlen' p e) = Unit {0}
HasOperator o (Minus' p e) = Unit {0}

-- what an operator gives of numbers of two ranges
abbrev pub IsWithinRanges : Operator → Range → Range → Computed → Type 0
IsWithinRanges o a b c = (n : ℕ) (x y : ℤ) → IsIn a n x → IsIn b n y → Covers c n (operate o x y)

-- of two of these possible values: either one is no number, which is a fault that is listed, or both are of the ranges that are given
pub record AreOperands (a b : PossibleValues) (found : Option (Range × Range) × Bool) : Type 0 where
  pub left_text : (bytes : List ℕ) (k : ℕ) → MayBe a k (values.Text bytes) → found.1 ≡ true
  pub right_text : (bytes : List ℕ) (k : ℕ) → MayBe b k (values.Text bytes) → found.1 ≡ true
  pub numbers : (x y : ℤ) (k : ℕ) → MayBe a k (values.Int x) → MayBe b k (values.Int y) → (r : Range × Range) × (found.0 ≡ Some r) × IsIn r.0 k x × IsIn r.1 k y

-- what an operation gives of numbers of these ranges
abbrev pub Operates : Operator → Option (Range × Range) → PossibleResult → Type 0
Operates o numbers f = (r : Range × Range) → numbers ≡ Some r → (k : ℕ) (x y : ℤ) → IsIn r.0 k x → IsIn r.1 k y → IsComputed f k (operate o x y)

-- a value that has to be a number, negated
abbrev pub negated : Result Value Fault → Result Value Fault
negated r = do
  v ← r
  x ← number v
  z ← in_range (neg_ℤ x)
  Ok (values.Int z)

-- the length of a value that has to be a string
abbrev pub measured : Result Value Fault → Result Value Fault
measured r = do
  v ← r
  bytes ← text v
  Ok (values.Int (pos (length bytes)))
