-- How two values compare.
use Rattle.std.specs.Prelude.{◌≡◌, ℕ, ℤ, List, Ok, length, pos}
use Rattle.ctd_transfer.specs.Prelude.{AbstractState, Bindings, Compare, Context, Evaluation, ExprTree, MayBe, Operator, PossibleValues, Relates, StateStands, Value, in_range, val}
use Rattle.ctd_transfer.specs.calls.Values.{IsEvaluated}
use Rattle.ctd_transfer.specs.inner.Operators.{operate}
use Rattle.ctd_store.specs.declared.value.Value.TheVariants as values

-- two values are of one kind, and compare so if they are integers
abbrev pub MayCompare : Compare → Value → Value → Type 0
MayCompare by (values.Int x) (values.Int y) = Relates by x y
MayCompare by (values.Int x) (values.Text bytes) = ⊥
MayCompare by (values.Text bytes) (values.Int x) = ⊥
MayCompare by (values.Text bytes) (values.Text others) = Unit {0}

-- the state where an expression has a value that compares so with one of some values
abbrev pub Cuts : Context → AbstractState → ExprTree → Compare → PossibleValues → AbstractState → Type 0
Cuts g st e by possible after = (k : ℕ) (h : Bindings) (v w : Value) → StateStands g st k h → val e h ≡ Ok v → MayBe possible k w → MayCompare by v w → StateStands g after k h

-- the strings among possible values of which the length compares so with one of some numbers
abbrev pub CutsLengths : Compare → PossibleValues → PossibleValues → PossibleValues → Type 0
CutsLengths by a b cut = (k : ℕ) (bytes : List ℕ) (y : ℤ) → MayBe a k (values.Text bytes) → MayBe b k (values.Int y) → Relates by (pos (length bytes)) y → MayBe cut k (values.Text bytes)

-- the same of two expressions, of which each has one of some values
abbrev pub CutsBoth : Context → AbstractState → Compare → ExprTree → ExprTree → PossibleValues → PossibleValues → AbstractState → Type 0
CutsBoth g st by a b one other after = (k : ℕ) (h : Bindings) (v w : Value) → StateStands g st k h → val a h ≡ Ok v → val b h ≡ Ok w → MayBe one k v → MayBe other k w → MayCompare by v w → StateStands g after k h

-- the state where an operand is a number that compares so with the result of an operator on one of some numbers and the number of another operand
abbrev pub CutsOperand : Context → AbstractState → ExprTree → Compare → Operator → PossibleValues → ExprTree → AbstractState → Type 0
CutsOperand g st e by o possible other after = (k : ℕ) (h : Bindings) (x y w z : ℤ) → StateStands g st k h → val e h ≡ Ok (values.Int x) → val other h ≡ Ok (values.Int y) → MayBe possible k (values.Int w)
    → operate o w y ≡ in_range z → Relates by x z → StateStands g after k h

-- the state where two expressions compare so, of which each has a value that may be and of which something is known
abbrev pub IsWhereSo : Context → AbstractState → Compare → ExprTree → ExprTree → Evaluation → Evaluation → AbstractState → Type 0
IsWhereSo g st by a b one other after = (k : ℕ) (h : Bindings) (v w : Value) → StateStands g st k h → val a h ≡ Ok v → val b h ≡ Ok w → IsEvaluated g one k h (Ok v) → IsEvaluated g other k h (Ok w) → MayCompare by v w → StateStands g after k h
