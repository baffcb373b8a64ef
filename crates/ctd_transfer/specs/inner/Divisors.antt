-- What a division gives whose divisor is not 0.
use Rattle.std.specs.Prelude.{◌≡◌, ◌≢◌, ℕ, ℤ, pos, true, Result, Ok}
use Rattle.ctd_program.specs.calls.View.{expr_tree}
use Rattle.ctd_store.specs.declared.value.Value.TheVariants as values
use Rattle.std.specs.Global.{Box}
use Rattle.ctd_transfer.specs.Prelude.{AbstractState, Bindings, Context, Evaluation, Expr, ExprTree, Fault, IsKnown, StateStands, Value, ValueLimits, val}
use Rattle.ctd_transfer.specs.calls.Values.{IsEvaluated}
use Rattle.ctd_transfer.specs.declared.division.Divisor.{Divisor}
use Rattle.ctd_transfer.specs.inner.Evaluated.{HasOperands}

-- in a state, two numbers of which something is known differ
abbrev pub DifferIn : Context → AbstractState → ValueLimits → ValueLimits → Type 0
DifferIn g st a b = (n : ℕ) (h : Bindings) (x y : ℤ) → StateStands g st n h → IsKnown g.names.now h a (values.Int x) → IsKnown g.names.now h b (values.Int y) → x ≢ y

-- a divisor gives this, which is not 0 if it surely is not
pub record IsDivisor (g : Context) (d : Divisor) (n : ℕ) (h : Bindings) (v : Result Value Fault) : Type 0 where
  pub gives : IsEvaluated g d.value n h v
  pub nonzero : d.is_nonzero ≡ true → v ≢ Ok (values.Int (pos 0))

-- what a divisor gives in a state
abbrev pub EvaluatesDivisor : Context → AbstractState → ExprTree → Divisor → Type 0
EvaluatesDivisor g st e d = (n : ℕ) (h : Bindings) → StateStands g st n h → IsDivisor g d n h (val e h)

-- what a division gives, by what its operands give
abbrev pub IsDivision : Expr → Evaluation → Divisor → Evaluation → Type 0
IsDivision e left d all = (g : Context) (n : ℕ) (h : Bindings) (a b : Box Expr) → HasOperands e a b → IsEvaluated g left n h (val (expr_tree a.value) h) → IsDivisor g d n h (val (expr_tree b.value) h) → IsEvaluated g all n h (val (expr_tree e) h)
