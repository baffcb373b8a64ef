-- What expressions give, by what their parts give.
use Rattle.std.specs.Prelude.{◌≡◌, ◌⊎◌, ℕ, List, Result, Ok, Err, ℤ}
use Rattle.std.specs.Global.{Box}
use Rattle.std.specs.Borrow.{Bor}
use Rattle.ctd_program.specs.Tree
use Rattle.ctd_program.specs.calls.View.{expr_tree}
use Rattle.ctd_program.specs.declared.tree.Expr.TheVariants as variants
use Rattle.ctd_store.specs.declared.value.Value.TheVariants as values
use Rattle.ctd_transfer.specs.Prelude.{AbstractState, Bindings, Context, Evaluation, Expr, ExprList, Fault, Indices, IsIn, IsKnown, MayBe, Operator, PossibleResult, PossibleValues, Range, Value, ValueLimits, val}
use Rattle.ctd_transfer.specs.calls.Results.{IsPossible}
use Rattle.ctd_transfer.specs.calls.Values.{Evaluates, IsEvaluated}
use Rattle.ctd_transfer.specs.inner.Indices.{EvaluatesIndices}
use Rattle.ctd_transfer.specs.inner.Operators.{operate}

-- each of these values is a number of a range
abbrev pub IsRangeOf : PossibleValues → Range → Type 0
IsRangeOf possible range = (n : ℕ) (v : Value) → MayBe possible n v → (x : ℤ) × (v ≡ values.Int x) × IsIn range n x

-- this is known of a value, if there is one
abbrev pub IsKnownIfOk : Context → Bindings → ValueLimits → Result Value Fault → Type 0
IsKnownIfOk g h l (Ok v) = IsKnown g.names.now h l v
IsKnownIfOk g h l (Err fault) = Unit {0}

-- what is given and known is given and known still
abbrev pub Refines : PossibleResult → ValueLimits → Evaluation → Type 0
Refines found limits r = (g : Context) (n : ℕ) (h : Bindings) (v : Result Value Fault) → IsPossible found n v → IsKnownIfOk g h limits v → IsEvaluated g r n h v

-- this is known of what an operator gives of two numbers
abbrev pub KnowsResult : Operator → ValueLimits → ValueLimits → ValueLimits → Type 0
KnowsResult o a b l = (names : List (Bor (List ℕ))) (h : Bindings) (x y z : ℤ) → IsKnown names h a (values.Int x) → IsKnown names h b (values.Int y) → operate o x y ≡ Ok z → IsKnown names h l (values.Int z)

-- an expression with an operator between two others
abbrev pub HasOperands : Expr → (a b : Box Expr) → Type 0
HasOperands e a b = (e ≡ variants.Add a b) ⊎ ((e ≡ variants.Sub a b) ⊎ ((e ≡ variants.Mul a b) ⊎ ((e ≡ variants.Div a b) ⊎ ((e ≡ variants.Rem a b) ⊎ (e ≡ variants.Pow a b)))))

-- what an expression with two operands gives, by what they give
abbrev pub IsOperation : Expr → (left right all : Evaluation) → Type 0
IsOperation e left right all = (g : Context) (n : ℕ) (h : Bindings) (a b : Box Expr) → HasOperands e a b → IsEvaluated g left n h (val (expr_tree a.value) h) → IsEvaluated g right n h (val (expr_tree b.value) h) → IsEvaluated g all n h (val (expr_tree e) h)

-- what a name gives at indices, by what these give
abbrev pub EvaluatesAt : Context → AbstractState → List ℕ → Indices → Evaluation → Type 0
EvaluatesAt g st name some r = (es : ExprList) → EvaluatesIndices g st es some → Evaluates g st (Tree.variable name es) r
