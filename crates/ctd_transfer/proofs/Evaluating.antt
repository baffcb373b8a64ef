-- What expressions give, by what their parts give.
use Rattle.ctd_transfer.proofs.Common.{AbstractState, AbstractValue, AreEvaluated, Bindings, Box, Context, Element, Err, Evaluates, Evaluation, Expr, ExprList, ExprTree, FailsBy, Fault, Faults, HasOperator, IsAmong, IsEvaluated, IsIn, IsKnown, IsPossible, List, MayBe, MayHave, None, Ok, Operator, Option, PossibleResult, Range, Result, Some, Tells, Value, ValueLimits, [], ap, arith, arithmetic, at_drop_more, at_key, boxed_element, drop, drop_all, expr_list, expr_tree, exprs_of, get_or, in_range, inl, inr, length, operate, pos, refl, subst, sym, val, vals, value_at, value_or_undefined, ℕ, ℤ, ◌+◌, ◌<◌, ◌>>=◌, ◌∙◌, ◌∷◌, ◌≡◌, ◌≤◌}
use Rattle.std.specs.Prelude.{◌⊎◌, ◌*ℤ◌}
use Rattle.ctd_elements.specs.declared.fact.AbstractState.{AbstractState as View}
use Rattle.ctd_elements.specs.calls.States.{Describes, values_of}
use Rattle.ctd_limits.specs.calls.Known.{IsNothing, KnowsName, KnowsRange, NarrowsTo}
use Rattle.ctd_partitions.proofs.Changing.{viewed}
use Rattle.ctd_partitions.specs.calls.States.{IsViewOf}
use Rattle.ctd_program.specs.Tree
use Rattle.ctd_program.specs.declared.tree.Expr.TheVariants as variants
use Rattle.ctd_range.proofs.Squares.{squared}
use Rattle.ctd_store.specs.declared.value.Value.TheVariants as values
use Rattle.ctd_transfer.specs.declared.indices.Indices.TheVariants as indices
use Rattle.ctd_transfer.specs.declared.result.Operator.TheVariants as operators
use Rattle.ctd_transfer.specs.inner.Evaluated.{HasOperands, IsKnownIfOk, IsOperation, IsRangeOf, KnowsResult, Refines}
use Rattle.ctd_transfer.specs.inner.Indices.{AllFailBy}
use Rattle.ctd_transfer.proofs.Applying.{AreFaults}
use Rattle.ctd_value.specs.Arithmetic.{power}

-- what is known of a result, and what it may be
pub possible_of : (g : Context) (r : Evaluation) (n : ℕ) (h : Bindings) (v : Result Value Fault) → IsEvaluated g r n h v → IsPossible r.found n v
possible_of g r n h (Ok v) is = is.0
possible_of g r n h (Err fault) is = is

known_of : (g : Context) (r : Evaluation) (n : ℕ) (h : Bindings) (v : Result Value Fault) → IsEvaluated g r n h v → IsKnownIfOk g h r.limits v
known_of g r n h (Ok v) is = is.1
known_of g r n h (Err fault) is = tt

pub nothing_known : (g : Context) (h : Bindings) (l : ValueLimits) (v : Result Value Fault) → IsNothing l → IsKnownIfOk g h l v
nothing_known g h l (Ok v) nothing = nothing g.names.now h v
nothing_known g h l (Err fault) nothing = tt

pub unrefined : (found : PossibleResult) (limits : ValueLimits) → Refines found limits (record { found = found; limits = limits })
unrefined found limits g n h (Ok v) possible known = (possible, known)
unrefined found limits g n h (Err fault) possible known = possible

-- numbers of a range, which is narrowed
pub refines : (found all : PossibleResult) (limits l : ValueLimits) (range narrow : Range) → IsRangeOf found.values range → NarrowsTo range limits narrow → KnowsRange limits narrow l → all.values ≡ record { text = None; number = Some narrow } → all.faults ≡ found.faults
    → Refines found limits (record { found = all; limits = l })
refines found all limits l range narrow only narrows knows same also g n h (Err fault) possible known = subst (λ f. IsAmong f fault) (sym also) possible
refines found all limits l range narrow only narrows knows same also g n h (Ok (values.Text bytes)) possible known = absurd (cc (only n (values.Text bytes) possible).1)
refines found all limits l range narrow only narrows knows same also g n h (Ok (values.Int x)) possible known =
    let number = only n (values.Int x) possible in
    let is : number.0 ≡ x = cc number.1 in
    let inside : IsIn narrow n x = narrows g.names.now h n x known (subst (IsIn range n) is number.2) in
    (subst (λ p. MayBe p n (values.Int x)) (sym same) (narrow, refl, inside), knows g.names.now h n x known inside)

-- the value of a name without indices
name_found : (g : Context) (r : Evaluation) (value : AbstractValue) (n : ℕ) (h : Bindings) (o : Option Value) → ((k : ℕ) (o : Option Value) → MayHave value k o → IsPossible r.found k (value_or_undefined o)) → MayHave value n o → ((v : Value) → o ≡ Some v → IsKnown g.names.now h r.limits v)
    → IsEvaluated g r n h (value_or_undefined o)
name_found g r value n h None gives may known = gives n None may
name_found g r value n h (Some v) gives may known = (gives n (Some v) may, known v refl)

pub name_evaluates : (g : Context) (st : AbstractState) (view : View) (name : List ℕ) (value : AbstractValue) (r : Evaluation) → IsViewOf g st view → Tells (values_of view) name value → KnowsName view name r.limits → ((k : ℕ) (o : Option Value) → MayHave value k o → IsPossible r.found k (value_or_undefined o))
    → Evaluates g st (Tree.variable name Tree.none) r
name_evaluates g st view name value r seen tells knows gives n h stands =
    let describes : Describes view n h = viewed g st view n h seen stands in
    name_found g r value n h (value_at h (at_key name [])) gives (tells n h describes.values).alone (λ v has. subst (λ q. IsKnown q h r.limits v) seen.names (knows n h v describes has))

-- an operation on what its operands give
known_number : (g : Context) (h : Bindings) (l : ValueLimits) (r : Result ℤ Fault) → ((z : ℤ) → r ≡ Ok z → IsKnown g.names.now h l (values.Int z)) → IsKnownIfOk g h l (r >>= (λ z. Ok (values.Int z)))
known_number g h l (Ok z) known = known z refl
known_number g h l (Err fault) known = tt

known_arithmetic : (g : Context) (h : Bindings) (o : Operator) (a b l : ValueLimits) (left right : Result Value Fault) → KnowsResult o a b l → IsKnownIfOk g h a left → IsKnownIfOk g h b right → IsKnownIfOk g h l (arithmetic (operate o) left right)
known_arithmetic g h o a b l (Err fault) right knows one other = tt
known_arithmetic g h o a b l (Ok (values.Text bytes)) (Err fault) knows one other = tt
known_arithmetic g h o a b l (Ok (values.Int x)) (Err fault) knows one other = tt
known_arithmetic g h o a b l (Ok (values.Text bytes)) (Ok w) knows one other = tt
known_arithmetic g h o a b l (Ok (values.Int x)) (Ok (values.Text bytes)) knows one other = tt
known_arithmetic g h o a b l (Ok (values.Int x)) (Ok (values.Int y)) knows one other = known_number g h l (operate o x y) (λ z is. knows g.names.now h x y z one other is)

-- the value of an expression with two operands
operator_is : (o p : Operator) (left right v : Result Value Fault) → o ≡ p → v ≡ arithmetic (operate p) left right → v ≡ arithmetic (operate o) left right
operator_is o p left right v same is = subst (λ q. v ≡ arithmetic (operate q) left right) (sym same) is

is_arithmetic : (e : Expr) (a b : Box Expr) (o : Operator) (h : Bindings) → HasOperands e a b → HasOperator o e → val (expr_tree e) h ≡ arithmetic (operate o) (val (expr_tree a.value) h) (val (expr_tree b.value) h)
is_arithmetic e a b o h (inl is) has = operator_is o operators.Sum (val (expr_tree a.value) h) (val (expr_tree b.value) h) (val (expr_tree e) h) (subst (λ x. HasOperator o x) is has) (ap (λ x. val (expr_tree x) h) is)
is_arithmetic e a b o h (inr (inl is)) has = operator_is o operators.Difference (val (expr_tree a.value) h) (val (expr_tree b.value) h) (val (expr_tree e) h) (subst (λ x. HasOperator o x) is has) (ap (λ x. val (expr_tree x) h) is)
is_arithmetic e a b o h (inr (inr (inl is))) has = operator_is o operators.Product (val (expr_tree a.value) h) (val (expr_tree b.value) h) (val (expr_tree e) h) (subst (λ x. HasOperator o x) is has) (ap (λ x. val (expr_tree x) h) is)
is_arithmetic e a b o h (inr (inr (inr (inl is)))) has = operator_is o operators.Quotient (val (expr_tree a.value) h) (val (expr_tree b.value) h) (val (expr_tree e) h) (subst (λ x. HasOperator o x) is has) (ap (λ x. val (expr_tree x) h) is)
is_arithmetic e a b o h (inr (inr (inr (inr (inl is))))) has = operator_is o operators.Remainder (val (expr_tree a.value) h) (val (expr_tree b.value) h) (val (expr_tree e) h) (subst (λ x. HasOperator o x) is has) (ap (λ x. val (expr_tree x) h) is)
is_arithmetic e a b o h (inr (inr (inr (inr (inr is))))) has = operator_is o operators.Power (val (expr_tree a.value) h) (val (expr_tree b.value) h) (val (expr_tree e) h) (subst (λ x. HasOperator o x) is has) (ap (λ x. val (expr_tree x) h) is)

-- a number times itself
squared_value : (r : Result Value Fault) → arithmetic power r (Ok (values.Int (pos 2))) ≡ arithmetic (λ x y. in_range (x *ℤ y)) r r
squared_value (Err e) = refl
squared_value (Ok (values.Text bytes)) = refl
squared_value (Ok (values.Int x)) = ap (λ n. in_range n >>= (λ z. Ok (values.Int z))) (squared x)

first_factor : (e : Expr) (a b : Box Expr) (t : ExprTree) → HasOperands e a b → expr_tree e ≡ Tree.times t t → expr_tree a.value ≡ t
first_factor e a b t (inl is) square = absurd (cc (is, square))
first_factor e a b t (inr (inl is)) square = absurd (cc (is, square))
first_factor e a b t (inr (inr (inl is))) square = cc (is, square)
first_factor e a b t (inr (inr (inr (inl is)))) square = absurd (cc (is, square))
first_factor e a b t (inr (inr (inr (inr (inl is))))) square = absurd (cc (is, square))
first_factor e a b t (inr (inr (inr (inr (inr is))))) square = absurd (cc (is, square))

is_power : (e : Expr) (a b : Box Expr) (t : ExprTree) (h : Bindings) → HasOperands e a b → expr_tree e ≡ Tree.times t t → val (expr_tree e) h ≡ arithmetic power (val (expr_tree a.value) h) (Ok (values.Int (pos 2)))
is_power e a b t h has square = ap (λ q. val q h) square ∙ sym (squared_value (val t h)) ∙ ap (λ q. arithmetic power (val q h) (Ok (values.Int (pos 2)))) (sym (first_factor e a b t has square))

-- what an operation may give: of both operands, or of one that is multiplied by itself
abbrev pub FindsOperation : Expr → Evaluation → Evaluation → PossibleResult → Type 0
FindsOperation e left right found = (n : ℕ) (h : Bindings) (a b : Box Expr) → HasOperands e a b → IsPossible left.found n (val (expr_tree a.value) h) → IsPossible right.found n (val (expr_tree b.value) h) → IsPossible found n (val (expr_tree e) h)

pub operands_found : (e : Expr) (o : Operator) (left right : Evaluation) (found : PossibleResult) → HasOperator o e → ((k : ℕ) (l r : Result Value Fault) → IsPossible left.found k l → IsPossible right.found k r → IsPossible found k (arithmetic (operate o) l r)) → FindsOperation e left right found
operands_found e o left right found has applies n h a b operands one other = subst (IsPossible found n) (sym (is_arithmetic e a b o h operands has)) (applies n (val (expr_tree a.value) h) (val (expr_tree b.value) h) one other)

pub square_found : (e : Expr) (left right : Evaluation) (two found : PossibleResult) → (t : ExprTree) × (expr_tree e ≡ Tree.times t t) → ((k : ℕ) → IsPossible two k (Ok (values.Int (pos 2)))) → ((k : ℕ) (l r : Result Value Fault) → IsPossible left.found k l → IsPossible two k r → IsPossible found k (arithmetic (operate operators.Power) l r))
    → FindsOperation e left right found
square_found e left right two found square is_two applies n h a b operands one other = subst (IsPossible found n) (sym (is_power e a b square.0 h operands square.1)) (applies n (val (expr_tree a.value) h) (Ok (values.Int (pos 2))) one (is_two n))

pub operation_evaluates : (e : Expr) (o : Operator) (left right r : Evaluation) (found : PossibleResult) (l : ValueLimits) → HasOperator o e → FindsOperation e left right found → KnowsResult o left.limits right.limits l → Refines found l r → IsOperation e left right r
operation_evaluates e o left right r found l has finds knows refines g n h a b operands one other =
    let first : Result Value Fault = val (expr_tree a.value) h in
    let second : Result Value Fault = val (expr_tree b.value) h in
    refines g n h (val (expr_tree e) h) (finds n h a b operands (possible_of g left n h first one) (possible_of g right n h second other))
    (subst (IsKnownIfOk g h l) (sym (is_arithmetic e a b o h operands has)) (known_arithmetic g h o left.limits right.limits l first second knows (known_of g left n h first one) (known_of g right n h second other)))

-- expressions with some of the operators
pub four_operands : (e : Expr) (a b : Box Expr) → (e ≡ variants.Add a b) ⊎ ((e ≡ variants.Sub a b) ⊎ ((e ≡ variants.Mul a b) ⊎ (e ≡ variants.Pow a b))) → HasOperands e a b
four_operands e a b (inl is) = inl is
four_operands e a b (inr (inl is)) = inr (inl is)
four_operands e a b (inr (inr (inl is))) = inr (inr (inl is))
four_operands e a b (inr (inr (inr is))) = inr (inr (inr (inr (inr is))))

pub two_operands : (e : Expr) (a b : Box Expr) → (e ≡ variants.Div a b) ⊎ (e ≡ variants.Rem a b) → HasOperands e a b
two_operands e a b (inl is) = inr (inr (inr (inl is)))
two_operands e a b (inr is) = inr (inr (inr (inr (inl is))))

-- expressions one after the other: if the rest fails by some faults, all do
abbrev pub Leads : Context → AbstractState → Faults → ExprList → ExprList → Type 0
Leads g st so_far rest whole = (all : Faults) → AreFaults so_far all → AllFailBy g st rest all → AllFailBy g st whole all

first_fails : (f : Faults) (n : ℕ) (r : PossibleResult) (v : Result Value Fault) (vs : Result (List Value) Fault) → AreFaults r.faults f → IsPossible r n v → FailsBy f vs → FailsBy f (v >>= (λ i. vs >>= (λ is. Ok (i ∷ is))))
first_fails f n r (Err e) vs more may fails = more e may
first_fails f n r (Ok v) (Ok is) more may fails = tt
first_fails f n r (Ok v) (Err e) more may fails = fails

pub leads_on : (g : Context) (st : AbstractState) (before after : Faults) (e : ExprTree) (rest whole : ExprList) (r : Evaluation) → Evaluates g st e r → AreFaults before after → AreFaults r.found.faults after → Leads g st before (Tree.some e rest) whole → Leads g st after rest whole
leads_on g st before after e rest whole r gives more own leads all covers fails =
    leads all (λ x h. covers x (more x h)) (λ n h stands. first_fails all n r.found (val e h) (vals rest h) (λ x is. covers x (own x is)) (possible_of g r n h (val e h) (gives n h stands)) (fails n h stands))

pub none_fail : (g : Context) (st : AbstractState) (f : Faults) → AllFailBy g st Tree.none f
none_fail g st f n h stands = tt

-- expressions from their front
pub expr_first : (es : List Expr) (i : ℕ) (e : Expr) → i < length es → e ≡ get_or es i e → expr_list (drop i es) ≡ Tree.some (expr_tree e) (expr_list (drop (i + 1) es))
expr_first es i e inside is = at_drop_more expr_list es i e inside ∙ ap (λ (x : Expr). Tree.some (expr_tree x) (expr_list (drop (i + 1) es))) (sym is)

pub expr_last : (es : List Expr) (i : ℕ) → length es ≤ i → expr_list (drop i es) ≡ Tree.none
expr_last es i all = ap expr_list (drop_all i es all)

-- an element of the code
pub element_is : (e : Expr) (x : Box Element) (el other : Element) (name : List ℕ) (es : List Expr) → e ≡ variants.Element x → el ≡ x.value → es ≡ exprs_of el.indices → other ≡ x.value → name ≡ other.name → expr_tree e ≡ Tree.variable name (expr_list es)
element_is e x el other name es is held all held_too named =
    ap expr_tree is ∙ boxed_element x ∙ ap (λ l. Tree.variable x.value.name (expr_list l)) (sym (all ∙ ap (λ (y : Element). exprs_of y.indices) held))
    ∙ ap (λ n. Tree.variable n (expr_list es)) (sym (named ∙ ap (λ (y : Element). y.name) held_too))

-- one index, two, and more
one_evaluated : (g : Context) (r : Evaluation) (n : ℕ) (h : Bindings) (v : Result Value Fault) → IsEvaluated g r n h v → AreEvaluated g (indices.One r) n h (v >>= (λ i. Ok (i ∷ [])))
one_evaluated g r n h (Ok v) is = (refl, is)
one_evaluated g r n h (Err fault) is = is

pub one_index : (g : Context) (r : Evaluation) (n : ℕ) (h : Bindings) (es : List Expr) (e : Expr) → 1 ≤ length es → length es < 2 → e ≡ get_or es 0 e → IsEvaluated g r n h (val (expr_tree e) h) → AreEvaluated g (indices.One r) n h (vals (expr_list es) h)
one_index g r n h [] e some few is gives = absurd (omega (arith, some))
one_index g r n h (x ∷ []) e some few is gives = one_evaluated g r n h (val (expr_tree x) h) (subst (λ (y : Expr). IsEvaluated g r n h (val (expr_tree y) h)) is gives)
one_index g r n h (x ∷ y ∷ es) e some few is gives = absurd (omega (arith, few))

two_evaluated : (g : Context) (a b : Evaluation) (n : ℕ) (h : Bindings) (v w : Result Value Fault) → IsEvaluated g a n h v → IsEvaluated g b n h w → AreEvaluated g (indices.Two a b) n h (v >>= (λ i. (w >>= (λ j. Ok (j ∷ []))) >>= (λ is. Ok (i ∷ is))))
two_evaluated g a b n h (Ok v) (Ok w) one other = (refl, one, other)
two_evaluated g a b n h (Ok v) (Err fault) one other = λ f first second. second fault other
two_evaluated g a b n h (Err fault) w one other = λ f first second. first fault one

pub two_indices : (g : Context) (a b : Evaluation) (n : ℕ) (h : Bindings) (es : List Expr) (d e : Expr) → 2 ≤ length es → length es < 3 → d ≡ get_or es 0 d → e ≡ get_or es 1 e → IsEvaluated g a n h (val (expr_tree d) h) → IsEvaluated g b n h (val (expr_tree e) h) → AreEvaluated g (indices.Two a b) n h (vals (expr_list es) h)
two_indices g a b n h [] d e some few first second one other = absurd (omega (arith, some))
two_indices g a b n h (x ∷ []) d e some few first second one other = absurd (omega (arith, some))
two_indices g a b n h (x ∷ y ∷ []) d e some few first second one other =
    two_evaluated g a b n h (val (expr_tree x) h) (val (expr_tree y) h) (subst (λ (z : Expr). IsEvaluated g a n h (val (expr_tree z) h)) first one) (subst (λ (z : Expr). IsEvaluated g b n h (val (expr_tree z) h)) second other)
two_indices g a b n h (x ∷ y ∷ z ∷ es) d e some few first second one other = absurd (omega (arith, few))

more_evaluated : (g : Context) (f : Faults) (n : ℕ) (h : Bindings) (r : Result Value Fault) (rs : Result (List Value) Fault) → FailsBy f (r >>= (λ i. rs >>= (λ is. Ok (i ∷ is)))) → AreEvaluated g (indices.More f) n h (r >>= (λ i. rs >>= (λ is. Ok (i ∷ is))))
more_evaluated g f n h (Err fault) rs fails = fails
more_evaluated g f n h (Ok v) (Err fault) fails = fails
more_evaluated g f n h (Ok v) (Ok vs) fails = tt

pub more_indices : (g : Context) (f : Faults) (n : ℕ) (h : Bindings) (es : List Expr) → 1 ≤ length es → FailsBy f (vals (expr_list es) h) → AreEvaluated g (indices.More f) n h (vals (expr_list es) h)
more_indices g f n h [] some fails = absurd (omega (arith, some))
more_indices g f n h (e ∷ es) some fails = more_evaluated g f n h (val (expr_tree e) h) (vals (expr_list es) h) fails
