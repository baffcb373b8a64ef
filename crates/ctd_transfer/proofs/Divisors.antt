-- What a division gives whose divisor is not 0.
use Rattle.ctd_transfer.proofs.Common.{AbstractState, Bindings, Bool, Box, Context, Err, Evaluates, Evaluation, Expr, Fault, Faults, IsAmong, IsEvaluated, IsKnown, IsPossible, Ok, Operator, PossibleResult, Result, Value, ValueLimits, arithmetic, expr_tree, in_range, inl, inr, operate, pos, refl, subst, sym, true, val, ℕ, ℤ, ◌>>=◌, ◌≡◌}
use Rattle.std.proofs.Common.{ap, arith, false, zero, suc, ◌^◌, ◌≢◌, ◌-ℤ◌, ◌+ℤ◌, ◌*ℤ◌, ◌∙◌}
use Rattle.std.proofs.lemmas.Int.{ints}
use Rattle.std.specs.Prelude.{if◌then◌else◌, negsuc, nat_lt, int_div, int_rem}
use Rattle.std.specs.Int.{int_pow}
use Rattle.ctd_limits.specs.calls.Known.{KnowsNumber}
use Rattle.ctd_outcome.specs.declared.reason.Fault.TheVariants as faults
use Rattle.ctd_program.specs.declared.tree.Expr.TheVariants as variants
use Rattle.ctd_states.specs.calls.States.{MayBe}
use Rattle.ctd_store.specs.declared.value.Value.TheVariants as values
use Rattle.ctd_transfer.proofs.Applying.{AreFaults}
use Rattle.ctd_transfer.proofs.Evaluating.{possible_of}
use Rattle.ctd_transfer.specs.declared.division.Divisor.{Divisor}
use Rattle.ctd_transfer.specs.declared.result.Operator.TheVariants as operators
use Rattle.ctd_transfer.specs.inner.Divisors.{DifferIn, EvaluatesDivisor, IsDivision}
use Rattle.ctd_transfer.specs.inner.Evaluated.{HasOperands, IsOperation}
use Rattle.ctd_value.specs.Arithmetic.{is_value}

-- the number of a result
abbrev pub as_value : Result ℤ Fault → Result Value Fault
as_value r = r >>= (λ z. Ok (values.Int z))

-- a difference that is 0 is one of equal numbers
zero_in_range : (n : ℤ) (b : Bool) → as_value (if b then Ok n else Err faults.Overflow) ≡ Ok (values.Int (pos 0)) → n ≡ pos 0
zero_in_range n true is = cc is
zero_in_range n false is = absurd (cc is)

difference_of : (g : Context) (n : ℕ) (h : Bindings) (left right : Evaluation) (l r : Result Value Fault) → IsEvaluated g left n h l → IsEvaluated g right n h r → ((x y : ℤ) → IsKnown g.names.now h left.limits (values.Int x) → IsKnown g.names.now h right.limits (values.Int y) → x ≢ y)
    → arithmetic (λ x y. in_range (x -ℤ y)) l r ≢ Ok (values.Int (pos 0))
difference_of g n h left right (Err fault) r one other differ is_zero = absurd (cc is_zero)
difference_of g n h left right (Ok (values.Text bytes)) (Err fault) one other differ is_zero = absurd (cc is_zero)
difference_of g n h left right (Ok (values.Int x)) (Err fault) one other differ is_zero = absurd (cc is_zero)
difference_of g n h left right (Ok (values.Text bytes)) (Ok w) one other differ is_zero = absurd (cc is_zero)
difference_of g n h left right (Ok (values.Int x)) (Ok (values.Text bytes)) one other differ is_zero = absurd (cc is_zero)
difference_of g n h left right (Ok (values.Int x)) (Ok (values.Int y)) one other differ is_zero =
    let none : (x -ℤ y) ≡ pos 0 = zero_in_range (x -ℤ y) (is_value (x -ℤ y)) is_zero in
    differ x y one.1 other.1 (omega (arith, ints, none))

pub difference_divides : (g : Context) (st : AbstractState) (e : Expr) (a b : Box Expr) (left right value : Evaluation) (nonzero : Bool) → e ≡ variants.Sub a b → Evaluates g st (expr_tree a.value) left → Evaluates g st (expr_tree b.value) right → IsOperation e left right value
    → (nonzero ≡ true → DifferIn g st left.limits right.limits) → EvaluatesDivisor g st (expr_tree e) (record { value = value; is_nonzero = nonzero })
difference_divides g st e a b left right value nonzero is one other operation differ n h stands = record {
  gives = operation g n h a b (inr (inl is)) (one n h stands) (other n h stands);
  nonzero = λ yes is_zero. difference_of g n h left right (val (expr_tree a.value) h) (val (expr_tree b.value) h) (one n h stands) (other n h stands) (λ x y is_x is_y. differ yes n h x y stands is_x is_y)
      (subst (λ q. val (expr_tree q) h ≡ Ok (values.Int (pos 0))) is is_zero);
}

-- a number that differs from 0
pub number_divides : (g : Context) (st : AbstractState) (e : Expr) (value : Evaluation) (zero_limits : ValueLimits) (nonzero : Bool) → Evaluates g st (expr_tree e) value → KnowsNumber (pos 0) zero_limits → (nonzero ≡ true → DifferIn g st value.limits zero_limits)
    → EvaluatesDivisor g st (expr_tree e) (record { value = value; is_nonzero = nonzero })
number_divides g st e value zero_limits nonzero gives is_zero differ n h stands = record {
  gives = gives n h stands;
  nonzero = λ yes none. differ yes n h (pos 0) (pos 0) stands (subst (λ v. IsEvaluated g value n h v) none (gives n h stands)).1 (is_zero g.names.now h) refl;
}

-- no operation but one by 0 fails by a divisor of 0
sure_in_range : (n : ℤ) (b : Bool) → as_value (if b then Ok n else Err faults.Overflow) ≢ Err faults.DivisionByZero
sure_in_range n true is = absurd (cc is)
sure_in_range n false is = absurd (cc is)

sure_power : (x : ℤ) (n : ℕ) (b : Bool) → as_value (if b then in_range (int_pow x n) else Err faults.Exponent) ≢ Err faults.DivisionByZero
sure_power x n true is = sure_in_range (int_pow x n) (is_value (int_pow x n)) is
sure_power x n false is = absurd (cc is)

never_by_zero : (o : Operator) (x y : ℤ) → y ≢ pos 0 → as_value (operate o x y) ≢ Err faults.DivisionByZero
never_by_zero operators.Sum x y apart is = sure_in_range (x +ℤ y) (is_value (x +ℤ y)) is
never_by_zero operators.Difference x y apart is = sure_in_range (x -ℤ y) (is_value (x -ℤ y)) is
never_by_zero operators.Product x y apart is = sure_in_range (x *ℤ y) (is_value (x *ℤ y)) is
never_by_zero operators.Quotient x (pos zero) apart is = absurd (apart refl)
never_by_zero operators.Quotient x (pos (suc n)) apart is = sure_in_range (int_div x (pos (suc n))) (is_value (int_div x (pos (suc n)))) is
never_by_zero operators.Quotient x (negsuc n) apart is = sure_in_range (int_div x (negsuc n)) (is_value (int_div x (negsuc n))) is
never_by_zero operators.Remainder x (pos zero) apart is = absurd (apart refl)
never_by_zero operators.Remainder x (pos (suc n)) apart is = sure_in_range (int_rem x (pos (suc n))) (is_value (int_rem x (pos (suc n)))) is
never_by_zero operators.Remainder x (negsuc n) apart is = sure_in_range (int_rem x (negsuc n)) (is_value (int_rem x (negsuc n))) is
never_by_zero operators.Power x (pos n) apart is = sure_power x n (nat_lt n (2 ^ 64)) is
never_by_zero operators.Power x (negsuc n) apart is = absurd (cc is)

-- the faults but that one
abbrev pub AreOtherFaults : Faults → Faults → Type 0
AreOtherFaults some all = (f : Fault) → f ≢ faults.DivisionByZero → IsAmong some f → IsAmong all f

pub others_stay : (some all : Faults) → all ≡ record { no_value = some.no_value; no_element = some.no_element; wrong_type = some.wrong_type; overflow = some.overflow; division_by_zero = false; exponent = some.exponent; count = some.count; shape = some.shape; blame = all.blame } → AreOtherFaults some all
others_stay some all is faults.Undefined apart among = subst (λ (q : Faults). IsAmong q faults.Undefined) (sym is) among
others_stay some all is faults.WrongType apart among = subst (λ (q : Faults). IsAmong q faults.WrongType) (sym is) among
others_stay some all is faults.Overflow apart among = subst (λ (q : Faults). IsAmong q faults.Overflow) (sym is) among
others_stay some all is faults.DivisionByZero apart among = absurd (apart refl)
others_stay some all is faults.Exponent apart among = subst (λ (q : Faults). IsAmong q faults.Exponent) (sym is) among
others_stay some all is faults.Count apart among = subst (λ (q : Faults). IsAmong q faults.Count) (sym is) among
others_stay some all is faults.Shape apart among = subst (λ (q : Faults). IsAmong q faults.Shape) (sym is) among
others_stay some all is faults.StepLimit apart among = tt
others_stay some all is faults.MatchTooLong apart among = tt
others_stay some all is faults.DataTooLong apart among = tt
others_stay some all is faults.Read apart among = tt

-- a fault of an operation by a number that is not 0 is still told
fault_stays : (o : Operator) (f left right all : PossibleResult) (k : ℕ) (l r : Result Value Fault) (fault : Fault) → AreOtherFaults all.faults f.faults → AreFaults left.faults f.faults → AreFaults right.faults f.faults → IsPossible left k l → IsPossible right k r → r ≢ Ok (values.Int (pos 0))
    → arithmetic (operate o) l r ≡ Err fault → IsAmong all.faults fault → IsAmong f.faults fault
fault_stays o f left right all k (Err e) r fault own by_left by_right one other apart is among = by_left fault (subst (λ w. IsPossible left k w) is one)
fault_stays o f left right all k (Ok v) (Err e) fault own by_left by_right one other apart is among = by_right fault (subst (λ w. IsPossible right k w) is other)
fault_stays o f left right all k (Ok (values.Text bytes)) (Ok w) fault own by_left by_right one other apart is among = own fault (λ by_zero. absurd (cc (is, by_zero))) among
fault_stays o f left right all k (Ok (values.Int x)) (Ok (values.Text bytes)) fault own by_left by_right one other apart is among = own fault (λ by_zero. absurd (cc (is, by_zero))) among
fault_stays o f left right all k (Ok (values.Int x)) (Ok (values.Int y)) fault own by_left by_right one other apart is among =
    own fault (λ by_zero. never_by_zero o x y (λ same. apart (ap (λ (z : ℤ). Ok (values.Int z)) same)) (subst (λ q. as_value (operate o x y) ≡ Err q) by_zero is)) among

value_stays : (g : Context) (all : Evaluation) (f : PossibleResult) (n : ℕ) (h : Bindings) (v : Result Value Fault) → f.values ≡ all.found.values → ((fault : Fault) → v ≡ Err fault → IsAmong all.found.faults fault → IsAmong f.faults fault) → IsEvaluated g all n h v
    → IsEvaluated g (record { found = f; limits = all.limits }) n h v
value_stays g all f n h (Ok v) same stays is = (subst (λ p. MayBe p n v) (sym same) is.0, is.1)
value_stays g all f n h (Err fault) same stays is = stays fault refl is

-- the operator of an expression with two operands
operator_of : (e : Expr) (a b : Box Expr) → HasOperands e a b → (o : Operator) × ((h : Bindings) → val (expr_tree e) h ≡ arithmetic (operate o) (val (expr_tree a.value) h) (val (expr_tree b.value) h))
operator_of e a b (inl is) = (operators.Sum, λ h. ap (λ x. val (expr_tree x) h) is)
operator_of e a b (inr (inl is)) = (operators.Difference, λ h. ap (λ x. val (expr_tree x) h) is)
operator_of e a b (inr (inr (inl is))) = (operators.Product, λ h. ap (λ x. val (expr_tree x) h) is)
operator_of e a b (inr (inr (inr (inl is)))) = (operators.Quotient, λ h. ap (λ x. val (expr_tree x) h) is)
operator_of e a b (inr (inr (inr (inr (inl is))))) = (operators.Remainder, λ h. ap (λ x. val (expr_tree x) h) is)
operator_of e a b (inr (inr (inr (inr (inr is))))) = (operators.Power, λ h. ap (λ x. val (expr_tree x) h) is)

pub spared_division : (e : Expr) (left : Evaluation) (d : Divisor) (all : Evaluation) (f : PossibleResult) → IsOperation e left d.value all → d.is_nonzero ≡ true → f.values ≡ all.found.values → AreOtherFaults all.found.faults f.faults → AreFaults left.found.faults f.faults → AreFaults d.value.found.faults f.faults
    → IsDivision e left d (record { found = f; limits = all.limits })
spared_division e left d all f operation nonzero same own by_left by_right g n h a b has one other =
    let o = operator_of e a b has in
    let l = val (expr_tree a.value) h in
    let r = val (expr_tree b.value) h in
    value_stays g all f n h (val (expr_tree e) h) same
    (λ fault is among. fault_stays o.0 f left.found d.value.found all.found n l r fault own by_left by_right (possible_of g left n h l one) (possible_of g d.value n h r other.gives) (other.nonzero nonzero) (sym (o.1 h) ∙ is) among)
    (operation g n h a b has one other.gives)

pub plain_division : (e : Expr) (left : Evaluation) (d : Divisor) (all : Evaluation) → IsOperation e left d.value all → IsDivision e left d all
plain_division e left d all operation g n h a b has one other = operation g n h a b has one other.gives
