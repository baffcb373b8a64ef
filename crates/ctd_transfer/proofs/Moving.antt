-- The state where an operand of a sum or a difference compares so.
use Rattle.ctd_transfer.proofs.Common.{AbstractState, Compare, Context, Cuts, Err, ExprTree, Fault, IsPossible, MayBe, MayCompare, Ok, Operator, PossibleResult, PossibleValues, Relates, Result, Value, arith, arithmetic, false, if◌then◌else◌, in_range, ints, operate, refl, subst, sym, true, val, ℕ, ℤ, ◌>>=◌, ◌≡◌}
use Rattle.std.specs.Prelude.{◌+ℤ◌, ◌-ℤ◌}
use Rattle.ctd_value.specs.Arithmetic.{is_value}
use Rattle.ctd_outcome.specs.declared.reason.Fault.TheVariants.{Overflow}
use Rattle.ctd_program.specs.Tree
use Rattle.ctd_program.specs.declared.tree.Compare.TheVariants as comparisons
use Rattle.ctd_store.specs.declared.value.Value.TheVariants as values
use Rattle.ctd_transfer.specs.declared.result.Operator.TheVariants as operators
use Rattle.ctd_transfer.specs.inner.Compared.{CutsOperand}

-- two numbers that are as far apart as two others compare as they do
apart_relates : (by : Compare) (p w x z : ℤ) → (p -ℤ w) ≡ (x -ℤ z) → Relates by p w → Relates by x z
apart_relates comparisons.Less p w x z apart so = omega (arith, ints, apart, so)
apart_relates comparisons.Greater p w x z apart so = omega (arith, ints, apart, so)
apart_relates comparisons.AtMost p w x z apart so = omega (arith, ints, apart, so)
apart_relates comparisons.AtLeast p w x z apart so = omega (arith, ints, apart, so)
apart_relates comparisons.Equal p w x z apart so = omega (arith, ints, apart, so)
apart_relates comparisons.Unequal p w x z apart so = λ same. so (omega (arith, ints, apart, same))

-- what an operation gives if it is no overflow
number_is : (z : ℤ) (v : Value) → (in_range z >>= (λ n. Ok (values.Int n))) ≡ Ok v → values.Int z ≡ v
number_is z v = elim (is_value z) as (λ b. ((if b then Ok z else Err Overflow) >>= (λ n. Ok (values.Int n))) ≡ Ok v → values.Int z ≡ v) [
  | true ↦ λ is. cc is
  | false ↦ λ is. absurd (cc is)
]

is_among : (m : PossibleResult) (k : ℕ) (z : ℤ) → m.faults.overflow ≡ false → IsPossible m k (in_range z >>= (λ n. Ok (values.Int n))) → MayBe m.values k (values.Int z)
is_among m k z none = elim (is_value z) as (λ b. IsPossible m k ((if b then Ok z else Err Overflow) >>= (λ n. Ok (values.Int n))) → MayBe m.values k (values.Int z)) [
  | true ↦ λ may. may
  | false ↦ λ may. absurd (cc (none, may))
]

pub moved_is : (o : Operator) (m : PossibleResult) (k : ℕ) (r : Result Value Fault) (w y z : ℤ) → m.faults.overflow ≡ false → r ≡ Ok (values.Int y) → operate o w y ≡ in_range z
    → IsPossible m k (arithmetic (operate o) (Ok (values.Int w)) r) → MayBe m.values k (values.Int z)
moved_is o m k r w y z none is same possible =
    is_among m k z none (subst (λ n. IsPossible m k (n >>= (λ n. Ok (values.Int n)))) same (subst (λ u. IsPossible m k (arithmetic (operate o) (Ok (values.Int w)) u)) is possible))

-- the operands of an operation that gives a value are numbers
operands_cut : (X : Type 0) (by : Compare) (f : ℤ → ℤ → ℤ) (possible : PossibleValues) (k : ℕ) (l r : Result Value Fault) (v w : Value) → ((x y n : ℤ) → l ≡ Ok (values.Int x) → r ≡ Ok (values.Int y) → MayBe possible k (values.Int n) → Relates by (f x y) n → X)
    → arithmetic (λ x y. in_range (f x y)) l r ≡ Ok v → MayBe possible k w → MayCompare by v w → X
operands_cut X by f possible k (Err e) r v w cuts is may compare = absurd (cc is)
operands_cut X by f possible k (Ok (values.Text bytes)) (Err e) v w cuts is may compare = absurd (cc is)
operands_cut X by f possible k (Ok (values.Int x)) (Err e) v w cuts is may compare = absurd (cc is)
operands_cut X by f possible k (Ok (values.Text bytes)) (Ok b) v w cuts is may compare = absurd (cc is)
operands_cut X by f possible k (Ok (values.Int x)) (Ok (values.Text bytes)) v w cuts is may compare = absurd (cc is)
operands_cut X by f possible k (Ok (values.Int x)) (Ok (values.Int y)) v (values.Int n) cuts is may compare =
    cuts x y n refl refl may (subst (λ u. MayCompare by u (values.Int n)) (sym (number_is (f x y) v is)) compare)
operands_cut X by f possible k (Ok (values.Int x)) (Ok (values.Int y)) v (values.Text bytes) cuts is may compare =
    absurd (subst (λ u. MayCompare by u (values.Text bytes)) (sym (number_is (f x y) v is)) compare)

pub sum_cuts : (g : Context) (st after : AbstractState) (a b : ExprTree) (by : Compare) (possible : PossibleValues) → CutsOperand g st a by operators.Difference possible b after → Cuts g st (Tree.sum a b) by possible after
sum_cuts g st after a b by possible cuts k h v w stands is may compare =
    operands_cut _ by (λ x y. x +ℤ y) possible k (val a h) (val b h) v w (λ x y n left right so relates. cuts k h x y n (n -ℤ y) stands left right so refl (apart_relates by (x +ℤ y) n x (n -ℤ y) (omega (arith, ints)) relates)) is may compare

pub difference_cuts : (g : Context) (st after : AbstractState) (a b : ExprTree) (by : Compare) (possible : PossibleValues) → CutsOperand g st a by operators.Sum possible b after → Cuts g st (Tree.difference a b) by possible after
difference_cuts g st after a b by possible cuts k h v w stands is may compare =
    operands_cut _ by (λ x y. x -ℤ y) possible k (val a h) (val b h) v w (λ x y n left right so relates. cuts k h x y n (n +ℤ y) stands left right so refl (apart_relates by (x -ℤ y) n x (n +ℤ y) (omega (arith, ints)) relates)) is may compare
