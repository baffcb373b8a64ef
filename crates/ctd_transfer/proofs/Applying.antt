-- What operators give of what their operands may give.
use Rattle.ctd_transfer.proofs.Common.{AreOperands, Bool, Err, FailsBy, Fault, Faults, IsAmong, IsComputed, IsIn, IsPossible, List, MayBe, None, Ok, Operates, Operator, Option, PossibleResult, Range, Result, Some, Value, arithmetic, as_number, as_text, in_range, length, measured, neg_ℤ, negated, operate, pos, refl, subst, sym, true, value_or_undefined, ℕ, ℤ, ◌>>=◌, ◌≡◌}
use Rattle.ctd_store.specs.declared.value.Value.TheVariants as values
use Rattle.ctd_outcome.specs.declared.reason.Fault.TheVariants as faults

-- some faults are among others
abbrev pub AreFaults : Faults → Faults → Type 0
AreFaults some all = (x : Fault) → IsAmong some x → IsAmong all x

computed_found : (f g : PossibleResult) (k : ℕ) (r : Result ℤ Fault) → g.values ≡ f.values → AreFaults f.faults g.faults → IsComputed f k r → IsPossible g k (r >>= (λ z. Ok (values.Int z)))
computed_found f g k (Ok z) possible more h = subst (λ ks. MayBe ks k (values.Int z)) (sym possible) h
computed_found f g k (Err e) possible more h = more e h

pub applied : (o : Operator) (a b f g : PossibleResult) (types : Option (Range × Range) × Bool) (k : ℕ) (left right : Result Value Fault) → AreOperands a.values b.values types → Operates o types.0 f → g.values ≡ f.values →
    AreFaults a.faults g.faults → AreFaults b.faults g.faults → (types.1 ≡ true → IsAmong g.faults faults.WrongType) → AreFaults f.faults g.faults →
    IsPossible a k left → IsPossible b k right → IsPossible g k (arithmetic (operate o) left right)
applied o a b f g types k (Err e) right operands operates possible by_a by_b by_types by_f l r = by_a e l
applied o a b f g types k (Ok v) (Err e) operands operates possible by_a by_b by_types by_f l r = by_b e r
applied o a b f g types k (Ok (values.Text bytes)) (Ok w) operands operates possible by_a by_b by_types by_f l r = by_types (operands.left_text bytes k l)
applied o a b f g types k (Ok (values.Int x)) (Ok (values.Text bytes)) operands operates possible by_a by_b by_types by_f l r = by_types (operands.right_text bytes k r)
applied o a b f g types k (Ok (values.Int x)) (Ok (values.Int y)) operands operates possible by_a by_b by_types by_f l r =
    let found : (q : Range × Range) × (types.0 ≡ Some q) × IsIn q.0 k x × IsIn q.1 k y = operands.numbers x y k l r in
    computed_found f g k (operate o x y) possible by_f (operates found.0 found.1 k x y found.2 found.3)

pub negates : (a f g : PossibleResult) (text : Bool) (k : ℕ) (r : Result Value Fault) → ((x : ℤ) → MayBe a.values k (values.Int x) → IsComputed f k (in_range (neg_ℤ x))) → ((bytes : List ℕ) → MayBe a.values k (values.Text bytes) → text ≡ true) →
    g.values ≡ f.values → (text ≡ true → IsAmong g.faults faults.WrongType) → AreFaults f.faults g.faults → AreFaults a.faults g.faults → IsPossible a k r → IsPossible g k (negated r)
negates a f g text k (Err e) numbers texts possible wrong by_f by_a may = by_a e may
negates a f g text k (Ok (values.Text bytes)) numbers texts possible wrong by_f by_a may = wrong (texts bytes may)
negates a f g text k (Ok (values.Int x)) numbers texts possible wrong by_f by_a may = computed_found f g k (in_range (neg_ℤ x)) possible by_f (numbers x may)

pub measures : (a f g : PossibleResult) (number : Bool) (k : ℕ) (r : Result Value Fault) → ((bytes : List ℕ) → MayBe a.values k (values.Text bytes) → IsPossible f k (Ok (values.Int (pos (length bytes))))) → ((x : ℤ) → MayBe a.values k (values.Int x) → number ≡ true) →
    g.values ≡ f.values → (number ≡ true → IsAmong g.faults faults.WrongType) → AreFaults a.faults g.faults → IsPossible a k r → IsPossible g k (measured r)
measures a f g number k (Err e) texts numbers possible wrong by_a may = by_a e may
measures a f g number k (Ok (values.Text bytes)) texts numbers possible wrong by_a may = subst (λ ks. MayBe ks k (values.Int (pos (length bytes)))) (sym possible) (texts bytes may)
measures a f g number k (Ok (values.Int x)) texts numbers possible wrong by_a may = wrong (numbers x may)

pub texts_only : (a : PossibleResult) (f : Faults) (number : Bool) (k : ℕ) (r : Result Value Fault) → ((x : ℤ) → MayBe a.values k (values.Int x) → number ≡ true) → (number ≡ true → IsAmong f faults.WrongType) → AreFaults a.faults f → IsPossible a k r → FailsBy f (as_text r)
texts_only a f number k (Err e) numbers wrong by_a may = by_a e may
texts_only a f number k (Ok (values.Text bytes)) numbers wrong by_a may = tt
texts_only a f number k (Ok (values.Int x)) numbers wrong by_a may = wrong (numbers x may)

pub numbers_only : (a : PossibleResult) (f : Faults) (text : Bool) (k : ℕ) (r : Result Value Fault) → ((bytes : List ℕ) → MayBe a.values k (values.Text bytes) → text ≡ true) → (text ≡ true → IsAmong f faults.WrongType) → AreFaults a.faults f → IsPossible a k r → FailsBy f (as_number r)
numbers_only a f text k (Err e) texts wrong by_a may = by_a e may
numbers_only a f text k (Ok (values.Text bytes)) texts wrong by_a may = wrong (texts bytes may)
numbers_only a f text k (Ok (values.Int x)) texts wrong by_a may = tt

-- an element that has a value or none
pub element_value : (f : PossibleResult) (k : ℕ) (o : Option Value) → IsAmong f.faults faults.Undefined → ((v : Value) → o ≡ Some v → MayBe f.values k v) → IsPossible f k (value_or_undefined o)
element_value f k None among may = among
element_value f k (Some v) among may = may v refl
