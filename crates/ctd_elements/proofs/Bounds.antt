-- How bounds compare.
use Rattle.ctd_elements.proofs.Common.{AbstractState, AbstractValue, Bindings, Bor, Bound, Describes, Fact, IfSome, IsBound, IsNumber, IsOrdered, List, MayHave, None, Option, Orders, Some, Stands, Term, [], alone, ap, arith, entry_value, false, get_or, ints, length, name_at, pos, refl, subst, sym, times_up, *ℤ_comm, ℕ, ℤ, ◌*ℤ◌, ◌+ℤ◌, ◌-ℤ◌, ◌<◌, ◌∷◌, ◌≡◌, ◌≤ℤ◌}
use Rattle.std.proofs.Common.{zero, suc, ◌+◌}
use Rattle.ctd_elements.specs.calls.Blocks.{AllStand}
use Rattle.ctd_elements.proofs.Multiples.{sum_times}
use Rattle.ctd_elements.specs.inner.Bounds.{IsGreatestOf, IsLeastOf, IsNoNumber, IsSureOf, LacksNumber, OrdersBy}
use Rattle.ctd_elements.specs.calls.Orders.{IsGreatest, IsLeast, IsMoved, IsSure}
use Rattle.ctd_elements.specs.declared.fact.Fact.TheVariants as facts
use Rattle.ctd_store.specs.declared.value.Value.TheVariants as values

-- the abstract value of a name is right about its value
may_have : (s : AbstractState) (i : ℕ) (e : AbstractValue) (n : ℕ) (h : Bindings) → i < length s.entries.now → Describes s n h → MayHave (get_or s.entries.now i e) n (alone s.names.now h i)
may_have s i e n h inside it = (entry_value s.names.now s.entries.now i e (name_at s.names.now i) inside refl n h it.values).alone

has_term : (s : AbstractState) (h : Bindings) (b : Bound) (t : Term) (z : ℤ) → b.term ≡ Some t → IsBound s.names.now h b z → IsNumber s.names.now h (Some t) b.add z
has_term s h b t z is at = subst (λ o. IsNumber s.names.now h o b.add z) is at

may_number : (s : AbstractState) (t : Term) (e : AbstractValue) (n : ℕ) (h : Bindings) (x : ℤ) → t.name < length s.entries.now → Describes s n h → alone s.names.now h t.name ≡ Some (values.Int x) → MayHave (get_or s.entries.now t.name e) n (Some (values.Int x))
may_number s t e n h x inside it is = subst (λ o. MayHave (get_or s.entries.now t.name e) n o) is (may_have s t.name e n h inside it)

pub multiple_up : (t : ℕ) (x y : ℤ) → x ≤ℤ y → (pos t *ℤ x) ≤ℤ (pos t *ℤ y)
multiple_up t x y less = rw (*ℤ_comm (pos t) x, *ℤ_comm (pos t) y) (times_up x y (pos t) (omega (arith, ints)) less)

greatest_named : (s : AbstractState) (t : Term) (e : AbstractValue) (b : Bound) (g r : ℤ) → t.name < length s.entries.now → b.term ≡ Some t → IsGreatestOf (get_or s.entries.now t.name e) g → r ≡ (pos t.times *ℤ g) +ℤ b.add → IsGreatest s b r
greatest_named s t e b g r inside named most sum n h z it is =
    let at : IsNumber s.names.now h (Some t) b.add z = has_term s h b t z named is in
    let up : (pos t.times *ℤ at.0) ≤ℤ (pos t.times *ℤ g) = multiple_up t.times at.0 g (most n at.0 (may_number s t e n h at.0 inside it at.1)) in
    omega (arith, ints, up, at.2, sum)

least_named : (s : AbstractState) (t : Term) (e : AbstractValue) (b : Bound) (g r : ℤ) → t.name < length s.entries.now → b.term ≡ Some t → IsLeastOf (get_or s.entries.now t.name e) g → r ≡ (pos t.times *ℤ g) +ℤ b.add → IsLeast s b r
least_named s t e b g r inside named least sum n h z it is =
    let at : IsNumber s.names.now h (Some t) b.add z = has_term s h b t z named is in
    let up : (pos t.times *ℤ g) ≤ℤ (pos t.times *ℤ at.0) = multiple_up t.times g at.0 (least n at.0 (may_number s t e n h at.0 inside it at.1)) in
    omega (arith, ints, up, at.2, sum)

pub greatest_some : (s : AbstractState) (t : Term) (e : AbstractValue) (b : Bound) (g : ℤ) (r : Option ℤ) → t.name < length s.entries.now → b.term ≡ Some t → IsGreatestOf (get_or s.entries.now t.name e) g → IfSome r (λ x. x ≡ (pos t.times *ℤ g) +ℤ b.add) → IfSome r (λ x. IsGreatest s b x)
greatest_some s t e b g None inside named most sum = tt
greatest_some s t e b g (Some x) inside named most sum = greatest_named s t e b g x inside named most sum

pub least_some : (s : AbstractState) (t : Term) (e : AbstractValue) (b : Bound) (g : ℤ) (r : Option ℤ) → t.name < length s.entries.now → b.term ≡ Some t → IsLeastOf (get_or s.entries.now t.name e) g → IfSome r (λ x. x ≡ (pos t.times *ℤ g) +ℤ b.add) → IfSome r (λ x. IsLeast s b x)
least_some s t e b g None inside named least sum = tt
least_some s t e b g (Some x) inside named least sum = least_named s t e b g x inside named least sum

pub less_reaches : (s : AbstractState) (b : Bound) (most least : ℤ) → IsLeast s b least → most ≤ℤ least → IsLeast s b most
less_reaches s b most least is no_more n h x it is_x = omega (arith, ints, is n h x it is_x, no_more)

pub ranges_order : (s : AbstractState) (a b : Bound) (most : ℤ) → IsGreatest s a most → IsLeast s b most → Orders s a b
ranges_order s a b most is_most is_least n h it x y is_a is_b = omega (arith, ints, is_most n h x it is_a, is_least n h y it is_b)

-- a bound that takes a name at least as often
pub multiples_order : (s : AbstractState) (a b : Bound) (x y u : Term) → a.term ≡ Some x → b.term ≡ Some y → (x.name ≡ y.name) × (u.name ≡ y.name) × (u.times + x.times ≡ y.times) → IsLeast s (record { term = Some u; add = b.add }) a.add → Orders s a b
multiples_order s a b x y u is_x is_y sums least n h it p q is_p is_q =
    let names = s.names.now in
    let left : IsNumber names h (Some x) a.add p = has_term s h a x p is_x is_p in
    let right : IsNumber names h (Some y) b.add q = has_term s h b y q is_y is_q in
    let also : alone names h x.name ≡ Some (values.Int right.0) = subst (λ i. alone names h i ≡ Some (values.Int right.0)) (sym sums.0) right.1 in
    let one : left.0 ≡ right.0 = cc (left.1, also) in
    let there : alone names h u.name ≡ Some (values.Int right.0) = subst (λ i. alone names h i ≡ Some (values.Int right.0)) (sym sums.1) right.1 in
    let rest = least n h ((pos u.times *ℤ right.0) +ℤ b.add) it (right.0, there, refl) in
    let whole : (pos (u.times + x.times) *ℤ right.0) ≡ (pos y.times *ℤ right.0) = ap (λ k. pos k *ℤ right.0) sums.2 in
    let same : (pos x.times *ℤ left.0) ≡ (pos x.times *ℤ right.0) = ap (λ k. pos x.times *ℤ k) one in
    omega (arith, ints, left.2, right.2, rest, whole, same, sum_times u.times x.times right.0)

-- a term has one number
pub one_number : (names : List (Bor (List ℕ))) (h : Bindings) (o : Option Term) (c e x y : ℤ) → IsNumber names h o c x → IsNumber names h o e y → (x -ℤ c) ≡ (y -ℤ e)
one_number names h None c e x y is_x is_y = omega (arith, ints, is_x, is_y)
one_number names h (Some t) c e x y is_x is_y =
    let same : is_x.0 ≡ is_y.0 = cc (is_x.1, is_y.1) in
    let product : (pos t.times *ℤ is_x.0) ≡ (pos t.times *ℤ is_y.0) = ap (λ q. pos t.times *ℤ q) same in
    omega (arith, ints, product, is_x.2, is_y.2)

-- another is as far from it as what is added
pub moved_number : (names : List (Bor (List ℕ))) (h : Bindings) (o : Option Term) (c e x : ℤ) → IsNumber names h o c x → IsNumber names h o e ((x -ℤ c) +ℤ e)
moved_number names h None c e x is = omega (arith, ints, is)
moved_number names h (Some t) c e x is = (is.0, is.1, omega (arith, ints, is.2))

pub sure_of : (value : AbstractValue) → value.may_lack ≡ false → value.alone.text ≡ None → IsSureOf value
sure_of value has no_text n None may = absurd (cc (has, may))
sure_of value has no_text n (Some (values.Int x)) may = (x, refl)
sure_of value has no_text n (Some (values.Text bytes)) may = absurd (cc (no_text, may.1))

pub named_sure : (s : AbstractState) (t : Term) (e : AbstractValue) (b : Bound) → t.name < length s.entries.now → b.term ≡ Some t → IsSureOf (get_or s.entries.now t.name e) → IsSure s b
named_sure s t e b inside named sure n h it =
    let x = sure n (alone s.names.now h t.name) (may_have s t.name e n h inside it) in
    ((pos t.times *ℤ x.0) +ℤ b.add, subst (λ o. IsNumber s.names.now h o b.add ((pos t.times *ℤ x.0) +ℤ b.add)) (sym named) (x.0, x.1, refl))

pub number_sure : (s : AbstractState) (b : Bound) → b.term ≡ None → IsSure s b
number_sure s b none n h it = (b.add, subst (λ o. IsNumber s.names.now h o b.add b.add) (sym none) refl)

pub named_lacks : (s : AbstractState) (t : Term) (e : AbstractValue) (b : Bound) → t.name < length s.entries.now → b.term ≡ Some t → IsNoNumber (get_or s.entries.now t.name e) → LacksNumber s b
named_lacks s t e b inside named none n h z it is =
    let at : IsNumber s.names.now h (Some t) b.add z = has_term s h b t z named is in
    none n at.0 (may_number s t e n h at.0 inside it at.1)

-- by a fact: what lies as far above its first bound as another above its second is at most that
pub orders_from : (s : AbstractState) (a b low high c : Bound) → IsMoved a low high c → IsSure s c → Orders s c b → OrdersBy s (facts.AtMost low high) a b
orders_from s a b low high c moved sure orders n h it ordered x y is_a is_b =
    let names = s.names.now in
    let z = sure n h it in
    let from : IsBound names h low ((x -ℤ a.add) +ℤ low.add) = moved_number names h low.term a.add low.add x (subst (λ o. IsNumber names h o a.add x) moved.0 is_a) in
    let to : IsBound names h high ((z.0 -ℤ c.add) +ℤ high.add) = moved_number names h high.term c.add high.add z.0 (subst (λ o. IsNumber names h o c.add z.0) moved.1 z.1) in
    omega (arith, ints, ordered _ _ from to, orders n h it z.0 y z.1 is_b, moved.2)

-- and what lies as far above its second bound is at least what lies so above its first
pub orders_up_to : (s : AbstractState) (a b low high c : Bound) → IsMoved b high low c → IsSure s c → Orders s a c → OrdersBy s (facts.AtMost low high) a b
orders_up_to s a b low high c moved sure orders n h it ordered x y is_a is_b =
    let names = s.names.now in
    let z = sure n h it in
    let from : IsBound names h low ((z.0 -ℤ c.add) +ℤ low.add) = moved_number names h low.term c.add low.add z.0 (subst (λ o. IsNumber names h o c.add z.0) moved.1 z.1) in
    let to : IsBound names h high ((y -ℤ b.add) +ℤ high.add) = moved_number names h high.term b.add high.add y (subst (λ o. IsNumber names h o b.add y) moved.0 is_b) in
    omega (arith, ints, ordered _ _ from to, orders n h it x z.0 is_a z.1, moved.2)

pub all_at : (names : List (Bor (List ℕ))) (h : Bindings) (fs : List Fact) (i : ℕ) (e : Fact) → i < length fs → AllStand names h fs → Stands names h (get_or fs i e)
all_at names h [] i e inside all = absurd (omega (arith, inside))
all_at names h (g ∷ fs) zero e inside all = all.0
all_at names h (g ∷ fs) (suc i) e inside all = all_at names h fs i e (omega (arith, inside)) all.1

pub one_orders : (s : AbstractState) (i : ℕ) (e : Fact) (a b : Bound) → i < length s.facts.now → OrdersBy s (get_or s.facts.now i e) a b → Orders s a b
one_orders s i e a b inside orders n h it = orders n h it (all_at s.names.now h s.facts.now i e inside it.facts)
