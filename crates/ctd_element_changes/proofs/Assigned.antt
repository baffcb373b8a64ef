-- What is so once a name without indices got a value, by what is known of it.
use Rattle.ctd_element_changes.proofs.Common.{AbstractState, AllStand, Bindings, Bor, Bound, Fact, IfSome, Index, IsBound, IsNumber, IsUpTo, List, None, Option, Some, Stands, Value, [], arith, ints, pos, subst, sym, ℕ, ℤ, ◌++◌, ◌*ℤ◌, ◌+ℤ◌, ◌-ℤ◌, ◌∷◌, ◌≡◌, ◌≤ℤ◌}
use Rattle.ctd_elements.specs.declared.limits.Limits.{Limits}
use Rattle.ctd_elements.specs.calls.Limits.{IsFrom, IsLimitedFrom, IsLimitedTo}
use Rattle.ctd_element_changes.specs.calls.Changes.{Gets, GivesName}
use Rattle.ctd_element_changes.specs.inner.Assigning.{GetsIndex, IsOnce, StandsGiven, WasLess}
use Rattle.ctd_element_changes.specs.inner.Before.{WasBound}
use Rattle.ctd_elements.specs.declared.fact.Fact.TheVariants as facts
use Rattle.ctd_store.specs.declared.value.Value.TheVariants as values
use Rattle.ctd_elements.proofs.Bounds.{moved_number}
use Rattle.ctd_element_changes.proofs.Earlier.{given, got}

pub was_less : (names : List (Bor (List ℕ))) (name : List ℕ) (exact : Option Index) (b old less : Bound) (by : ℤ) → WasBound names name exact b old → less.term ≡ old.term → less.add ≡ old.add -ℤ by → WasLess names name exact b by less
was_less names name exact b old less by was same sum h v z gets is =
    let there : IsBound names h less ((z -ℤ old.add) +ℤ less.add) = moved_number names h less.term old.add less.add z (subst (λ o. IsNumber names h o old.add z) (sym same) (was h v z gets is)) in
    let number : ((z -ℤ old.add) +ℤ less.add) ≡ (z -ℤ by) = omega (arith, ints, sum) in
    subst (λ y. IsBound names h less y) number there

one : (x : ℤ) → (pos 1 *ℤ x) ≡ x
one x = grind (arith, ints)

-- the number of a name, taken once, is the value that it got
once_number : (names : List (Bor (List ℕ))) (name : List ℕ) (exact : Option Index) (h : Bindings) (v : Value) (b : Bound) (z : ℤ) → GetsIndex names h name exact v → IsOnce names name b → IsBound names (given h name v) b z → (x : ℤ) × (v ≡ values.Int x) × (z ≡ x +ℤ b.add)
once_number names name exact h v b z gets is_once is =
    let at : IsNumber names (given h name v) (Some (record { name = is_once.0; times = 1 })) b.add z = subst (λ o. IsNumber names (given h name v) o b.add z) is_once.1 is in
    let value : v ≡ values.Int at.0 = cc (at.1, got names name exact is_once.0 h v is_once.2 gets) in
    (at.0, value, omega (arith, ints, at.2, one at.0))

pub gets_index : (names : List (Bor (List ℕ))) (h : Bindings) (name : List ℕ) (limits : Limits) (v : Value) → Gets names h name limits v → GetsIndex names h name limits.exact v
gets_index names h name limits v gets = record { free = gets.free; is = gets.is.exact }

below_number : (names : List (Bor (List ℕ))) (h : Bindings) (most : Bound) (v : Value) (x y : ℤ) → v ≡ values.Int x → IsUpTo names h (Some most) v → IsBound names h most y → x ≤ℤ y
below_number names h most v x y is up bound = (subst (λ w. IsUpTo names h (Some most) w) is up) y bound

above_number : (names : List (Bor (List ℕ))) (h : Bindings) (least : Bound) (v : Value) (x y : ℤ) → v ≡ values.Int x → IsFrom names h least v → IsBound names h least y → y ≤ℤ x
above_number names h least v x y is from bound = (subst (λ w. IsFrom names h least w) is from) y bound

pub below_given : (s : AbstractState) (name : List ℕ) (limits : Limits) (a b most : Bound) → IsOnce s.names.now name a → WasLess s.names.now name limits.exact b a.add most → IsLimitedTo s limits most → StandsGiven s name limits (facts.AtMost a b)
below_given s name limits a b most is_once less to n h v it gets x y is_x is_y =
    let names = s.names.now in
    let index = gets_index names h name limits v gets in
    let value = once_number names name limits.exact h v a x index is_once is_x in
    let there : IsBound names h most (y -ℤ a.add) = less h v y index is_y in
    omega (arith, ints, value.2, below_number names h most v value.0 (y -ℤ a.add) value.1 (to n h v it gets.is) there)

pub above_given : (s : AbstractState) (name : List ℕ) (limits : Limits) (a b least : Bound) → IsOnce s.names.now name b → WasLess s.names.now name limits.exact a b.add least → IsLimitedFrom s limits least → StandsGiven s name limits (facts.AtMost a b)
above_given s name limits a b least is_once less from n h v it gets x y is_x is_y =
    let names = s.names.now in
    let index = gets_index names h name limits v gets in
    let value = once_number names name limits.exact h v b y index is_once is_y in
    let there : IsBound names h least (x -ℤ b.add) = less h v x index is_x in
    omega (arith, ints, value.2, above_number names h least v value.0 (x -ℤ b.add) value.1 (from n h v it gets.is) there)

-- facts, one after the other
pub all_push : (names : List (Bor (List ℕ))) (h : Bindings) (fs : List Fact) (f : Fact) → AllStand names h fs → Stands names h f → AllStand names h (fs ++ f ∷ [])
all_push names h [] f all one = (one, tt)
all_push names h (g ∷ fs) f all one = (all.0, all_push names h fs f all.1 one)

pub given_push : (s : AbstractState) (name : List ℕ) (limits : Limits) (after : List Fact) (f : Fact) → GivesName s name limits after → StandsGiven s name limits f → GivesName s name limits (after ++ f ∷ [])
given_push s name limits after f all one n h v it gets = all_push s.names.now (given h name v) after f (all n h v it gets) (one n h v it gets)

pub less_some : (names : List (Bor (List ℕ))) (name : List ℕ) (exact : Option Index) (b old : Bound) (by : ℤ) (r : Option Bound) → WasBound names name exact b old → IfSome r (λ c. (c.term ≡ old.term) × (c.add ≡ old.add -ℤ by)) → IfSome r (λ c. WasLess names name exact b by c)
less_some names name exact b old by None was less = tt
less_some names name exact b old by (Some c) was less = was_less names name exact b old c by was less.0 less.1
