-- What is known of the variables of a run.
use Rattle.ctd_traps.proofs.Common.{JoinedStates, IsFound, AbstractState, AbstractValue, Bindings, Bor, Contains, Contains-push_cases, Context, Describes, JoinedState, List, MayBe, NameStands, Moment, None, OneDescribes, Option, Place, PossibleValues, Some, Value, [], EachStands, MayHave, ap, arith, at_drop_more, at_key, entries_in, named_values}
use Rattle.ctd_traps.proofs.Common.{drop, drop_all, false, get_or, inl, inr, ints, length, refl, subst, sym, value_at, ℕ, ◌++◌, ◌+◌, ◌<◌, ◌∷◌, ◌≡◌, ◌≤◌, ◌⊎◌, ◌∙◌}
use Rattle.ctd_elements.proofs.Bounds.{all_at}
use Rattle.ctd_elements.specs.calls.Blocks.{AllStand}
use Rattle.ctd_elements.specs.declared.fact.Fact.{Fact}
use Rattle.ctd_states.specs.calls.States.{name_at}
use Rattle.ctd_partitions.specs.calls.States.{IsCopyOf, IsStateWithin}
use Rattle.ctd_states.proofs.NamedValues.{entry_value}
use Rattle.ctd_store.specs.declared.value.Value.TheVariants as values
use Rattle.ctd_traps.specs.calls.Known.{AreSo, IsOneOf, IsSo}
use Rattle.ctd_traps.specs.declared.known.Known.{Known}
use Rattle.ctd_traps.specs.declared.known.Known.TheVariants as kinds
use Rattle.ctd_traps.specs.declared.known.KnownAt.{KnownAt}
use Rattle.ctd_traps.specs.inner.Knowing.{AreKnown, IsJoinOf, SomeStands, TellsAll}
use Rattle.ctd_traps.proofs.Absent.{none_in}

-- nothing is known, and one thing more
pub nothing_known : (names : List (Bor (List ℕ))) (h : Bindings) → AreSo names h []
nothing_known names h k has = absurd (none_in k has)

pub so_pushed : (names : List (Bor (List ℕ))) (h : Bindings) (known all : List Known) (x : Known) → all ≡ known ++ x ∷ [] → IsSo names h x → AreSo names h known → AreSo names h all
so_pushed names h known all x is one so k has = which (Contains-push_cases known x k (subst (λ l. Contains l k) is has))
  where
    which : Contains known k ⊎ (x ≡ k) → IsSo names h k
    which (inl before) = so k before
    which (inr same) = subst (IsSo names h) same one

-- a value that may be is one of those that are possible
pub may_be_one : (possible : PossibleValues) (n : ℕ) (v : Value) → MayBe possible n v → IsOneOf possible v
may_be_one possible n (values.Text bytes) may = may
may_be_one possible n (values.Int x) may = (may.0, may.1, omega (arith, ints, may.2.low), omega (arith, ints, may.2.high))

-- what an abstract value says
pub may_lack_so : (names : List (Bor (List ℕ))) (i : ℕ) (value : AbstractValue) (n : ℕ) (h : Bindings) → NameStands (name_at names i) value n h → IsSo names h (kinds.MayHave i value.alone)
may_lack_so names i value n h stands v is = may_be_one value.alone n v (subst (MayHave value n) is stands.alone)

has_so : (value : AbstractValue) (n : ℕ) (o : Option Value) → value.may_lack ≡ false → MayHave value n o → (v : Value) × (o ≡ Some v) × IsOneOf value.alone v
has_so value n None sure may = absurd (cc (sure, may))
has_so value n (Some v) sure may = (v, refl, may_be_one value.alone n v may)

pub surely_so : (names : List (Bor (List ℕ))) (i : ℕ) (value : AbstractValue) (n : ℕ) (h : Bindings) → value.may_lack ≡ false → NameStands (name_at names i) value n h → IsSo names h (kinds.Has i value.alone)
surely_so names i value n h sure stands = has_so value n (value_at h (at_key (name_at names i) [])) sure stands.alone

pub elements_so : (names : List (Bor (List ℕ))) (i : ℕ) (value : AbstractValue) (n : ℕ) (h : Bindings) → NameStands (name_at names i) value n h → IsSo names h (kinds.Elements i value.elements)
elements_so names i value n h stands j js v is = may_be_one value.elements n v (stands.elements j js v is)

-- one more abstract value of a state, and one more fact
pub value_told : (st : AbstractState) (entries : List AbstractValue) (i : ℕ) (e : AbstractValue) (old new : List Known) → entries ≡ st.entries.items → i < length entries →
    ((names : List (Bor (List ℕ))) (n : ℕ) (h : Bindings) → NameStands (name_at names i) (get_or entries i e) n h → AreSo names h old → AreSo names h new) → TellsAll st old → TellsAll st new
value_told st entries i e old new same inside more told g n h stands =
    more g.names.now n h (entry_value g.names.now entries i e (name_at g.names.now i) inside refl n h (subst (λ l. EachStands (named_values g.names.now l) n h) (sym same) stands.values)) (told g n h stands)

pub fact_told : (st : AbstractState) (fs : List Fact) (k : ℕ) (e : Fact) (old new : List Known) → fs ≡ st.facts.items → k < length fs →
    ((names : List (Bor (List ℕ))) (h : Bindings) → IsSo names h (kinds.Beside (get_or fs k e)) → AreSo names h old → AreSo names h new) → TellsAll st old → TellsAll st new
fact_told st fs k e old new same inside more told g n h stands =
    more g.names.now h (all_at g.names.now h fs k e inside (subst (AllStand g.names.now h) (sym same) stands.facts)) (told g n h stands)

-- a copy, and a join
pub copy_joins : (g : Context) (state copy : AbstractState) → IsCopyOf state copy → IsJoinOf g None state copy
copy_joins g state copy is = record {
  first = λ h none. absurd none;
  second = λ n h stands. record {
    values = subst (λ l. EachStands (entries_in g l) n h) (sym is.0) stands.values;
    facts = subst (AllStand g.names.now h) (sym is.1) stands.facts;
  };
}

pub both_join : (g : Context) (other state both : AbstractState) → IsStateWithin g other both → IsStateWithin g state both → IsJoinOf g (Some other) state both
both_join g other state both left right = record { first = λ h some. (some.0, left some.0 h some.1); second = right }

-- joined states from the front: what they describe at a place and a moment is described by one that is left, or by a state
abbrev pub LeftOr : Context → (rest whole : List JoinedState) → Place → Moment → Option AbstractState → Type 0
LeftOr g rest whole place moment all = (h : Bindings) → OneDescribes g whole place moment h → OneDescribes g rest place moment h ⊎ SomeStands g all h

next_or_left : (g : Context) (x : JoinedState) (rest : List JoinedState) (place : Place) (moment : Moment) (h : Bindings) (A B : Type 0) → (A → B) → (Describes g x place moment h → B) → OneDescribes g (x ∷ rest) place moment h ⊎ A → OneDescribes g rest place moment h ⊎ B
next_or_left g x rest place moment h A B more here (inl (inl describes)) = inr (here describes)
next_or_left g x rest place moment h A B more here (inl (inr left)) = inl left
next_or_left g x rest place moment h A B more here (inr a) = inr (more a)

pub state_next : (g : Context) (whole : List JoinedState) (i : ℕ) (x : JoinedState) (place : Place) (moment : Moment) (old new : Option AbstractState) → i < length whole → x ≡ get_or whole i x → ((h : Bindings) → SomeStands g old h → SomeStands g new h) →
    ((h : Bindings) → Describes g x place moment h → SomeStands g new h) → LeftOr g (drop i whole) whole place moment old → LeftOr g (drop (i + 1) whole) whole place moment new
state_next g whole i x place moment old new inside is more here so_far h one =
    next_or_left g x (drop (i + 1) whole) place moment h (SomeStands g old h) (SomeStands g new h) (more h) (here h) (subst (λ l. OneDescribes g l place moment h ⊎ SomeStands g old h) front (so_far h one))
  where
    front : drop i whole ≡ x ∷ drop (i + 1) whole
    front = at_drop_more (λ l. l) whole i x inside ∙ ap (λ (y : JoinedState). y ∷ drop (i + 1) whole) (sym is)

none_left : (g : Context) (place : Place) (moment : Moment) (h : Bindings) (A : Type 0) → OneDescribes g [] place moment h ⊎ A → A
none_left g place moment h A (inl one) = absurd one
none_left g place moment h A (inr a) = a

pub state_done : (g : Context) (whole : List JoinedState) (i : ℕ) (place : Place) (moment : Moment) (all : Option AbstractState) → length whole ≤ i → LeftOr g (drop i whole) whole place moment all → (h : Bindings) → OneDescribes g whole place moment h → SomeStands g all h
state_done g whole i place moment all done so_far h one = none_left g place moment h (SomeStands g all h) (subst (λ l. OneDescribes g l place moment h ⊎ SomeStands g all h) (drop_all i whole done) (so_far h one))

-- what is known by a state that describes the variables
pub told_by : (g : Context) (state : AbstractState) (known : List Known) (h : Bindings) → TellsAll state known → SomeStands g (Some state) h → AreSo g.names.now h known
told_by g state known h told some = told g some.0 h some.1

-- no places, and one more
pub no_places : (g : Context) (joined : JoinedStates) → AreKnown g joined []
no_places g joined x has = absurd (none_in x has)

pub place_pushed : (g : Context) (joined : JoinedStates) (old all : List KnownAt) (y : KnownAt) → all ≡ old ++ y ∷ [] → ((h : Bindings) → IsFound g joined y.place y.moment h → AreSo g.names.now h y.known.items) → AreKnown g joined old → AreKnown g joined all
place_pushed g joined old all y is one so x has = which (Contains-push_cases old y x (subst (λ l. Contains l x) is has))
  where
    which : Contains old x ⊎ (y ≡ x) → (h : Bindings) → IsFound g joined x.place x.moment h → AreSo g.names.now h x.known.items
    which (inl before) = so x before
    which (inr same) = subst (λ (z : KnownAt). (h : Bindings) → IsFound g joined z.place z.moment h → AreSo g.names.now h z.known.items) same one
