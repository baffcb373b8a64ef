-- What partitions say of the state of a run.
use Rattle.ctd_traps.proofs.Common.{AbstractState, AbstractValue, AreNoted, Bindings, Bool, ByTurn, Context, Divides, DividesTo, EachStands, Effect, Err, Fault, Faults, Fits, Holds, List, MayBe}
use Rattle.ctd_traps.proofs.Common.{MayHave, NameStands, NamedValue, None, Noted, NotedIn, Ok, OneStands, Option, PartitionIsWithin, Place, PossibleValues, Range, Result, Some, Splits, StateStands}
use Rattle.ctd_traps.proofs.Common.{IsIn, StaysIn, TestData, TestTree, Value, Variables, [], answer, answers, arith, at_key, done, entries_in, false, faulty, inl, inr, ints, lift, noted_in, rejected}
use Rattle.ctd_traps.proofs.Common.{suc, true, truth, value_at, ℕ, ℤ, ◌*◌, ◌+◌, ◌<◌, ◌^◌, ◌∷◌, ◌≡◌}
use Rattle.ctd_store.specs.declared.value.Value.TheVariants as values
use Rattle.ctd_command.specs.State.{State}

pub holds_of : (g : Context) (pins : Variables) (states : List AbstractState) (n : ℕ) (t : State) → n < 2 ^ 64 → StaysIn g pins states n t → Holds g pins states n t
holds_of g pins states n t steps stays = record { steps = steps; pinned = stays.0; one = stays.1 }

pub tells_holds : (g : Context) (pins : Variables) (states others : List AbstractState) → PartitionIsWithin g states others → (n : ℕ) (s : State) → Holds g pins states n s → Holds g pins others n s
tells_holds g pins states others tells n s here = record { steps = here.steps; pinned = here.pinned; one = tells n s.store here.one }

-- what holds where more steps are left holds where fewer are
in_fewer : (r : Range) (n : ℕ) (x : ℤ) → IsIn r (suc n) x → IsIn r n x
in_fewer r n x i =
    let e : r.rise * suc n ≡ r.rise * n + r.rise = omega arith in
    let f : r.fall * suc n ≡ r.fall * n + r.fall = omega arith in
    let l = i.low in let h = i.high in record { low = omega (arith, ints, e, l); high = omega (arith, ints, f, h) }

may_be_fewer : (k : PossibleValues) (n : ℕ) (v : Value) → MayBe k (suc n) v → MayBe k n v
may_be_fewer k n (values.Int x) may = (may.0, may.1, in_fewer may.0 n x may.2)
may_be_fewer k n (values.Text bytes) may = may

may_have_fewer : (value : AbstractValue) (n : ℕ) (v : Option Value) → MayHave value (suc n) v → MayHave value n v
may_have_fewer value n None may = may
may_have_fewer value n (Some v) may = may_be_fewer value.alone n v may

name_fewer : (name : List ℕ) (f : AbstractValue) (n : ℕ) (h : Bindings) → NameStands name f (suc n) h → NameStands name f n h
name_fewer name f n h stands = record {
  alone = may_have_fewer f n (value_at h (at_key name [])) stands.alone;
  elements = λ i is v has. may_be_fewer f.elements n v (stands.elements i is v has);
}

each_fewer : (entries : List NamedValue) (n : ℕ) (h : Bindings) → EachStands entries (suc n) h → EachStands entries n h
each_fewer [] n h each = omega (arith, each)
each_fewer (x ∷ xs) n h each = (name_fewer x.name x.value n h each.0, each_fewer xs n h each.1)

state_fewer : (g : Context) (st : AbstractState) (n : ℕ) (h : Bindings) → StateStands g st (suc n) h → StateStands g st n h
state_fewer g st n h stands = record { values = each_fewer (entries_in g st.entries.items) n h stands.values; facts = stands.facts }

pub one_fewer : (g : Context) (states : List AbstractState) (n : ℕ) (h : Bindings) → OneStands g states (suc n) h → OneStands g states n h
one_fewer g [] n h one = one
one_fewer g (x ∷ xs) n h (inl stands) = inl (state_fewer g x n h stands)
one_fewer g (x ∷ xs) n h (inr one) = inr (one_fewer g xs n h one)

pub holds_fewer : (g : Context) (pins : Variables) (states : List AbstractState) (n : ℕ) (s : State) → Holds g pins states (suc n) s → Holds g pins states n s
holds_fewer g pins states n s here = record { steps = omega (arith, here.steps); pinned = here.pinned; one = one_fewer g states n s.store here.one }

-- a test by what it gives
answer_fits_in : (g : Context) (pins : Variables) (on_true others : List AbstractState) (f : Faults) (n : ℕ) (s : State) (r : Result Bool Fault) → s.store.pins ≡ pins → DividesTo g on_true others f n s.store r
    → Fits f (λ b t. ByTurn (StaysIn g pins on_true n) (StaysIn g pins others n) b t) (lift r s)
answer_fits_in g pins on_true others f n s (Ok true) pinned one = (pinned, one)
answer_fits_in g pins on_true others f n s (Ok false) pinned one = (pinned, one)
answer_fits_in g pins on_true others f n s (Err why) pinned among = among

pub answer_fits : (g : Context) (pins : Variables) (states on_true others : List AbstractState) (f : Faults) (t : TestTree) (d : TestData) (n : ℕ) (s : State) → Divides g states t on_true others f → StaysIn g pins states n s
    → Fits f (λ b u. ByTurn (StaysIn g pins on_true n) (StaysIn g pins others n) b u) (answer t d s)
answer_fits g pins states on_true others f t d n s divides stays = answer_fits_in g pins on_true others f n s (truth t s.store d s.offset) stays.0 (divides n s.store d s.offset stays.1)

same_state : {A : Type 0} (r : Result A Fault) (s t : State) (x : A) → lift r s ≡ done x t → s ≡ t
same_state (Ok y) s t x is = cc
same_state (Err why) s t x is = absurd (cc)

-- it leaves the state as it is
pub answer_same : (t : TestTree) (d : TestData) (s u : State) (b : Bool) → answer t d s ≡ done b u → s ≡ u
answer_same t d s u b is = same_state (truth t s.store d s.offset) s u b is

-- a test, or the begin of a turn, whose answers and faults are noted
pub splits_noted : (g : Context) (noted : Noted) (place : Place) (f : Faults) (pins : Variables) (inside outside : List AbstractState) (n : ℕ) (a : Effect Bool) → n < 2 ^ 64 → NotedIn g noted place (answers true) inside → NotedIn g noted place (answers false) outside → AreNoted noted place f →
    Fits f (λ b t. ByTurn (StaysIn g pins inside n) (StaysIn g pins outside n) b t) a → Splits (noted_in g noted) place (Holds g pins inside n) (Holds g pins outside n) a
splits_noted g noted place f pins inside outside n (done true t) less if_true if_false faults fits = record { event = if_true n t.store fits.1; holds = holds_of g pins inside n t less fits }
splits_noted g noted place f pins inside outside n (done false t) less if_true if_false faults fits = record { event = if_false n t.store fits.1; holds = holds_of g pins outside n t less fits }
splits_noted g noted place f pins inside outside n (rejected reason consumed) less if_true if_false faults fits = tt
splits_noted g noted place f pins inside outside n (faulty fault consumed) less if_true if_false faults fits = λ of_value. faults g fault of_value fits
