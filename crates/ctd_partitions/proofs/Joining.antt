-- States side by side, and what is done in each.
use Rattle.std.proofs.Common.{Err, IfOk, List, Ok, Result, [], ap, arith, drop, get_or, inl, inr, length, remove, subst, suc, sym, zero, ℕ, ◌++◌, ◌+◌, ◌<◌, ◌∙◌, ◌∷◌, ◌≡◌, ◌≤◌, ◌⊎◌}
use Rattle.std.proofs.lemmas.List.{at_drop_more, drop_all}
use Rattle.ctd_store.specs.Store.{Bindings}
use Rattle.ctd_states.specs.declared.assign.Context.{Context}
use Rattle.ctd_partitions.specs.declared.state.State.{State}
use Rattle.ctd_states.specs.calls.States.{EachStands, entries_in}
use Rattle.ctd_elements.specs.calls.Blocks.{AllStand}
use Rattle.ctd_partitions.specs.calls.States.{IsCopyOf, IsStateWithin, StateStands}
use Rattle.ctd_partitions.specs.calls.Partitions.{IsInPartition, OneStands, PartitionIsWithin}

-- a state of a list
pub state_at : (g : Context) (cs : List State) (i : ℕ) (c : State) (n : ℕ) (h : Bindings) → i < length cs → StateStands g (get_or cs i c) n h → OneStands g cs n h
state_at g [] i c n h inside stands = absurd (omega (arith, inside))
state_at g (x ∷ cs) zero c n h inside stands = inl stands
state_at g (x ∷ cs) (suc i) c n h inside stands = inr (state_at g cs i c n h (omega (arith, inside)) stands)

-- one more at the end
pub pushed_others : (g : Context) (cs : List State) (c : State) → PartitionIsWithin g cs (cs ++ c ∷ [])
pushed_others g [] c n h one = absurd one
pushed_others g (x ∷ cs) c n h (inl stands) = inl stands
pushed_others g (x ∷ cs) c n h (inr one) = inr (pushed_others g cs c n h one)

pub pushed_last : (g : Context) (cs : List State) (c : State) → IsInPartition g c (cs ++ c ∷ [])
pushed_last g [] c n h stands = inl stands
pushed_last g (x ∷ cs) c n h stands = inr (pushed_last g cs c n h stands)

-- one that is taken out, or another
past : {A B X : Type 0} → A ⊎ B → A ⊎ (X ⊎ B)
past (inl a) = inl a
past (inr b) = inr (inr b)

taken_or_left : (g : Context) (cs : List State) (i : ℕ) (c : State) (n : ℕ) (h : Bindings) → i < length cs → OneStands g cs n h → StateStands g (get_or cs i c) n h ⊎ OneStands g (remove cs i) n h
taken_or_left g [] i c n h inside one = absurd one
taken_or_left g (x ∷ cs) zero c n h inside (inl stands) = inl stands
taken_or_left g (x ∷ cs) zero c n h inside (inr one) = inr one
taken_or_left g (x ∷ cs) (suc i) c n h inside (inl stands) = inr (inl stands)
taken_or_left g (x ∷ cs) (suc i) c n h inside (inr one) = past (taken_or_left g cs i c n h (omega (arith, inside)) one)

either_of : {A B X : Type 0} → (A → X) → (B → X) → A ⊎ B → X
either_of f g (inl a) = f a
either_of f g (inr b) = g b

-- a state that was taken out, joined with one more, and put in again
pub rejoined : (g : Context) (cs rest all : List State) (i : ℕ) (c both : State) → i < length cs → c ≡ get_or cs i c → rest ≡ remove cs i → IsStateWithin g c both → PartitionIsWithin g rest all → IsInPartition g both all → PartitionIsWithin g cs all
rejoined g cs rest all i c both inside is left joined others added n h one =
    either_of (λ stands. added n h (joined n h (subst (λ (x : State). StateStands g x n h) (sym is) stands))) (λ still. others n h (subst (λ l. OneStands g l n h) (sym left) still)) (taken_or_left g cs i c n h inside one)

-- states from their front: where a run is in one of them, it is in one of the rest, or this holds
abbrev pub RestOr : Context → (rest whole : List State) → (ℕ → Bindings → Type 0) → Type 0
RestOr g rest whole done = (n : ℕ) (h : Bindings) → OneStands g whole n h → OneStands g rest n h ⊎ done n h

state_first : (cs : List State) (i : ℕ) (c : State) → i < length cs → c ≡ get_or cs i c → drop i cs ≡ c ∷ drop (i + 1) cs
state_first cs i c inside is = at_drop_more (λ l. l) cs i c inside ∙ ap (λ (x : State). x ∷ drop (i + 1) cs) (sym is)

next_state : (g : Context) (c : State) (rest : List State) (n : ℕ) (h : Bindings) (X Y : Type 0) → (X → Y) → (StateStands g c n h → Y) → OneStands g (c ∷ rest) n h ⊎ X → OneStands g rest n h ⊎ Y
next_state g c rest n h X Y more new (inl (inl stands)) = inr (new stands)
next_state g c rest n h X Y more new (inl (inr one)) = inl one
next_state g c rest n h X Y more new (inr x) = inr (more x)

pub state_done : (g : Context) (cs : List State) (i : ℕ) (c : State) (X Y : ℕ → Bindings → Type 0) → i < length cs → c ≡ get_or cs i c → ((n : ℕ) (h : Bindings) → X n h → Y n h) → ((n : ℕ) (h : Bindings) → StateStands g c n h → Y n h)
    → RestOr g (drop i cs) cs X → RestOr g (drop (i + 1) cs) cs Y
state_done g cs i c X Y inside is more new so_far n h one =
    next_state g c (drop (i + 1) cs) n h (X n h) (Y n h) (more n h) (new n h) (subst (λ l. OneStands g l n h ⊎ X n h) (state_first cs i c inside is) (so_far n h one))

none_left : (g : Context) (n : ℕ) (h : Bindings) (X : Type 0) → OneStands g [] n h ⊎ X → X
none_left g n h X (inl one) = absurd one
none_left g n h X (inr x) = x

pub states_done : (g : Context) (cs : List State) (i : ℕ) (X : ℕ → Bindings → Type 0) → length cs ≤ i → RestOr g (drop i cs) cs X → (n : ℕ) (h : Bindings) → OneStands g cs n h → X n h
states_done g cs i X all so_far n h one = none_left g n h (X n h) (subst (λ l. OneStands g l n h ⊎ X n h) (drop_all i cs all) (so_far n h one))

-- a state that is within one of the others
pub state_within : (g : Context) (cs : List State) (i : ℕ) (c state : State) → i < length cs → c ≡ get_or cs i c → IsStateWithin g state c → IsInPartition g state cs
state_within g cs i c state inside is within n h stands = state_at g cs i c n h inside (subst (λ (x : State). StateStands g x n h) is (within n h stands))

pub copy_stands : (g : Context) (st copy : State) → IsCopyOf st copy → IsStateWithin g st copy
copy_stands g st copy is n h stands = record {
  values = subst (λ l. EachStands (entries_in g l) n h) (sym is.0) stands.values;
  facts = subst (λ l. AllStand g.names.now h l) (sym is.1) stands.facts;
}

pub if_ok_more : {A E : Type 0} (P Q : A → Type 0) (r : Result A E) → ((x : A) → P x → Q x) → IfOk r P → IfOk r Q
if_ok_more P Q (Ok x) more holds = more x holds
if_ok_more P Q (Err e) more holds = tt

pub if_ok_both : {A E : Type 0} (P Q R : A → Type 0) (r : Result A E) → ((x : A) → P x → Q x → R x) → IfOk r P → IfOk r Q → IfOk r R
if_ok_both P Q R (Ok x) both first second = both x first second
if_ok_both P Q R (Err e) both first second = tt
