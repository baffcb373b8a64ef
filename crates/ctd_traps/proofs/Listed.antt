-- Traps that are added to others.
use borrow.Author.Count.{below_more}
use Rattle.std.proofs.lemmas.List.{take_all, take_more}
use Rattle.std.proofs.lemmas.List.Sorted.{Contains-permutation, IsPermutation-insert, IsPermutation-map, IsPermutation-remove}
use Rattle.std.specs.List.Sorted.{IsPermutation}
use Rattle.std.specs.List.{insert, remove}
use Rattle.ctd_traps.proofs.Common.{AreListed, ArePart, Contains, Contains-append_right, Contains-push_cases, Faults, IsOfKind, List, Place, PlacedFault, Trap, TrapKind, [], ap, arith, length}
use Rattle.ctd_traps.proofs.Common.{fault_of, fault_of_kind, faults_of, get_or, inl, inr, refl, subst, sym, take, true, ℕ, ◌++◌, ◌+◌, ◌<◌, ◌∙◌, ◌∷◌, ◌≡◌, ◌≤◌, ◌⊎◌}
use Rattle.ctd_outcome.specs.declared.reason.Fault.TheVariants as faults

either_listed : {A B X : Type 0} → (A → X) → (B → X) → A ⊎ B → X
either_listed f g (inl a) = f a
either_listed f g (inr b) = g b

traps_both : (a b : List Trap) → faults_of (a ++ b) ≡ faults_of a ++ faults_of b
traps_both [] b = refl
traps_both (x ∷ a) b = ap (λ l. fault_of x ∷ l) (traps_both a b)

-- faults of traps in another order
moved : (xs ys : List Trap) → IsPermutation xs ys → ArePart (faults_of xs) (faults_of ys)
moved xs ys same t has = Contains-permutation (faults_of xs) (faults_of ys) t (IsPermutation-map fault_of xs ys same) has

-- a trap that is put between others
pub put_others : (xs all : List Trap) (i : ℕ) (x : Trap) → all ≡ insert xs i x → ArePart (faults_of xs) (faults_of all)
put_others xs all i x is t has =
    subst (λ l. Contains (faults_of l) t) (sym is) (moved (x ∷ xs) (insert xs i x) (IsPermutation-insert xs i x) t (Contains-append_right (fault_of x ∷ []) (faults_of xs) t has))

pub put_one : (xs all : List Trap) (i : ℕ) (x : Trap) → all ≡ insert xs i x → Contains (faults_of all) (fault_of x)
put_one xs all i x is =
    subst (λ l. Contains (faults_of l) (fault_of x)) (sym is) (moved (x ∷ xs) (insert xs i x) (IsPermutation-insert xs i x) (fault_of x) (0, omega arith, refl))

-- a trap that takes the place of another with the same fault
pub replaced : (xs rest all : List Trap) (i : ℕ) (old x : Trap) → i < length xs → old ≡ get_or xs i old → rest ≡ remove xs i → all ≡ insert rest i x → fault_of old ≡ fault_of x → ArePart (faults_of xs) (faults_of all)
replaced xs rest all i old x inside is left put same t has =
    let taken = moved xs (old ∷ remove xs i) (IsPermutation-remove xs i old inside is) t has in
    subst (λ l. Contains (faults_of l) t) (sym put) (moved (x ∷ rest) (insert rest i x) (IsPermutation-insert rest i x) t
    (subst (λ f. Contains (f ∷ faults_of rest) t) same (subst (λ l. Contains (fault_of old ∷ faults_of l) t) (sym left) taken)))

-- one more of some traps is listed
pub next_added : (more : List Trap) (i : ℕ) (d : Trap) (old new : List PlacedFault) → i < length more → ArePart old new → Contains new (fault_of (get_or more i d)) → ArePart (faults_of (take i more)) old → ArePart (faults_of (take (i + 1) more)) new
next_added more i d old new inside others one so_far t has =
    let split = subst (λ l. Contains l t) (ap faults_of (take_more more i d inside) ∙ traps_both (take i more) (get_or more i d ∷ [])) has in
    either_listed (λ before. others t (so_far t before)) (λ here. subst (Contains new) here one) (Contains-push_cases (faults_of (take i more)) (fault_of (get_or more i d)) t split)

pub all_added : (more : List Trap) (i : ℕ) (all : List PlacedFault) → length more ≤ i → ArePart (faults_of (take i more)) all → ArePart (faults_of more) all
all_added more i all long so_far t has = so_far t (subst (λ l. Contains (faults_of l) t) (sym (take_all i more long)) has)

-- all faults are listed
pub all_listed : (traps : List PlacedFault) (place : Place) (f : Faults) → (f.no_value ≡ true → Contains traps (record { place = place; fault = faults.Undefined })) → (f.no_element ≡ true → Contains traps (record { place = place; fault = faults.Undefined })) →
    (f.wrong_type ≡ true → Contains traps (record { place = place; fault = faults.WrongType })) → (f.overflow ≡ true → Contains traps (record { place = place; fault = faults.Overflow })) →
    (f.division_by_zero ≡ true → Contains traps (record { place = place; fault = faults.DivisionByZero })) → (f.exponent ≡ true → Contains traps (record { place = place; fault = faults.Exponent })) →
    (f.count ≡ true → Contains traps (record { place = place; fault = faults.Count })) → (f.shape ≡ true → Contains traps (record { place = place; fault = faults.Shape })) → AreListed traps place f
all_listed traps place f a b c d e g h i faults.Undefined of_value (inl is) = a is
all_listed traps place f a b c d e g h i faults.Undefined of_value (inr is) = b is
all_listed traps place f a b c d e g h i faults.WrongType of_value is = c is
all_listed traps place f a b c d e g h i faults.Overflow of_value is = d is
all_listed traps place f a b c d e g h i faults.DivisionByZero of_value is = e is
all_listed traps place f a b c d e g h i faults.Exponent of_value is = g is
all_listed traps place f a b c d e g h i faults.Count of_value is = h is
all_listed traps place f a b c d e g h i faults.Shape of_value is = i is
all_listed traps place f a b c d e g h i faults.StepLimit of_value is = absurd of_value
all_listed traps place f a b c d e g h i faults.MatchTooLong of_value is = absurd of_value
all_listed traps place f a b c d e g h i faults.DataTooLong of_value is = absurd of_value
all_listed traps place f a b c d e g h i faults.Read of_value is = absurd of_value

-- the faults of one more kind are listed
pub next_listed : (kinds : List TrapKind) (i : ℕ) (d : TrapKind) (place : Place) (f : Faults) (old new : List PlacedFault) → ArePart old new → ((k : ℕ) → k < i → IsOfKind f (get_or kinds k d) → Contains old (record { place = place; fault = fault_of_kind (get_or kinds k d) })) →
    (IsOfKind f (get_or kinds i d) → Contains new (record { place = place; fault = fault_of_kind (get_or kinds i d) })) → (k : ℕ) → k < i + 1 → IsOfKind f (get_or kinds k d) → Contains new (record { place = place; fault = fault_of_kind (get_or kinds k d) })
next_listed kinds i d place f old new more so_far here =
    below_more (λ k. IsOfKind f (get_or kinds k d) → Contains new (record { place = place; fault = fault_of_kind (get_or kinds k d) })) i (λ k less is. more (record { place = place; fault = fault_of_kind (get_or kinds k d) }) (so_far k less is)) here
