-- What is still so whatever became of a name.
use Rattle.ctd_element_changes.proofs.Common.{AreExcepted, Bindings, Bor, Bound, Fact, Filling, Has, HasValue, IsBound, IsUpTo, Keys, List, None, Option, Some, Value, [], at_key, get_or, inl, inr, length, name_at, subst, sym, value_at, ℕ, ◌++◌, ◌<◌, ◌∙◌, ◌∷◌, ◌≡◌, ◌≢◌, ◌⊎◌, ℤ}
use Rattle.ctd_element_changes.specs.calls.Changes.{AgreeBeside, KeepsBeside}
use Rattle.ctd_element_changes.specs.inner.Free.{BlockIsFree, BoundIsFree, ExceptionIsFree, MostIsFree}
use Rattle.ctd_element_changes.specs.inner.Beside.{StaysBeside}
use Rattle.ctd_elements.specs.declared.fact.Fact.TheVariants as facts
use Rattle.ctd_store.specs.declared.value.Value.TheVariants as values
use Rattle.ctd_elements.proofs.Bounds.{all_at}
use Rattle.ctd_element_changes.proofs.Assigned.{all_push}
use Rattle.ctd_element_changes.proofs.Sameness.{AreSameBut, free_block, free_bound, free_exception}

kept : (name other : List ℕ) (h after : Bindings) (is : List Value) → AgreeBeside name h after → other ≢ name → value_at after (at_key other is) ≡ value_at h (at_key other is)
kept name other h after is agree apart = agree (at_key other is) apart

after_same : (names : List (Bor (List ℕ))) (name : List ℕ) (h after : Bindings) → AgreeBeside name h after → AreSameBut names name after h
after_same names name h after agree j apart = kept name (name_at names j) h after [] agree apart

back_same : (names : List (Bor (List ℕ))) (name : List ℕ) (h after : Bindings) → AgreeBeside name h after → AreSameBut names name h after
back_same names name h after agree j apart = sym (kept name (name_at names j) h after [] agree apart)

-- how two numbers compare, wherever both bounds have numbers
pub numbers_stay : (R : ℤ → ℤ → Type 0) (names : List (Bor (List ℕ))) (name : List ℕ) (a b : Bound) (h after : Bindings) → BoundIsFree names name a → BoundIsFree names name b → AgreeBeside name h after
    → ((x y : ℤ) → IsBound names h a x → IsBound names h b y → R x y) → (x y : ℤ) → IsBound names after a x → IsBound names after b y → R x y
numbers_stay R names name a b h after free also agree compared x y is_x is_y =
    compared x y (free_bound names name after h a x (after_same names name h after agree) free is_x) (free_bound names name after h b y (after_same names name h after agree) also is_y)

most_stays : (names : List (Bor (List ℕ))) (name : List ℕ) (h after : Bindings) (o : Option Bound) (v : Value) → AgreeBeside name h after → MostIsFree names name o → IsUpTo names h o v → IsUpTo names after o v
most_stays names name h after None v agree free up = tt
most_stays names name h after (Some m) (values.Text bytes) agree free up = up
most_stays names name h after (Some m) (values.Int x) agree free up = λ z is. up z (free_bound names name after h m z (after_same names name h after agree) free is)

pub filling_stays : (names : List (Bor (List ℕ))) (name : List ℕ) (f : Filling) → name_at names f.array ≢ name → BlockIsFree names name f.block → MostIsFree names name f.most → StaysBeside names name (facts.Filled f)
filling_stays names name f apart block most h after agree stands is on =
    let here : HasValue names h f.array is f.most = stands is (free_block names name after h f.block is (after_same names name h after agree) block on) in
    record { value = here.value; is = kept name (name_at names f.array) h after is agree apart ∙ here.is; up_to = most_stays names name h after f.most here.value agree most here.up_to }

keys_carried : (names : List (Bor (List ℕ))) (name : List ℕ) (h after : Bindings) (k : Keys) (xs ys : List Value) → AgreeBeside name h after → name_at names k.other ≢ name → ExceptionIsFree names name k.except →
    Has names h k.other xs ⊎ AreExcepted names h k.except ys → Has names after k.other xs ⊎ AreExcepted names after k.except ys
keys_carried names name h after k xs ys agree apart free (inl has) = inl (has.0, kept name (name_at names k.other) h after xs agree apart ∙ has.1)
keys_carried names name h after k xs ys agree apart free (inr on) = inr (free_exception names name h after k.except ys (back_same names name h after agree) free on)

pub within_stays : (names : List (Bor (List ℕ))) (name : List ℕ) (k : Keys) → name_at names k.array ≢ name → name_at names k.other ≢ name → ExceptionIsFree names name k.except → StaysBeside names name (facts.KeysWithin k)
within_stays names name k apart also free h after agree stands i v is has = keys_carried names name h after k (i ∷ is) (i ∷ is) agree also free (stands i v is (sym (kept name (name_at names k.array) h after (i ∷ is) agree apart) ∙ has))

pub values_stay : (names : List (Bor (List ℕ))) (name : List ℕ) (k : Keys) → name_at names k.array ≢ name → name_at names k.other ≢ name → ExceptionIsFree names name k.except → StaysBeside names name (facts.ValuesAreKeys k)
values_stay names name k apart also free h after agree stands i v is has = keys_carried names name h after k (v ∷ []) (i ∷ is) agree also free (stands i v is (sym (kept name (name_at names k.array) h after (i ∷ is) agree apart) ∙ has))

pub fact_stays : (names : List (Bor (List ℕ))) (name : List ℕ) (fact f : Fact) → fact ≡ f → StaysBeside names name f → StaysBeside names name fact
fact_stays names name fact f is stays = subst (λ (q : Fact). StaysBeside names name q) (sym is) stays

pub beside_push : (names : List (Bor (List ℕ))) (fs : List Fact) (name : List ℕ) (kept : List Fact) (i : ℕ) (e : Fact) → i < length fs → StaysBeside names name (get_or fs i e) → KeepsBeside names fs name kept → KeepsBeside names fs name (kept ++ get_or fs i e ∷ [])
beside_push names fs name kept i e inside stays before h after agree all = all_push names after kept (get_or fs i e) (before h after agree all) (stays h after agree (all_at names h fs i e inside all))
