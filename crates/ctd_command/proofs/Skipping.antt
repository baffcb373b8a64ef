-- Blanks that are skipped in parts.
use Rattle.std.specs.Prelude.{⊤}
use Rattle.std.proofs.Common.{◌≡◌, ◌<◌, ◌≤◌, ℕ, ◌+◌, ◌&&◌, Bool, true, false, cond, List, [], ◌∷◌, ◌++◌, length, take, drop, get_or, refl, ap, sym, ◌∙◌, subst, arith, Option, Some, None, Result, Ok, Err, IsOk}
use Rattle.std.specs.Prelude.{slice_get}
use Rattle.std.specs.List.{list_all, prefix_len}
use Rattle.std.proofs.lemmas.List.{at_drop_more}
use Rattle.ctd_source.specs.declared.spot.LookFault.{LookFault}
use Rattle.ctd_source.specs.TestData.{TestData, next_byte, visible}
use Rattle.ctd_source.proofs.Visible.{seen_byte, seen_end, seen_fault}
use Rattle.ctd_value.specs.Fault.{with_fault, fault_of_look}
use Rattle.ctd_command.specs.Blanks.{is_blank, skip_blanks}
use Rattle.ctd_command.specs.inner.Passing.{PassesBlanks, PassesSomeBlanks}
use Rattle.ctd_command.specs.State.{State, done, faulty, proceed, lift}
use Rattle.ctd_command.proofs.DigitRuns.{front_passes}

-- how many blanks come next
abbrev blanks_at : TestData → ℕ → ℕ
blanks_at d p = prefix_len is_blank (visible d p)

-- one more element of a row
pub row_grows : (p : ℕ → Bool) (xs : List ℕ) (i k x : ℕ) → i < length xs → x ≡ get_or xs i x → p x ≡ true → k ≡ i + prefix_len p (drop i xs) → k ≡ i + 1 + prefix_len p (drop (i + 1) xs)
row_grows p xs i k x within is holds before =
    let here : prefix_len p (drop i xs) ≡ 1 + prefix_len p (drop (i + 1) xs) =
    ap (prefix_len p) (at_drop_more (λ l. l) xs i x within ∙ ap (λ y. y ∷ drop (i + 1) xs) (sym is)) ∙ ap (λ b. cond b (1 + prefix_len p (drop (i + 1) xs)) 0) holds in
    omega (arith, before, here)

-- a row ends before an element that fails
pub row_ends : (p : ℕ → Bool) (xs : List ℕ) (i k x : ℕ) → i < length xs → x ≡ get_or xs i x → p x ≡ false → k ≡ i + prefix_len p (drop i xs) → k ≡ i
row_ends p xs i k x within is fails before =
    let here : prefix_len p (drop i xs) ≡ 0 =
    ap (prefix_len p) (at_drop_more (λ l. l) xs i x within ∙ ap (λ y. y ∷ drop (i + 1) xs) (sym is)) ∙ ap (λ b. cond b (1 + prefix_len p (drop (i + 1) xs)) 0) fails in
    omega (arith, before, here)

-- blanks in front of others
first_of_all : (p : ℕ → Bool) (x : ℕ) (xs ys : List ℕ) (b : Bool) → p x ≡ b → list_all p (x ∷ xs) ≡ true → (list_all p xs ≡ true → prefix_len p (xs ++ ys) ≡ length xs + prefix_len p ys)
    → prefix_len p ((x ∷ xs) ++ ys) ≡ length (x ∷ xs) + prefix_len p ys
first_of_all p x xs ys true e all more =
    let rest : list_all p xs ≡ true = sym (ap (λ b. b && list_all p xs) e) ∙ all in
    let later = more rest in
    let here : prefix_len p ((x ∷ xs) ++ ys) ≡ 1 + prefix_len p (xs ++ ys) = ap (λ b. cond b (1 + prefix_len p (xs ++ ys)) 0) e in
    omega (arith, here, later)
first_of_all p x xs ys false e all more = let never : false ≡ true = sym (ap (λ b. b && list_all p xs) e) ∙ all in cc

all_first : (p : ℕ → Bool) (xs ys : List ℕ) → list_all p xs ≡ true → prefix_len p (xs ++ ys) ≡ length xs + prefix_len p ys
all_first p [] ys h = omega arith
all_first p (x ∷ xs) ys h = first_of_all p x xs ys (p x) refl h (λ rest. all_first p xs ys rest)

-- a run that begins with a blank has some
pub some_first : (p : ℕ → Bool) (run held : List ℕ) (byte : ℕ) → take (length run) held ≡ run → 0 < length run → slice_get held 0 ≡ Some byte → p byte ≡ true → 0 < prefix_len p run
some_first p [] held byte front some first holds = omega (arith, some)
some_first p (x ∷ xs) [] byte front some first holds = cc
some_first p (x ∷ xs) (h ∷ hs) byte front some first holds =
    let e : h ≡ x = cc in
    let f : h ≡ byte = cc in
    let t : p x ≡ true = ap p (sym e ∙ f) ∙ holds in
    omega (arith, ap (λ b. cond b (1 + prefix_len p xs) 0) t)

-- none comes next
none_by_byte : (d : TestData) (p b : ℕ) → next_byte d p ≡ Ok (Some b) → is_blank b ≡ false → blanks_at d p ≡ 0
none_by_byte d p b e other = ap (prefix_len is_blank) (seen_byte d p b e) ∙ ap (λ t. cond t (1 + prefix_len is_blank (visible d (p + 1))) 0) other

none_at_end : (d : TestData) (p : ℕ) → next_byte d p ≡ Ok None → blanks_at d p ≡ 0
none_at_end d p e = ap (prefix_len is_blank) (seen_end d p e)

none_at_fault : (d : TestData) (p : ℕ) (fault : LookFault) → next_byte d p ≡ Err fault → blanks_at d p ≡ 0
none_at_fault d p fault e = ap (prefix_len is_blank) (seen_fault d p fault e)

is_ok : (r : Result (Option ℕ) LookFault) (x : Option ℕ) → r ≡ Ok x → IsOk r
is_ok r x e = let P : Result (Option ℕ) LookFault → Type 0 = λ y. IsOk y in subst P (sym e) refl

-- at first
pub skipped_none : (d : TestData) (p : ℕ) → PassesSomeBlanks d p p
skipped_none d p = refl

-- a run of them more, from offset q, which is also called r
pub skipped_more : (d : TestData) (p q r t n : ℕ) (run : List ℕ) → r ≡ q → PassesSomeBlanks d p q → n ≡ prefix_len is_blank run → n ≤ length run → t ≡ r + length (take n run) → visible d r ≡ take n run ++ visible d t → PassesSomeBlanks d p t
skipped_more d p q r t n run same so_far is within there seen =
    let blank : list_all is_blank (take n run) ≡ true = ap (λ k. list_all is_blank (take k run)) is ∙ front_passes is_blank run in
    let count : blanks_at d r ≡ length (take n run) + blanks_at d t = ap (prefix_len is_blank) seen ∙ all_first is_blank (take n run) (visible d t) blank in
    let here : blanks_at d r ≡ blanks_at d q = ap (blanks_at d) same in
    omega (arith, so_far, count, here, there, same)

-- all of them, before another byte
pub skipped_to_byte : (d : TestData) (p q r b : ℕ) → r ≡ q → PassesSomeBlanks d p q → next_byte d q ≡ Ok (Some b) → is_blank b ≡ false → PassesBlanks d p r (Ok tt)
skipped_to_byte d p q r b same so_far next other =
    let none = none_by_byte d q b next other in
    (omega (arith, so_far, none, same), is_ok (next_byte d r) (Some b) (ap (next_byte d) same ∙ next))

-- at the end
pub skipped_to_end : (d : TestData) (p q r : ℕ) → r ≡ q → PassesSomeBlanks d p q → next_byte d q ≡ Ok None → PassesBlanks d p r (Ok tt)
skipped_to_end d p q r same so_far next =
    let none = none_at_end d q next in
    (omega (arith, so_far, none, same), is_ok (next_byte d r) None (ap (next_byte d) same ∙ next))

-- or up to a fault
pub skipped_to_fault : (d : TestData) (p q r : ℕ) (fault : LookFault) → r ≡ q → PassesSomeBlanks d p q → next_byte d q ≡ Err fault → PassesBlanks d p r (Err fault)
skipped_to_fault d p q r fault same so_far next =
    let none = none_at_fault d q fault next in
    (omega (arith, so_far, none, same), ap (next_byte d) same ∙ next)

by_next : (s : State) (q n : ℕ) (next : Result (Option ℕ) LookFault) → q ≡ s.offset + n → IsOk next
    → proceed {A = Option ℕ} {B = ⊤} (lift (with_fault fault_of_look next) (record { offset = s.offset + n; store = s.store; mode = s.mode })) (λ _ t. done tt t) ≡ done tt (record { offset = q; store = s.store; mode = s.mode })
by_next s q n (Ok x) is ok = ap (λ p. done tt (record { offset = p; store = s.store; mode = s.mode })) (sym is)
by_next s q n (Err fault) is ok = let never : false ≡ true = ok in cc

-- what passes all blanks skips them
pub skips : (d : TestData) (s : State) (q : ℕ) → PassesBlanks d s.offset q (Ok tt) → skip_blanks d s ≡ done tt (record { offset = q; store = s.store; mode = s.mode })
skips d s q p =
    let P : ℕ → Type 0 = λ k. IsOk (next_byte d k) in
    by_next s q (blanks_at d s.offset) (next_byte d (s.offset + blanks_at d s.offset)) p.0 (subst P p.0 p.1)

pub skips_to_fault : (d : TestData) (s : State) (q : ℕ) (fault : LookFault) → PassesBlanks d s.offset q (Err fault) → skip_blanks d s ≡ faulty (fault_of_look fault) q
skips_to_fault d s q fault p =
    let there : next_byte d (s.offset + blanks_at d s.offset) ≡ Err fault = ap (next_byte d) (sym p.0) ∙ p.1 in
    ap (λ next. proceed {A = Option ℕ} {B = ⊤} (lift (with_fault fault_of_look next) (record { offset = s.offset + blanks_at d s.offset; store = s.store; mode = s.mode })) (λ _ t. done tt t)) there
    ∙ ap (faulty (fault_of_look fault)) (sym p.0)
