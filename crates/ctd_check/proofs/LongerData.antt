-- Data that broke off, and longer data that begin with them: looks, tests, and what is visible.
use Rattle.std.proofs.Common.{◌≡◌, ℕ, zero, suc, ◌+◌, ◌<◌, ◌≤◌, Bool, true, false, not, nat_lt, ◌&&◌, List, [], ◌∷◌, ◌⊎◌, inl, inr, length, take, drop, Option, Some, Result, Ok, Err, refl, ap, sym, ◌∙◌, subst, arith, le_refl, length-take, length-drop, take-take, take_all}
use Rattle.std.specs.Prelude.{if◌then◌else◌}
use Rattle.std.proofs.lemmas.List.{drop-take}
use Rattle.std.proofs.lemmas.Bool.Decides.{nat_tests}
use Rattle.ctd_source.specs.declared.spot.LookFault.{LookFault}
use Rattle.ctd_source.specs.declared.spot.LookFault.TheVariants.{Read, DataTooLong}
use Rattle.ctd_source.specs.TestData.{TestData, next_byte, first_of, look, visible, spot_at}
use Rattle.ctd_source.proofs.Agreeing.{spot_by_front}
use Rattle.ctd_source.proofs.Visible.{seen_byte}
use Rattle.ctd_program.specs.Tree
use Rattle.ctd_program.specs.Tree.{TestTree}
use Rattle.ctd_store.specs.Store.{Bindings}
use Rattle.ctd_outcome.specs.declared.reason.Fault.{Fault}
use Rattle.ctd_outcome.specs.declared.reason.Fault.TheVariants as faults
use Rattle.ctd_value.specs.Fault.{◌>>=◌, with_fault, fault_of_look}
use Rattle.ctd_value.specs.Truth.{truth}
use Rattle.ctd_value.specs.inner.Truth.{is_end, is_one_of}
use Rattle.ctd_value.specs.Val.{text_of}

-- data that broke off, and others under the same limit that begin with them
pub record Extends (d e : TestData) : Type 0 where
  pub broken : d.broken ≡ true
  pub limit : e.limit ≡ d.limit
  pub bytes : take (length d.bytes) e.bytes ≡ d.bytes

longer : (d e : TestData) → Extends d e → length d.bytes ≤ length e.bytes
longer d e x = omega (arith, ap length x.bytes, length-take (length d.bytes) e.bytes)

-- the first bytes, and the spots among them
same_front : (d e : TestData) (n : ℕ) → Extends d e → n ≤ length d.bytes → take n e.bytes ≡ take n d.bytes
same_front d e n x within = sym (take-take n (length d.bytes) e.bytes within) ∙ ap (take n) x.bytes

pub same_spot : (d e : TestData) (p : ℕ) → Extends d e → p ≤ length d.bytes → spot_at e.bytes p ≡ spot_at d.bytes p
same_spot d e p x within = spot_by_front e.bytes d.bytes p (same_front d e p x within)

-- Looks.
look_in_cases : (past long short broken : Bool) (bytes : List ℕ) → (past ≡ true → long ≡ true) → short ≡ false
    → (if past && long then Err DataTooLong else if short && broken then Err Read else Ok bytes) ≡ (if past then Err DataTooLong else Ok bytes)
look_in_cases true true short broken bytes passes is = refl
look_in_cases true false short broken bytes passes is = let h : false ≡ true = passes refl in cc
look_in_cases false long true broken bytes passes is = cc
look_in_cases false long false broken bytes passes is = refl

-- a look that stays within the data meets no end
look_in : (d : TestData) (p n : ℕ) → p + n ≤ length d.bytes → look d p n ≡ (if nat_lt d.limit (p + n) then Err DataTooLong else Ok (take n (drop p d.bytes)))
look_in d p n within =
    let passes : nat_lt d.limit (p + n) ≡ true → nat_lt d.limit (length d.bytes) ≡ true = λ h. grind (arith, nat_tests, h, within) in
    let short : nat_lt (length d.bytes) (p + n) ≡ false = grind (arith, nat_tests, within) in
    look_in_cases (nat_lt d.limit (p + n)) (nat_lt d.limit (length d.bytes)) (nat_lt (length d.bytes) (p + n)) d.broken (take n (drop p d.bytes)) passes short

same_look : (d e : TestData) (p n : ℕ) → Extends d e → p + n ≤ length d.bytes → look e p n ≡ look d p n
same_look d e p n x within =
    let far : p + n ≤ length e.bytes = omega (arith, within, longer d e x) in
    let bytes : take n (drop p e.bytes) ≡ take n (drop p d.bytes) = sym (drop-take p n e.bytes) ∙ ap (drop p) (same_front d e (p + n) x within) ∙ drop-take p n d.bytes in
    let looked : ℕ → List ℕ → Result (List ℕ) LookFault = λ limit found. if nat_lt limit (p + n) then Err DataTooLong else Ok found in
    look_in e p n far ∙ ap (λ limit. looked limit (take n (drop p e.bytes))) x.limit ∙ ap (looked d.limit) bytes ∙ sym (look_in d p n within)

too_long : (past long : Bool) (r : Result (List ℕ) LookFault) → past ≡ true → long ≡ true → (if past && long then Err DataTooLong else r) ≡ Err DataTooLong
too_long true true r p l = refl
too_long true false r p l = cc
too_long false long r p l = cc

look_past : (d : TestData) (p n : ℕ) → d.limit < p + n → d.limit < length d.bytes → look d p n ≡ Err DataTooLong
look_past d p n past long =
    let is_past : nat_lt d.limit (p + n) ≡ true = grind (arith, nat_tests, past) in
    let is_long : nat_lt d.limit (length d.bytes) ≡ true = grind (arith, nat_tests, long) in
    too_long (nat_lt d.limit (p + n)) (nat_lt d.limit (length d.bytes)) (if nat_lt (length d.bytes) (p + n) && d.broken then Err Read else Ok (take n (drop p d.bytes))) is_past is_long

-- a look at data that broke off passes the limit, as the data do, or stays within them, or is the fault that the read failed
pub data LookCase (d : TestData) (p n : ℕ) : Type 0 where
  passes_limit : d.limit < p + n → d.limit < length d.bytes → LookCase d p n
  stays : p + n ≤ length d.bytes → LookCase d p n
  fails : look d p n ≡ Err Read → length d.bytes < p + n → LookCase d p n

by_tests : (d : TestData) (p n : ℕ) (is_past is_long is_short : Bool) → nat_lt d.limit (p + n) ≡ is_past → nat_lt d.limit (length d.bytes) ≡ is_long → nat_lt (length d.bytes) (p + n) ≡ is_short
    → (if is_past && is_long then Err DataTooLong else if is_short then Err Read else Ok (take n (drop p d.bytes))) ≡ look d p n → LookCase d p n
by_tests d p n true true is_short a b c is = passes_limit (grind (arith, nat_tests, a)) (grind (arith, nat_tests, b))
by_tests d p n true false true a b c is = fails (sym is) (grind (arith, nat_tests, c))
by_tests d p n true false false a b c is = stays (grind (arith, nat_tests, c))
by_tests d p n false is_long true a b c is = fails (sym is) (grind (arith, nat_tests, c))
by_tests d p n false is_long false a b c is = stays (grind (arith, nat_tests, c))

and_true : (b c : Bool) → c ≡ true → (b && c) ≡ b
and_true true c is = is
and_true false c is = refl

look_case : (d : TestData) (p n : ℕ) → d.broken ≡ true → LookCase d p n
look_case d p n is_broken =
    let is_past : Bool = nat_lt d.limit (p + n) in
    let is_long : Bool = nat_lt d.limit (length d.bytes) in
    let is_short : Bool = nat_lt (length d.bytes) (p + n) in
    let looked : Bool → Result (List ℕ) LookFault = λ fails. if is_past && is_long then Err DataTooLong else if fails then Err Read else Ok (take n (drop p d.bytes)) in
    by_tests d p n is_past is_long is_short refl refl refl (ap looked (sym (and_true is_short d.broken is_broken)))

-- what is asked of data that broke off and of longer data: both answers are the same, or the first is the fault of the failed read and the data end early
abbrev pub SameOrRead : {A E : Type 0} → E → Type 0 → Result A E → Result A E → Type 0
SameOrRead fault Early short long = (long ≡ short) ⊎ ((short ≡ Err fault) × Early)

look_by_case : (d e : TestData) (p n : ℕ) → Extends d e → LookCase d p n → SameOrRead Read (length d.bytes < p + n) (look d p n) (look e p n)
look_by_case d e p n x (passes_limit a b) =
    let far : e.limit < p + n = omega (arith, a, x.limit) in
    let long : e.limit < length e.bytes = omega (arith, b, x.limit, longer d e x) in
    inl (look_past e p n far long ∙ sym (look_past d p n a b))
look_by_case d e p n x (stays a) = inl (same_look d e p n x a)
look_by_case d e p n x (fails is early) = inr (is, early)

pub longer_look : (d e : TestData) (p n : ℕ) → Extends d e → SameOrRead Read (length d.bytes < p + n) (look d p n) (look e p n)
longer_look d e p n x = look_by_case d e p n x (look_case d p n x.broken)

first_by_case : (Early : Type 0) (short long : Result (List ℕ) LookFault) → SameOrRead Read Early short long → SameOrRead Read Early (first_of short) (first_of long)
first_by_case Early short long (inl is) = inl (ap first_of is)
first_by_case Early short long (inr early) = inr (ap first_of early.0, early.1)

pub longer_byte : (d e : TestData) (p : ℕ) → Extends d e → SameOrRead Read (length d.bytes < p + 1) (next_byte d p) (next_byte e p)
longer_byte d e p x = first_by_case (length d.bytes < p + 1) (look d p 1) (look e p 1) (longer_look d e p 1 x)

-- Tests.
go_on : {A B : Type 0} (Early : Type 0) (r : Result A Fault) (f g : A → Result B Fault) → ((x : A) → SameOrRead faults.Read Early (f x) (g x)) → SameOrRead faults.Read Early (r >>= f) (r >>= g)
go_on Early (Ok x) f g next = next x
go_on Early (Err fault) f g next = inl refl

chain : {A B : Type 0} (Early : Type 0) (short long : Result A Fault) (f g : A → Result B Fault) → SameOrRead faults.Read Early short long → ((x : A) → SameOrRead faults.Read Early (f x) (g x))
    → SameOrRead faults.Read Early (short >>= f) (long >>= g)
chain Early short long f g (inl is) next = subst (λ r. SameOrRead faults.Read Early (short >>= f) (r >>= g)) (sym is) (go_on Early short f g next)
chain Early short long f g (inr early) next = inr (ap (λ r. r >>= f) early.0, early.1)

seen : (Early : Type 0) (short long : Result (Option ℕ) LookFault) (f : Option ℕ → Bool) → SameOrRead Read Early short long
    → SameOrRead faults.Read Early (with_fault fault_of_look short >>= λ next. Ok (f next)) (with_fault fault_of_look long >>= λ next. Ok (f next))
seen Early short long f (inl is) = inl (ap (λ r. with_fault fault_of_look r >>= λ next. Ok (f next)) is)
seen Early short long f (inr early) = inr (ap (λ r. with_fault fault_of_look r >>= λ next. Ok (f next)) early.0, early.1)

unless : (Early : Type 0) (b : Bool) (short long : Result Bool Fault) → SameOrRead faults.Read Early short long → SameOrRead faults.Read Early (if b then Ok true else short) (if b then Ok true else long)
unless Early true short long same = inl refl
unless Early false short long same = same

when : (Early : Type 0) (b : Bool) (short long : Result Bool Fault) → SameOrRead faults.Read Early short long → SameOrRead faults.Read Early (if b then short else Ok false) (if b then long else Ok false)
when Early true short long same = same
when Early false short long same = inl refl

pub longer_truth : (t : TestTree) (h : Bindings) (d e : TestData) (p : ℕ) → Extends d e → SameOrRead faults.Read (length d.bytes < p + 1) (truth t h d p) (truth t h e p)
longer_truth (Tree.or a b) h d e p x =
    chain (length d.bytes < p + 1) (truth a h d p) (truth a h e p) (λ y. if y then Ok true else truth b h d p) (λ y. if y then Ok true else truth b h e p) (longer_truth a h d e p x)
    (λ y. unless (length d.bytes < p + 1) y (truth b h d p) (truth b h e p) (longer_truth b h d e p x))
longer_truth (Tree.and a b) h d e p x =
    chain (length d.bytes < p + 1) (truth a h d p) (truth a h e p) (λ y. if y then truth b h d p else Ok false) (λ y. if y then truth b h e p else Ok false) (longer_truth a h d e p x)
    (λ y. when (length d.bytes < p + 1) y (truth b h d p) (truth b h e p) (longer_truth b h d e p x))
longer_truth (Tree.not a) h d e p x = chain (length d.bytes < p + 1) (truth a h d p) (truth a h e p) (λ y. Ok (not y)) (λ y. Ok (not y)) (longer_truth a h d e p x) (λ y. inl refl)
longer_truth (Tree.compare by a b) h d e p x = inl refl
longer_truth (Tree.matches w) h d e p x =
    go_on (length d.bytes < p + 1) (text_of w h) (λ bytes. with_fault fault_of_look (next_byte d p) >>= λ next. Ok (is_one_of bytes next)) (λ bytes. with_fault fault_of_look (next_byte e p) >>= λ next. Ok (is_one_of bytes next))
    (λ bytes. seen (length d.bytes < p + 1) (next_byte d p) (next_byte e p) (is_one_of bytes) (longer_byte d e p x))
longer_truth Tree.at_end h d e p x = seen (length d.bytes < p + 1) (next_byte d p) (next_byte e p) is_end (longer_byte d e p x)
longer_truth (Tree.unique names) h d e p x = inl refl
longer_truth (Tree.in_array w name) h d e p x = inl refl

-- The visible bytes.
take_none : (l : ℕ) → take {A = ℕ} l [] ≡ []
take_none zero = refl
take_none (suc l) = refl

take_swap : (j l : ℕ) (xs : List ℕ) → take j (take l xs) ≡ take l (take j xs)
take_swap zero l xs = sym (take_none l)
take_swap (suc j) zero xs = refl
take_swap (suc j) (suc l) [] = refl
take_swap (suc j) (suc l) (x ∷ xs) = ap (λ ys. x ∷ ys) (take_swap j l xs)

front_of_visible : (d : TestData) (p n : ℕ) → take n (visible d p) ≡ drop p (take d.limit (take (p + n) d.bytes))
front_of_visible d p n = sym (drop-take p n (take d.limit d.bytes)) ∙ ap (drop p) (take_swap (p + n) d.limit d.bytes)

-- as many as lie within the data that broke off
pub same_visible : (d e : TestData) (p n : ℕ) → Extends d e → p + n ≤ length d.bytes → take n (visible e p) ≡ take n (visible d p)
same_visible d e p n x within =
    front_of_visible e p n ∙ ap (λ bytes. drop p (take e.limit bytes)) (same_front d e (p + n) x within) ∙ ap (λ l. drop p (take l (take (p + n) d.bytes))) x.limit ∙ sym (front_of_visible d p n)

pub visible_within : (d : TestData) (p n : ℕ) → p ≤ length d.bytes → n ≤ length (visible d p) → p + n ≤ length d.bytes
visible_within d p n within few = omega (arith, few, length-drop p (take d.limit d.bytes), length-take d.limit d.bytes)

-- what is visible in longer data begins with what is visible in the data
pub begins : (d e : TestData) (p : ℕ) → Extends d e → p ≤ length d.bytes → take (length (visible d p)) (visible e p) ≡ visible d p
begins d e p x within =
    let n : ℕ = length (visible d p) in
    same_visible d e p n x (visible_within d p n within (le_refl n)) ∙ take_all n (visible d p) (le_refl n)

-- data that pass the limit show the same, however long they are
past_limit : (d e : TestData) (p : ℕ) → Extends d e → d.limit ≤ length d.bytes → visible e p ≡ visible d p
past_limit d e p x long = ap (drop p) (ap (λ l. take l e.bytes) x.limit ∙ same_front d e d.limit x long)

visible_by_case : (d e : TestData) (p n : ℕ) → Extends d e → LookCase d (p + n) 1 → (take (n + 1) (visible e p) ≡ take (n + 1) (visible d p)) ⊎ ((next_byte d (p + n) ≡ Err Read) × (length d.bytes < (p + n) + 1))
visible_by_case d e p n x (passes_limit a b) = inl (ap (take (n + 1)) (past_limit d e p x (omega (arith, b))))
visible_by_case d e p n x (stays a) = inl (same_visible d e p (n + 1) x (omega (arith, a)))
visible_by_case d e p n x (fails is early) = inr (ap first_of is, early)

-- n visible bytes and the next one: the same, or the look at the next one is the fault of the failed read
pub longer_visible : (d e : TestData) (p n : ℕ) → Extends d e → (take (n + 1) (visible e p) ≡ take (n + 1) (visible d p)) ⊎ ((next_byte d (p + n) ≡ Err Read) × (length d.bytes < (p + n) + 1))
longer_visible d e p n x = visible_by_case d e p n x (look_case d (p + n) 1 x.broken)

-- What a look gives is within the data.
pub byte_within : (d : TestData) (p b : ℕ) → next_byte d p ≡ Ok (Some b) → p + 1 ≤ length d.bytes
byte_within d p b is = omega (arith, ap length (seen_byte d p b is), length-drop p (take d.limit d.bytes), length-take d.limit d.bytes)

given_by : (past long short broken : Bool) (bytes w : List ℕ) → (if past && long then Err DataTooLong else if short && broken then Err Read else Ok bytes) ≡ Ok w → w ≡ bytes
given_by true true short broken bytes w is = cc
given_by true false true true bytes w is = cc
given_by true false true false bytes w is = cc
given_by true false false broken bytes w is = cc
given_by false long true true bytes w is = cc
given_by false long true false bytes w is = cc
given_by false long false broken bytes w is = cc

pub look_within : (d : TestData) (p n : ℕ) (w : List ℕ) → p ≤ length d.bytes → look d p n ≡ Ok w → p + length w ≤ length d.bytes
look_within d p n w within is =
    let same : w ≡ take n (drop p d.bytes) = given_by (nat_lt d.limit (p + n)) (nat_lt d.limit (length d.bytes)) (nat_lt (length d.bytes) (p + n)) d.broken (take n (drop p d.bytes)) w is in
    omega (arith, ap length same, length-take n (drop p d.bytes), length-drop p d.bytes)
