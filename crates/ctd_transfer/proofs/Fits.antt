-- What acts leave, step by step.
use Rattle.ctd_transfer.proofs.Common.{Bindings, BlanksOk, Bool, Effect, Err, Exact, ExpectedEof, ExpectedInt, ExpectedNewline, ExpectedSpace, FailsBy, Fault, Faults, Fits, IsAmong, LeadingZero, List}
use Rattle.ctd_transfer.proofs.Common.{LookFault, MatchTooLong, MinusZero, Mode, None, Ok, Option, OutOfRange, Reason, Result, Some, StringMismatch, TestData, WINDOW, [], ap, arith, blank_next, decide}
use Rattle.ctd_transfer.proofs.Common.{digits_of, digits_value, done, drop, end, end_in, eof, false, fault_of_look, faulty, if◌then◌else◌, in_interval, int_le, integer, ints, is_blank, is_byte, is_end}
use Rattle.ctd_transfer.proofs.Common.{is_minus, is_zero_first, judge, leading_match, length, length-take, length_at_start, lift, look, match_bytes, nat_eq, nat_lt, newline, newline_in, next_byte, not}
use Rattle.ctd_transfer.proofs.Common.{ok_or, one_byte, pass, prefix_len, prefix_len_of, proceed, refl, reject, rejected, return, see_next, shorter_match, skip_blanks, some_blanks, space, space_in, stop}
use Rattle.ctd_transfer.proofs.Common.{subst, take, true, visible, with_fault, with_sign, ℕ, ℤ, ⊤, ◌&&◌, ◌+◌, ◌∷◌, ◌≡◌, ◌≤ℤ◌, ◌≤◌}
use Rattle.ctd_source.specs.declared.spot.LookFault.TheVariants as looks
use Rattle.ctd_command.specs.State.{State}

-- some faults are among others
abbrev pub AreFaults : Faults → Faults → Type 0
AreFaults some all = (x : Fault) → IsAmong some x → IsAmong all x

-- nothing is said of the faults of looks
look_is_among : (f : Faults) (fault : LookFault) → IsAmong f (fault_of_look fault)
look_is_among f looks.Read = tt
look_is_among f looks.DataTooLong = tt

le_of : (a b : ℤ) → int_le a b ≡ true → a ≤ℤ b
le_of a b is = grind (arith, ints)

-- one act after another
pub then_fits : {A B : Type 0} (f : Faults) (middle : A → State → Type 0) (after : B → State → Type 0) (a : Effect A) (next : A → State → Effect B) → Fits f middle a → ((x : A) (t : State) → middle x t → Fits f after (next x t)) → Fits f after (proceed a next)
then_fits f middle after (done x t) next first second = second x t first
then_fits f middle after (rejected reason consumed) next first second = tt
then_fits f middle after (faulty fault consumed) next first second = first

-- the variables are as they were
abbrev pub Same : Bindings → {A : Type 0} → A → State → Type 0
Same h x t = t.store ≡ h

-- a look leaves all as it is
look_fits : {A : Type 0} (f : Faults) (r : Result A LookFault) (s : State) → Fits f (Same s.store) (lift (with_fault fault_of_look r) s)
look_fits f (Ok x) s = refl
look_fits f (Err why) s = look_is_among f why

-- one byte, or a reason
byte_fits : (f : Faults) (b : Bool) (reason : Reason) (d : TestData) (s : State) → Fits {A = ⊤} f (Same s.store) ((if b then pass 1 else reject reason) d s)
byte_fits f true reason d s = refl
byte_fits f false reason d s = tt

same_on : {A : Type 0} (f : Faults) (g h : Bindings) (a : Effect A) → g ≡ h → Fits f (Same g) a → Fits f (Same h) a
same_on f g h a same fits = subst (λ k. Fits f (Same k) a) same fits

one_byte_fits : (f : Faults) (c : ℕ) (reason : Reason) (d : TestData) (s : State) → Fits f (Same s.store) (one_byte c reason d s)
one_byte_fits f c reason d s = then_fits f (Same s.store) (Same s.store) (see_next d s) (λ next u. (if is_byte c next then pass 1 else reject reason) d u) (look_fits f (next_byte d s.offset) s)
    (λ next u same. same_on f u.store s.store _ same (byte_fits f (is_byte c next) reason d u))

end_test_fits : (f : Faults) (b : Bool) (d : TestData) (s : State) → Fits {A = ⊤} f (Same s.store) ((if b then return {A = ⊤} tt else reject ExpectedEof) d s)
end_test_fits f true d s = refl
end_test_fits f false d s = tt

eof_fits : (f : Faults) (d : TestData) (s : State) → Fits f (Same s.store) (eof d s)
eof_fits f d s = then_fits f (Same s.store) (Same s.store) (see_next d s) (λ next u. (if is_end next then return {A = ⊤} tt else reject ExpectedEof) d u) (look_fits f (next_byte d s.offset) s)
    (λ next u same. same_on f u.store s.store _ same (end_test_fits f (is_end next) d u))

skip_fits : (f : Faults) (d : TestData) (s : State) → Fits f (Same s.store) (skip_blanks d s)
skip_fits f d s =
    let p : ℕ = s.offset + prefix_len is_blank (visible d s.offset) in
    let u : State = record { offset = p; store = s.store; mode = s.mode } in
    then_fits f (Same s.store) (Same s.store) (see_next d u) (λ _ t. done tt t) (look_fits f (next_byte d p) u) (λ _ t same. same)

blanks_test_fits : (f : Faults) (b : Bool) (d : TestData) (s : State) → Fits {A = ⊤} f (Same s.store) ((if b then skip_blanks else reject ExpectedSpace) d s)
blanks_test_fits f true d s = skip_fits f d s
blanks_test_fits f false d s = tt

some_blanks_fits : (f : Faults) (d : TestData) (s : State) → Fits f (Same s.store) (some_blanks d s)
some_blanks_fits f d s = then_fits f (Same s.store) (Same s.store) (see_next d s) (λ next u. (if blank_next next then skip_blanks else reject ExpectedSpace) d u) (look_fits f (next_byte d s.offset) s)
    (λ next u same. same_on f u.store s.store _ same (blanks_test_fits f (blank_next next) d u))

space_fits_in : (f : Faults) (m : Mode) (d : TestData) (s : State) → Fits f (Same s.store) (space_in m d s)
space_fits_in f Exact d s = one_byte_fits f 32 ExpectedSpace d s
space_fits_in f BlanksOk d s = some_blanks_fits f d s

newline_fits_in : (f : Faults) (m : Mode) (d : TestData) (s : State) → Fits f (Same s.store) (newline_in m d s)
newline_fits_in f Exact d s = one_byte_fits f 10 ExpectedNewline d s
newline_fits_in f BlanksOk d s = then_fits f (Same s.store) (Same s.store) (skip_blanks d s) (λ _ u. proceed (one_byte 10 ExpectedNewline d u) (λ _ v. skip_blanks d v)) (skip_fits f d s)
    (λ _ u same. then_fits f (Same s.store) (Same s.store) (one_byte 10 ExpectedNewline d u) (λ _ v. skip_blanks d v) (same_on f u.store s.store _ same (one_byte_fits f 10 ExpectedNewline d u))
    (λ _ v same_too. same_on f v.store s.store _ same_too (skip_fits f d v)))

end_fits_in : (f : Faults) (m : Mode) (d : TestData) (s : State) → Fits f (Same s.store) (end_in m d s)
end_fits_in f Exact d s = eof_fits f d s
end_fits_in f BlanksOk d s = then_fits f (Same s.store) (Same s.store) (skip_blanks d s) (λ _ u. eof d u) (skip_fits f d s) (λ _ u same. same_on f u.store s.store _ same (eof_fits f d u))

pub space_fits : (f : Faults) (d : TestData) (s : State) → Fits f (Same s.store) (space d s)
space_fits f d s = space_fits_in f s.mode d s

pub newline_fits : (f : Faults) (d : TestData) (s : State) → Fits f (Same s.store) (newline d s)
newline_fits f d s = newline_fits_in f s.mode d s

pub end_fits : (f : Faults) (d : TestData) (s : State) → Fits f (Same s.store) (end d s)
end_fits f d s = end_fits_in f s.mode d s

-- a value of the variables
pub evaluation_fits : {A : Type 0} (f : Faults) (r : Result A Fault) (s : State) → FailsBy f r → Fits f (λ x t. (r ≡ Ok x) × (t ≡ s)) (lift r s)
evaluation_fits f (Ok x) s fails = (refl, refl)
evaluation_fits f (Err why) s fails = fails

-- the bytes of a string
pub match_fits : (f : Faults) (bytes : List ℕ) (d : TestData) (s : State) → Fits f (Same s.store) (match_bytes bytes d s)
match_fits f [] d s = refl
match_fits f (b ∷ rest) d s = then_fits f (Same s.store) (Same s.store) (one_byte b StringMismatch d s) (λ _ u. match_bytes rest d u) (one_byte_fits f b StringMismatch d s) (λ _ u same. same_on f u.store s.store _ same (match_fits f rest d u))

-- an integer between two others
abbrev pub Between : ℤ → ℤ → Bindings → ℤ → State → Type 0
Between least most h z t = (least ≤ℤ z) × (z ≤ℤ most) × (t.store ≡ h)

is_between : (least most z w : ℤ) (b c : Bool) → int_le least z ≡ b → int_le z most ≡ c → (if b && c then Some z else None) ≡ Some w → (least ≤ℤ w) × (w ≤ℤ most)
is_between least most z w true true low high is = let same : z ≡ w = cc is in (subst (λ x. least ≤ℤ x) same (le_of least z low), subst (λ x. x ≤ℤ most) same (le_of z most high))
is_between least most z w true false low high is = absurd (cc is)
is_between least most z w false c low high is = absurd (cc is)

decided_fits : (f : Faults) (least most : ℤ) (r : Result ℤ Reason) (d : TestData) (s : State) → ((z : ℤ) → r ≡ Ok z → (least ≤ℤ z) × (z ≤ℤ most)) → Fits f (Between least most s.store) (decide r d s)
decided_fits f least most (Ok z) d s between = let b = between z refl in (b.0, b.1, refl)
decided_fits f least most (Err reason) d s between = tt

or_reason : (least most : ℤ) (o : Option ℤ) (z : ℤ) → ((w : ℤ) → o ≡ Some w → (least ≤ℤ w) × (w ≤ℤ most)) → ok_or o OutOfRange ≡ Ok z → (least ≤ℤ z) × (z ≤ℤ most)
or_reason least most (Some w) z between is = let same : w ≡ z = cc is in between z (ap Some same)
or_reason least most None z between is = absurd (cc is)

judged : (least most z : ℤ) (negative : Bool) (digits : List ℕ) (a b c : Bool) (n : ℤ) → (if a then Err ExpectedInt else if b then Err LeadingZero else if c then Err MinusZero else ok_or (in_interval least most n) OutOfRange) ≡ Ok z → (least ≤ℤ z) × (z ≤ℤ most)
judged least most z negative digits true b c n is = absurd (cc is)
judged least most z negative digits false true c n is = absurd (cc is)
judged least most z negative digits false false true n is = absurd (cc is)
judged least most z negative digits false false false n is = or_reason least most (in_interval least most n) z (λ w. is_between least most n w (int_le least n) (int_le n most) refl refl) is

pub integer_fits : (f : Faults) (least most : ℤ) (d : TestData) (s : State) → Fits f (Between least most s.store) (integer least most d s)
integer_fits f least most d s =
    let rest : List ℕ = visible d s.offset in
    let u : State = record { offset = s.offset + prefix_len_of rest; store = s.store; mode = s.mode } in
    then_fits f (Same s.store) (Between least most s.store) (see_next d u) (λ _ t. decide (judge least most (is_minus rest) (digits_of rest)) d t) (look_fits f (next_byte d u.offset) u)
    (λ _ t same. subst (λ h. Fits f (Between least most h) (decide (judge least most (is_minus rest) (digits_of rest)) d t)) same
    (decided_fits f least most (judge least most (is_minus rest) (digits_of rest)) d t (λ z is. judged least most z (is_minus rest) (digits_of rest) (nat_eq (length (digits_of rest)) 0) (is_zero_first (digits_of rest) && not (is_minus rest) && nat_lt 1 (length (digits_of rest))) (is_zero_first (digits_of rest) && is_minus rest) (with_sign (is_minus rest) (digits_value (digits_of rest))) is)))

-- a match in the window
abbrev pub Short : Bindings → List ℕ → State → Type 0
Short h bytes t = (length bytes ≤ WINDOW) × (t.store ≡ h)

found_fits : (f : Faults) (b : Bool) (n : ℕ) (window : List ℕ) (d : TestData) (s : State) → length window ≤ WINDOW → Fits f (Short s.store) (proceed ((if b then stop MatchTooLong else return n) d s) (λ k t. return (take k window) d t))
found_fits f true n window d s short = tt
found_fits f false n window d s short = (omega (arith, length-take n window, short), refl)

matched_fits : (f : Faults) (n : Option ℕ) (window : List ℕ) (d : TestData) (s : State) → length window ≤ WINDOW → Fits f (Short s.store) (proceed (shorter_match n d s) (λ k t. return (take k window) d t))
matched_fits f None window d s short = tt
matched_fits f (Some n) window d s short = found_fits f (nat_eq n WINDOW) n window d s short

short_look : (n : ℕ) (d : TestData) (p : ℕ) (a b : Bool) (bytes : List ℕ) → (if a then Err looks.DataTooLong else if b then Err looks.Read else Ok (take n (drop p d.bytes))) ≡ Ok bytes → length bytes ≤ n
short_look n d p true b bytes is = absurd (cc is)
short_look n d p false true bytes is = absurd (cc is)
short_look n d p false false bytes is = let same : take n (drop p d.bytes) ≡ bytes = cc is in subst (λ l. length l ≤ n) same (omega (arith, length-take n (drop p d.bytes)))

looked_short : (d : TestData) (p : ℕ) (bytes : List ℕ) → look d p WINDOW ≡ Ok bytes → length bytes ≤ WINDOW
looked_short d p bytes is = short_look WINDOW d p (nat_lt d.limit (p + WINDOW) && nat_lt d.limit (length d.bytes)) (nat_lt (length d.bytes) (p + WINDOW) && d.broken) bytes is

window_fits : (f : Faults) (literal : List ℕ) (d : TestData) (s : State) (r : Result (List ℕ) LookFault) → ((bytes : List ℕ) → r ≡ Ok bytes → length bytes ≤ WINDOW)
    → Fits f (Short s.store) (proceed (lift (with_fault fault_of_look r) s) (λ window u. proceed (shorter_match (length_at_start literal window) d u) (λ k t. return (take k window) d t)))
window_fits f literal d s (Ok window) short = matched_fits f (length_at_start literal window) window d s (short window refl)
window_fits f literal d s (Err why) short = look_is_among f why

pub leading_fits : (f : Faults) (literal : List ℕ) (d : TestData) (s : State) → Fits f (Short s.store) (leading_match literal d s)
leading_fits f literal d s = window_fits f literal d s (look d s.offset WINDOW) (looked_short d s.offset)
