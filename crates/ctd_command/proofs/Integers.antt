-- An integer that was passed in parts.
use Rattle.std.proofs.Common.{◌≡◌, ◌≢◌, ◌<◌, ◌≤◌, ℕ, zero, suc, ◌+◌, ◌&&◌, Bool, true, false, nat_eq, List, [], ◌∷◌, ◌++◌, length, take, drop, refl, ap, sym, ◌∙◌, subst, arith, append_assoc, length-append, length-take, Option, Some, None, Result, Ok, Err, ℤ, cond, if◌then◌else◌}
use Rattle.std.specs.List.{take_while, list_all}
use Rattle.std.specs.Char.{is_ascii_digit}
use Rattle.std.proofs.lemmas.Bool.Decides.{nat_tests}
use Rattle.std.proofs.lemmas.List.{append-nil}
use Rattle.std.proofs.lemmas.List.Folds.{list_all-append}
use Rattle.std.proofs.lemmas.List.Sums.{take_while-cons}
use Rattle.ctd_source.specs.declared.spot.LookFault.{LookFault}
use Rattle.ctd_source.specs.TestData.{TestData, next_byte, visible}
use Rattle.ctd_source.specs.calls.Consistency.{CursorState, IsConsistentWith}
use Rattle.ctd_source.proofs.Visible.{seen_byte, seen_end, seen_fault, seen_run}
use Rattle.ctd_value.specs.Fault.{with_fault, fault_of_look}
use Rattle.ctd_command.proofs.DigitRuns.{run_held}
use Rattle.ctd_command.specs.declared.digits.DigitSummary.{DigitSummary}
use Rattle.ctd_command.specs.Integer.{is_minus, sign_len, digits_of, prefix_len_of, judge}
use Rattle.ctd_command.specs.inner.Summaries.{Summarizes}
use Rattle.ctd_command.specs.inner.Passing.{PassesMinus, PassesRow, PassesDigits, IsPast, StopsAt}
use Rattle.ctd_command.specs.State.{State, Effect, faulty, proceed, lift}
use Rattle.ctd_command.specs.Commands.{decide, integer}

-- no digit comes first
abbrev pub NoDigit : List ℕ → Type 0
NoDigit [] = Unit {0}
NoDigit (b ∷ bs) = is_ascii_digit b ≡ false

both_true : (a b : Bool) → (a && b) ≡ true → (a ≡ true) × (b ≡ true)
both_true true b e = (refl, e)
both_true false b e = cc

-- the digits of a row end where no digit comes
pub row_while : (row rest : List ℕ) → list_all is_ascii_digit row ≡ true → NoDigit rest → take_while is_ascii_digit (row ++ rest) ≡ row
row_while [] [] all none = refl
row_while [] (b ∷ bs) all none = take_while-cons is_ascii_digit b bs ∙ ap (λ x. cond x (b ∷ take_while is_ascii_digit bs) []) none
row_while (x ∷ xs) rest all none =
    let parts = both_true (is_ascii_digit x) (list_all is_ascii_digit xs) all in
    take_while-cons is_ascii_digit x (xs ++ rest)
    ∙ ap (λ b. cond b (x ∷ take_while is_ascii_digit (xs ++ rest)) []) parts.0
    ∙ ap (λ ys. x ∷ ys) (row_while xs rest parts.1 none)

past_by : (next : Result (Option ℕ) LookFault) (d : TestData) (q : ℕ) → next_byte d q ≡ next → IsPast next → NoDigit (visible d q)
past_by (Ok (Some byte)) d q e past = let P : List ℕ → Type 0 = λ xs. NoDigit xs in subst P (sym (seen_byte d q byte e)) past
past_by (Ok None) d q e past = let P : List ℕ → Type 0 = λ xs. NoDigit xs in subst P (sym (seen_end d q e)) tt
past_by (Err fault) d q e past = absurd past

-- nor where the digits were stopped
stop_none : (r : Result (Unit {0}) LookFault) (d : TestData) (q : ℕ) → StopsAt r (next_byte d q) → NoDigit (visible d q)
stop_none (Ok _) d q stop = past_by (next_byte d q) d q refl stop
stop_none (Err fault) d q stop = let P : List ℕ → Type 0 = λ xs. NoDigit xs in subst P (sym (seen_fault d q fault stop)) tt

plain_digits : (rest row tail : List ℕ) → is_minus rest ≡ false → rest ≡ row ++ tail → list_all is_ascii_digit row ≡ true → NoDigit tail → digits_of rest ≡ row
plain_digits rest row tail plain is all none =
    ap (λ b. take_while is_ascii_digit (drop (if b then 1 else 0) rest)) plain ∙ ap (take_while is_ascii_digit) is ∙ row_while row tail all none

signed_digits : (rest row tail : List ℕ) → rest ≡ 45 ∷ (row ++ tail) → list_all is_ascii_digit row ≡ true → NoDigit tail → digits_of rest ≡ row
signed_digits rest row tail is all none = ap digits_of is ∙ row_while row tail all none

pub minus_passed : (d : TestData) (p q byte : ℕ) → q ≡ p + 1 → byte ≡ 45 → next_byte d p ≡ Ok (Some byte) → PassesMinus d p q (Ok true)
minus_passed d p q byte one is e = (one, seen_byte d p byte e ∙ ap (λ b. b ∷ visible d (p + 1)) is ∙ ap (λ k. 45 ∷ visible d k) (sym one))

pub minus_other : (d : TestData) (p q byte : ℕ) → q ≡ p → byte ≢ 45 → next_byte d p ≡ Ok (Some byte) → PassesMinus d p q (Ok false)
minus_other d p q byte none other e =
    let differs : nat_eq byte 45 ≡ false = grind (arith, nat_tests) in
    (none, ap is_minus (seen_byte d p byte e) ∙ differs)

pub minus_end : (d : TestData) (p q : ℕ) → q ≡ p → next_byte d p ≡ Ok None → PassesMinus d p q (Ok false)
minus_end d p q none e = (none, ap is_minus (seen_end d p e))

-- no digit yet
pub row_none : (s : DigitSummary) (d : TestData) (p : ℕ) → PassesRow s s d p p
row_none s d p = record {
  row = [];
  digits = refl;
  offset = omega arith;
  visible_is = refl;
  seen = λ before seen. let P : List ℕ → Type 0 = λ xs. Summarizes s xs in subst P (sym (append-nil before)) seen;
}

-- a run of digits more
pub row_more : (a b c : DigitSummary) (d : TestData) (p q r : ℕ) (run : List ℕ) → PassesRow a b d p q → list_all is_ascii_digit run ≡ true → r ≡ q + length run → visible d q ≡ run ++ visible d r
    → ((before : List ℕ) → Summarizes b before → Summarizes c (before ++ run)) → PassesRow a c d p r
row_more a b c d p q r run f all offset is more = record {
  row = f.row ++ run;
  digits = list_all-append is_ascii_digit f.row run ∙ ap (λ x. x && list_all is_ascii_digit run) f.digits ∙ all;
  offset = omega (arith, f.offset, length-append f.row run);
  visible_is = f.visible_is ∙ ap (λ xs. f.row ++ xs) is ∙ sym (append_assoc f.row run (visible d r));
  seen = λ before seen. let P : List ℕ → Type 0 = λ xs. Summarizes c xs in subst P (append_assoc before f.row run) (more (before ++ f.row) (f.seen before seen));
}

-- what was passed stays so where a look leaves the offset
pub row_stays : (a b : DigitSummary) (d : TestData) (p q r : ℕ) → r ≡ q → PassesRow a b d p q → PassesRow a b d p r
row_stays a b d p q r same f = let P : ℕ → Type 0 = λ k. PassesRow a b d p k in subst P (sym same) f

-- a sign and digits, and where they end
pub record Passed (d : TestData) (p q : ℕ) (negative : Bool) (row : List ℕ) : Type 0 where
  pub minus : is_minus (visible d p) ≡ negative
  pub digits : digits_of (visible d p) ≡ row
  pub end : q ≡ p + prefix_len_of (visible d p)

abbrev sign_size : Bool → ℕ
sign_size negative = if negative then 1 else 0

-- the parts are those of the integer at the front
pub passed : (old new : DigitSummary) (d : TestData) (p m q : ℕ) (negative : Bool) (r : Result (Unit {0}) LookFault) → PassesMinus d p m (Ok negative) → (f : PassesDigits old new d m q r) → Passed d p q negative f.row.row
passed old new d p m q true r minus f =
    let none = stop_none r d q f.stop in
    let is : visible d p ≡ 45 ∷ (f.row.row ++ visible d q) = minus.1 ∙ ap (λ xs. 45 ∷ xs) f.row.visible_is in
    let digits = signed_digits (visible d p) f.row.row (visible d q) is f.row.digits none in
    let sign : is_minus (visible d p) ≡ true = ap is_minus is in
    record {
      minus = sign;
      digits = digits;
      end = let one : sign_len (visible d p) ≡ 1 = ap sign_size sign in omega (arith, minus.0, f.row.offset, ap length digits, one);
    }
passed old new d p m q false r minus f =
    let none = stop_none r d q f.stop in
    let is : visible d p ≡ f.row.row ++ visible d q = ap (visible d) (sym minus.0) ∙ f.row.visible_is in
    let digits = plain_digits (visible d p) f.row.row (visible d q) minus.1 is f.row.digits none in
    record {
      minus = minus.1;
      digits = digits;
      end = let nothing : sign_len (visible d p) ≡ 0 = ap sign_size minus.1 in omega (arith, minus.0, f.row.offset, ap length digits, nothing);
    }

-- an integer by where its prefix ends, what is seen there, its sign and its digits
abbrev by_parts : ℤ → ℤ → TestData → State → ℕ → Result (Option ℕ) LookFault → Bool → List ℕ → Effect ℤ
by_parts least most d s q next negative row = proceed (lift (with_fault fault_of_look next) (record { offset = q; store = s.store; mode = s.mode })) (λ _ t. decide (judge least most negative row) d t)

integer_parts : (least most : ℤ) (d : TestData) (s : State) (q : ℕ) (negative : Bool) (row : List ℕ) → Passed d s.offset q negative row → integer least most d s ≡ by_parts least most d s q (next_byte d q) negative row
integer_parts least most d s q negative row f =
    let rest = visible d s.offset in
    ap (λ k. by_parts least most d s k (next_byte d k) (is_minus rest) (digits_of rest)) (sym f.end)
    ∙ ap (λ b. by_parts least most d s q (next_byte d q) b (digits_of rest)) f.minus
    ∙ ap (λ r. by_parts least most d s q (next_byte d q) negative r) f.digits

-- a look at the end of the digits had a fault
pub integer_faulty : (least most : ℤ) (d : TestData) (s : State) (q : ℕ) (negative : Bool) (row : List ℕ) (fault : LookFault) → Passed d s.offset q negative row → next_byte d q ≡ Err fault → integer least most d s ≡ faulty (fault_of_look fault) q
integer_faulty least most d s q negative row fault f e = integer_parts least most d s q negative row f ∙ ap (λ next. by_parts least most d s q next negative row) e

-- nothing is visible where the look for the sign had a fault
pub integer_unseen : (least most : ℤ) (d : TestData) (s : State) (q : ℕ) (fault : LookFault) → PassesMinus d s.offset q (Err fault) → integer least most d s ≡ faulty (fault_of_look fault) q
integer_unseen least most d s q fault f =
    let read : List ℕ → Effect ℤ = λ xs. by_parts least most d s (s.offset + prefix_len_of xs) (next_byte d (s.offset + prefix_len_of xs)) (is_minus xs) (digits_of xs) in
    let there : s.offset + 0 ≡ q = omega (arith, f.0) in
    ap read (seen_fault d s.offset fault f.1)
    ∙ ap (λ k. by_parts least most d s k (next_byte d k) false []) there
    ∙ ap (λ next. by_parts least most d s q next false []) (ap (next_byte d) f.0 ∙ f.1)

judged_by : (next : Result (Option ℕ) LookFault) (least most : ℤ) (d : TestData) (s : State) (q : ℕ) (negative : Bool) (row : List ℕ) → Passed d s.offset q negative row → next_byte d q ≡ next → IsPast next
    → integer least most d s ≡ decide (judge least most negative row) d (record { offset = q; store = s.store; mode = s.mode })
judged_by (Ok x) least most d s q negative row f e past = integer_parts least most d s q negative row f ∙ ap (λ next. by_parts least most d s q next negative row) e
judged_by (Err fault) least most d s q negative row f e past = absurd past

-- the judgement is that of what was passed
pub integer_judged : (least most : ℤ) (d : TestData) (s : State) (q : ℕ) (negative : Bool) (row : List ℕ) → Passed d s.offset q negative row → IsPast (next_byte d q)
    → integer least most d s ≡ decide (judge least most negative row) d (record { offset = q; store = s.store; mode = s.mode })
integer_judged least most d s q negative row f past = judged_by (next_byte d q) least most d s q negative row f refl past

-- a byte that is no digit, and the end, stop the digits
pub past_digit : (byte : ℕ) (next : Result (Option ℕ) LookFault) → next ≡ Ok (Some byte) → is_ascii_digit byte ≡ false → IsPast next
past_digit byte next e other = let P : Result (Option ℕ) LookFault → Type 0 = λ r. IsPast r in subst P (sym e) other

pub past_end : (next : Result (Option ℕ) LookFault) → next ≡ Ok None → IsPast next
past_end next e = let P : Result (Option ℕ) LookFault → Type 0 = λ r. IsPast r in subst P (sym e) tt

-- nor does any byte that is looked at matter
pub integer_seen : (least most : ℤ) (d : TestData) (s : State) (q : ℕ) (negative : Bool) (row : List ℕ) (x : Option ℕ) → Passed d s.offset q negative row → next_byte d q ≡ Ok x
    → integer least most d s ≡ decide (judge least most negative row) d (record { offset = q; store = s.store; mode = s.mode })
integer_seen least most d s q negative row x f e = integer_parts least most d s q negative row f ∙ ap (λ next. by_parts least most d s q next negative row) e

no_more : (p : ℕ) → p + 0 ≡ p
no_more p = omega arith

run_seen_by : (n : ℕ) (d : TestData) (s : CursorState) (run : List ℕ) (q : ℕ) → IsConsistentWith d s → s.taken ≡ s.spot.offset + length s.held → n ≤ length run → take (length run) s.held ≡ run → length run ≤ length s.held
    → (0 < length run → s.spot.offset + length run ≤ s.limit) → q ≡ s.spot.offset + n → visible d s.spot.offset ≡ take n run ++ visible d q
run_seen_by zero d s run q h counted part front within limit offset = ap (visible d) (sym (offset ∙ no_more s.spot.offset))
run_seen_by (suc m) d s run q h counted part front within limit offset =
    let len : length (take (suc m) run) ≡ suc m = omega (arith, length-take (suc m) run) in
    let same : s.spot.offset + length (take (suc m) run) ≡ q = omega (arith, offset) in
    let before : s.spot.offset + length run ≤ s.limit = limit (omega arith) in
    seen_run d s (take (suc m) run) h counted (run_held run s.held (suc m) part front) (omega arith) (omega arith) ∙ ap (λ k. take (suc m) run ++ visible d k) same

-- the front of a run that is held is seen
pub run_seen : (d : TestData) (s : CursorState) (run : List ℕ) (n q : ℕ) → IsConsistentWith d s → s.taken ≡ s.spot.offset + length s.held → n ≤ length run → take (length run) s.held ≡ run → length run ≤ length s.held
    → (0 < length run → s.spot.offset + length run ≤ s.limit) → q ≡ s.spot.offset + n → (q ≡ s.spot.offset + length (take n run)) × (visible d s.spot.offset ≡ take n run ++ visible d q)
run_seen d s run n q h counted part front within limit offset =
    let len : length (take n run) ≡ n = omega (arith, length-take n run) in
    let same : s.spot.offset + length (take n run) ≡ q = omega (arith, offset) in
    (sym same, run_seen_by n d s run q h counted part front within limit offset)
