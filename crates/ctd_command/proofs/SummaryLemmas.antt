-- Digits that pass one after the other.
use Rattle.std.proofs.Common.{◌≡◌, ℕ, ◌+◌, ◌-◌, ◌*◌, ◌^◌, ◌<◌, ◌&&◌, ◌||◌, Bool, true, false, List, [], ◌∷◌, ◌++◌, length, take, get_or, min, nat_eq, refl, ap, sym, ◌∙◌, subst, arith, length-append, append_assoc}
use Rattle.std.proofs.lemmas.Bool.Decides.{nat_tests}
use Rattle.std.proofs.lemmas.List.{take_more}
use Rattle.ctd_command.specs.declared.digits.DigitSummary.{DigitSummary}
use Rattle.ctd_command.specs.Integer.{digits_value, is_zero_first}
use Rattle.ctd_command.specs.inner.Summaries.{Summarizes}
use Rattle.ctd_command.proofs.Decimal.{digits_value-append, grown_once}

later_zero : (z first zero : Bool) → first ≡ false → (z || (first && zero)) ≡ z
later_zero true first zero e = refl
later_zero false first zero e = ap (λ b. b && zero) e

zero_more : (digits : List ℕ) (d : ℕ) → (is_zero_first digits || (nat_eq (min (length digits) 2) 0 && nat_eq d 48)) ≡ is_zero_first (digits ++ d ∷ [])
zero_more [] d = refl
zero_more (x ∷ xs) d =
    let some : nat_eq (min (length (x ∷ xs)) 2) 0 ≡ false = grind (arith, nat_tests) in
    later_zero (is_zero_first (x ∷ xs)) (nat_eq (min (length (x ∷ xs)) 2) 0) (nat_eq d 48) some

pub summary_more : (old new : DigitSummary) (digits : List ℕ) (d : ℕ) → new.count ≡ min (old.count + 1) 2 → new.is_zero_first ≡ (old.is_zero_first || (nat_eq old.count 0 && nat_eq d 48)) → new.size ≡ min (old.size * 10 + (d - 48)) (2 ^ 127 + 1)
    → Summarizes old digits → Summarizes new (digits ++ d ∷ [])
summary_more old new digits d count zero size s = record {
  count = omega (arith, s.count, length-append digits (d ∷ []));
  zero = zero ∙ ap (λ z. z || (nat_eq old.count 0 && nat_eq d 48)) s.zero ∙ ap (λ n. is_zero_first digits || (nat_eq n 0 && nat_eq d 48)) s.count ∙ zero_more digits d;
  size = size ∙ grown_once old.size (digits_value digits) (d - 48) s.size ∙ ap (λ n. min n (2 ^ 127 + 1)) (sym (digits_value-append digits d));
}

pub summary_step : (s : DigitSummary) (digits bytes : List ℕ) (i : ℕ) → i < length bytes → Summarizes s ((digits ++ take i bytes) ++ get_or bytes i 0 ∷ []) → Summarizes s (digits ++ take (i + 1) bytes)
summary_step s digits bytes i within seen =
    let P : List ℕ → Type 0 = λ xs. Summarizes s xs in
    subst P (append_assoc digits (take i bytes) (get_or bytes i 0 ∷ []) ∙ ap (λ xs. digits ++ xs) (sym (take_more bytes i 0 within))) seen
