-- INT and blanks look by look, and STRING by the visible bytes.
use Rattle.std.proofs.Common.{◌≡◌, ℕ, ◌+◌, Bool, true, false, cond, nat_eq, ℤ, List, [], ◌∷◌, length, drop, Option, Some, None, Result, Ok, Err, refl, ap, sym, ◌∙◌, subst, arith}
use Rattle.std.specs.Prelude.{⊤, if◌then◌else◌}
use Rattle.std.specs.Char.{is_ascii_digit}
use Rattle.std.specs.List.{common_prefix_len, take_while}
use Rattle.std.proofs.lemmas.Bool.Decides.{nat_tests}
use Rattle.std.proofs.lemmas.List.Folds.{length-prefix_len}
use Rattle.std.proofs.lemmas.List.Sums.{take_while-cons}
use Rattle.ctd_source.specs.declared.spot.LookFault.{LookFault}
use Rattle.ctd_source.specs.TestData.{TestData, next_byte, visible, is_byte}
use Rattle.ctd_source.proofs.Visible.{seen_byte, seen_end, seen_fault}
use Rattle.ctd_value.specs.Fault.{with_fault, fault_of_look}
use Rattle.ctd_outcome.specs.declared.reason.Fault.{Fault}
use Rattle.ctd_outcome.specs.declared.reason.Reason.TheVariants.{StringMismatch}
use Rattle.ctd_command.specs.State.{State, Effect, done, rejected, faulty, Act, proceed, ◌>>=◌, return, reject, pass, lift, see_next}
use Rattle.ctd_command.specs.Integer.{judge, is_minus, digits_of}
use Rattle.ctd_command.specs.Commands.{decide, integer, match_bytes}
use Rattle.ctd_command.specs.Blanks.{is_blank, skip_blanks}
use Rattle.ctd_check.specs.calls.ByLooks.{past_one, prepend_byte, PassesWhile, byte_fits, other_byte, no_byte, look_fails, pass_visible, digits_by_looks, integer_by_looks, blanks_by_looks, mismatch, match_visible}

-- a state so many bytes on
abbrev on : ℕ → State → State
on n s = record { offset = s.offset + n; store = s.store; mode = s.mode }

abbrev with_offset : State → ℕ → State
with_offset s p = record { offset = p; store = s.store; mode = s.mode }

on_none : (s : State) → on 0 s ≡ s
on_none s = let same : s.offset + 0 ≡ s.offset = omega arith in ap (with_offset s) same

on_more : (n k : ℕ) (s : State) → k ≡ 1 + n → on n (past_one s) ≡ on k s
on_more n k s is = let same : (s.offset + 1) + n ≡ s.offset + k = omega (arith, is) in ap (with_offset s) same

-- the next byte is seen
sees : (d : TestData) (s : State) (r : Result (Option ℕ) LookFault) → next_byte d s.offset ≡ r → see_next d s ≡ lift (with_fault fault_of_look r) s
sees d s r is = ap (λ x. lift (with_fault fault_of_look x) s) is

-- what is seen is given up
flat : {A B : Type 0} (x : A) (r : Result (Option ℕ) Fault) (s : State) (next : A → State → Effect B) → proceed (proceed (lift r s) (λ _ u. done x u)) next ≡ proceed (lift r s) (λ _ u. next x u)
flat x (Ok seen) s next = refl
flat x (Err fault) s next = refl

-- Bytes that pass a test, by the first one.
while_more : (test : ℕ → Bool) (b : ℕ) (xs : List ℕ) → test b ≡ true → take_while test (b ∷ xs) ≡ b ∷ take_while test xs
while_more test b xs is = take_while-cons test b xs ∙ ap (λ c. cond c (b ∷ take_while test xs) []) is

while_none : (test : ℕ → Bool) (b : ℕ) (xs : List ℕ) → test b ≡ false → take_while test (b ∷ xs) ≡ []
while_none test b xs is = take_while-cons test b xs ∙ ap (λ c. cond c (b ∷ take_while test xs) []) is

front_of : (b : ℕ) (bytes : List ℕ) (r : Result (Option ℕ) Fault) (s : State) → proceed (lift r s) (λ _ u. done (b ∷ bytes) u) ≡ prepend_byte b (proceed (lift r s) (λ _ u. done bytes u))
front_of b bytes (Ok next) s = refl
front_of b bytes (Err fault) s = refl

-- these bytes are passed, and the next one is seen
abbrev pass_bytes : List ℕ → Act (List ℕ)
pass_bytes bytes = pass (length bytes) >>= λ _. see_next >>= λ _. return bytes

visible_more : (test : ℕ → Bool) (d : TestData) (s : State) (b : ℕ) → next_byte d s.offset ≡ Ok (Some b) → test b ≡ true → pass_visible test d s ≡ prepend_byte b (pass_visible test d (past_one s))
visible_more test d s b is fits =
    let rest : List ℕ = take_while test (visible d (s.offset + 1)) in
    let u : State = on (length rest) (past_one s) in
    let bytes : take_while test (visible d s.offset) ≡ b ∷ rest = ap (take_while test) (seen_byte d s.offset b is) ∙ while_more test b (visible d (s.offset + 1)) fits in
    let size : length (b ∷ rest) ≡ 1 + length rest = omega arith in
    let passed : pass_bytes (b ∷ rest) d s ≡ proceed (see_next d u) (λ _ v. done (b ∷ rest) v) = ap (λ v. proceed (see_next d v) (λ _ w. done (b ∷ rest) w)) (sym (on_more (length rest) (length (b ∷ rest)) s size)) in
    ap (λ bs. pass_bytes bs d s) bytes ∙ passed ∙ front_of b rest (with_fault fault_of_look (next_byte d u.offset)) u

visible_stops : (test : ℕ → Bool) (d : TestData) (s : State) (r : Result (Option ℕ) LookFault) → next_byte d s.offset ≡ r → take_while test (visible d s.offset) ≡ [] → pass_visible test d s ≡ proceed (lift (with_fault fault_of_look r) s) (λ _ u. done [] u)
visible_stops test d s r is none =
    ap (λ bs. pass_bytes bs d s) none ∙ ap (λ u. proceed (see_next d u) (λ _ v. done [] v)) (on_none s) ∙ ap (λ x. proceed x (λ _ v. done [] v)) (sees d s r is)

other_stops : (test : ℕ → Bool) (d : TestData) (s : State) (b : ℕ) → next_byte d s.offset ≡ Ok (Some b) → test b ≡ false → pass_visible test d s ≡ done [] s
other_stops test d s b is other = visible_stops test d s (Ok (Some b)) is (ap (take_while test) (seen_byte d s.offset b is) ∙ while_none test b (visible d (s.offset + 1)) other)

end_stops : (test : ℕ → Bool) (d : TestData) (s : State) → next_byte d s.offset ≡ Ok None → pass_visible test d s ≡ done [] s
end_stops test d s is = visible_stops test d s (Ok None) is (ap (take_while test) (seen_end d s.offset is))

fault_stops : (test : ℕ → Bool) (d : TestData) (s : State) (fault : LookFault) → next_byte d s.offset ≡ Err fault → pass_visible test d s ≡ faulty (fault_of_look fault) s.offset
fault_stops test d s fault is = visible_stops test d s (Err fault) is (ap (take_while test) (seen_fault d s.offset fault is))

by_test : (test : ℕ → Bool) (d : TestData) (s : State) (b : ℕ) (c : Bool) → next_byte d s.offset ≡ Ok (Some b) → test b ≡ c → PassesWhile d test (past_one s) (pass_visible test d (past_one s)) → PassesWhile d test s (pass_visible test d s)
by_test test d s b true is fits more = subst (λ a. PassesWhile d test s a) (sym (visible_more test d s b is fits)) (byte_fits is fits more)
by_test test d s b false is other more = subst (λ a. PassesWhile d test s a) (sym (other_stops test d s b is other)) (other_byte is other)

by_look : (test : ℕ → Bool) (d : TestData) (s : State) (r : Result (Option ℕ) LookFault) → next_byte d s.offset ≡ r → ((b : ℕ) → next_byte d s.offset ≡ Ok (Some b) → PassesWhile d test (past_one s) (pass_visible test d (past_one s))) → PassesWhile d test s (pass_visible test d s)
by_look test d s (Ok None) is more = subst (λ a. PassesWhile d test s a) (sym (end_stops test d s is)) (no_byte is)
by_look test d s (Ok (Some b)) is more = by_test test d s b (test b) is refl (more b is)
by_look test d s (Err fault) is more = subst (λ a. PassesWhile d test s a) (sym (fault_stops test d s fault is)) (look_fails is)

-- what is visible is seen byte by byte
seen_all : (xs : List ℕ) (test : ℕ → Bool) (d : TestData) (s : State) → visible d s.offset ≡ xs → PassesWhile d test s (pass_visible test d s)
seen_all [] test d s none = by_look test d s (next_byte d s.offset) refl (λ b is. (let wrong : [] ≡ b ∷ visible d (s.offset + 1) = sym none ∙ seen_byte d s.offset b is in cc))
seen_all (x ∷ rest) test d s some = by_look test d s (next_byte d s.offset) refl
    (λ b is. (let split : b ∷ visible d (s.offset + 1) ≡ x ∷ rest = sym (seen_byte d s.offset b is) ∙ some in let tails : visible d (s.offset + 1) ≡ rest = cc in seen_all rest test d (past_one s) tails))

pub visible_is_seen : (d : TestData) (test : ℕ → Bool) (s : State) → PassesWhile d test s (pass_visible test d s)
visible_is_seen d test s = seen_all (visible d s.offset) test d s refl

pub one_effect : (d : TestData) (test : ℕ → Bool) (s : State) (a : Effect (List ℕ)) → PassesWhile d test s a → a ≡ pass_visible test d s
one_effect d test s a (byte_fits {b} {a = rest} is fits more) = ap (prepend_byte b) (one_effect d test (past_one s) rest more) ∙ sym (visible_more test d s b is fits)
one_effect d test s a (other_byte {b} is other) = sym (other_stops test d s b is other)
one_effect d test s a (no_byte is) = sym (end_stops test d s is)
one_effect d test s a (look_fails {fault} is) = sym (fault_stops test d s fault is)

-- Blanks.
pub blanks_are_seen : (d : TestData) (s : State) → skip_blanks d s ≡ blanks_by_looks d s
blanks_are_seen d s =
    let bytes : List ℕ = take_while is_blank (visible d s.offset) in
    let u : State = on (length bytes) s in
    ap (λ n. proceed (see_next d (on n s)) (λ _ v. done tt v)) (sym (length-prefix_len is_blank (visible d s.offset))) ∙ sym (flat bytes (with_fault fault_of_look (next_byte d u.offset)) u (λ _ v. done tt v))

-- Integers.
module _ (least most : ℤ) (d : TestData) where
  abbrev read_by : Bool → List ℕ → State → Effect ℤ
  read_by minus digits s = proceed (see_next d (on ((if minus then 1 else 0) + length digits) s)) (λ _ u. decide (judge least most minus digits) d u)

  read_digits : (minus : Bool) (s : State) → proceed (see_next d (on (length (take_while is_ascii_digit (visible d s.offset))) s)) (λ _ u. decide (judge least most minus (take_while is_ascii_digit (visible d s.offset))) d u) ≡ digits_by_looks least most minus d s
  read_digits minus s =
      let digits : List ℕ = take_while is_ascii_digit (visible d s.offset) in
      let u : State = on (length digits) s in
      sym (flat digits (with_fault fault_of_look (next_byte d u.offset)) u (λ ds v. decide (judge least most minus ds) d v))

  read_parts : (s : State) (minus : Bool) (digits : List ℕ) → is_minus (visible d s.offset) ≡ minus → digits_of (visible d s.offset) ≡ digits → integer least most d s ≡ read_by minus digits s
  read_parts s minus digits sign same = ap (λ b. read_by b (digits_of (visible d s.offset)) s) sign ∙ ap (λ ds. read_by minus ds s) same

  unsigned : (s : State) → is_minus (visible d s.offset) ≡ false → integer least most d s ≡ digits_by_looks least most false d s
  unsigned s sign =
      let digits : digits_of (visible d s.offset) ≡ take_while is_ascii_digit (visible d s.offset) = ap (λ b. take_while is_ascii_digit (drop (if b then 1 else 0) (visible d s.offset))) sign in
      let found : List ℕ = take_while is_ascii_digit (visible d s.offset) in
      let size : 0 + length found ≡ length found = omega arith in
      read_parts s false found sign digits ∙ ap (λ n. proceed (see_next d (on n s)) (λ _ u. decide (judge least most false found) d u)) size ∙ read_digits false s

  negative : (s : State) (b : ℕ) → next_byte d s.offset ≡ Ok (Some b) → nat_eq b 45 ≡ true → integer least most d s ≡ digits_by_looks least most true d (past_one s)
  negative s b is minus =
      let after : List ℕ = visible d (s.offset + 1) in
      let seen : visible d s.offset ≡ b ∷ after = seen_byte d s.offset b is in
      let sign : is_minus (visible d s.offset) ≡ true = ap is_minus seen ∙ minus in
      let digits : digits_of (visible d s.offset) ≡ take_while is_ascii_digit after = ap (λ c. take_while is_ascii_digit (drop (if c then 1 else 0) (visible d s.offset))) sign ∙ ap (λ xs. take_while is_ascii_digit (drop 1 xs)) seen in
      read_parts s true (take_while is_ascii_digit after) sign digits
      ∙ ap (λ u. proceed (see_next d u) (λ _ v. decide (judge least most true (take_while is_ascii_digit after)) d v)) (sym (on_more (length (take_while is_ascii_digit after)) (1 + length (take_while is_ascii_digit after)) s refl)) ∙ read_digits true (past_one s)

  abbrev signed : Option ℕ → State → Effect ℤ
  signed next u = (if is_byte 45 next then (pass 1 >>= λ _. digits_by_looks least most true) else digits_by_looks least most false) d u

  by_sign : (s : State) (b : ℕ) (c : Bool) → next_byte d s.offset ≡ Ok (Some b) → nat_eq b 45 ≡ c → integer least most d s ≡ (if c then (pass 1 >>= λ _. digits_by_looks least most true) else digits_by_looks least most false) d s
  by_sign s b true is minus = negative s b is minus
  by_sign s b false is other = unsigned s (ap is_minus (seen_byte d s.offset b is) ∙ other)

  integer_by_case : (s : State) (r : Result (Option ℕ) LookFault) → next_byte d s.offset ≡ r → integer least most d s ≡ proceed (lift (with_fault fault_of_look r) s) signed
  integer_by_case s (Ok None) is = unsigned s (ap is_minus (seen_end d s.offset is))
  integer_by_case s (Ok (Some b)) is = by_sign s b (nat_eq b 45) is refl
  integer_by_case s (Err fault) is =
      unsigned s (ap is_minus (seen_fault d s.offset fault is)) ∙ ap (λ a. proceed a (λ digits u. decide (judge least most false digits) d u)) (fault_stops is_ascii_digit d s fault is)

  pub integers_are_seen : (s : State) → integer least most d s ≡ integer_by_looks least most d s
  integers_are_seen s = integer_by_case s (next_byte d s.offset) refl

-- Strings.
abbrev behind_front : List ℕ → ℕ → Act ⊤
behind_front wanted n = if nat_eq n (length wanted) then return tt else mismatch

differs : (d : TestData) (s : State) (w : ℕ) (ws : List ℕ) (r : Result (Option ℕ) LookFault) → next_byte d s.offset ≡ r → common_prefix_len nat_eq (w ∷ ws) (visible d s.offset) ≡ 0
    → match_visible (w ∷ ws) d s ≡ proceed (lift (with_fault fault_of_look r) s) (λ _ u. rejected StringMismatch u.offset)
differs d s w ws r is none =
    let some : nat_eq 0 (length (w ∷ ws)) ≡ false = grind (arith, nat_tests) in
    ap (λ n. behind_front (w ∷ ws) n d (on n s)) none ∙ ap (λ c. (if c then return tt else mismatch) d (on 0 s)) some ∙ ap (λ u. mismatch d u) (on_none s) ∙ ap (λ x. proceed x (λ _ u. rejected StringMismatch u.offset)) (sees d s r is)

same_byte : (d : TestData) (s : State) (w : ℕ) (ws : List ℕ) (b : ℕ) → next_byte d s.offset ≡ Ok (Some b) → nat_eq b w ≡ true → match_visible (w ∷ ws) d s ≡ match_visible ws d (past_one s)
same_byte d s w ws b is equal =
    let m : ℕ = common_prefix_len nat_eq ws (visible d (s.offset + 1)) in
    let turned : nat_eq w b ≡ true = grind (arith, nat_tests, equal) in
    let one_more : common_prefix_len nat_eq (w ∷ ws) (visible d s.offset) ≡ 1 + m = ap (common_prefix_len nat_eq (w ∷ ws)) (seen_byte d s.offset b is) ∙ ap (λ c. cond c (1 + m) 0) turned in
    let same : nat_eq (1 + m) (length (w ∷ ws)) ≡ nat_eq m (length ws) = grind (arith, nat_tests) in
    ap (λ n. behind_front (w ∷ ws) n d (on n s)) one_more ∙ ap (λ c. (if c then return tt else mismatch) d (on (1 + m) s)) same ∙ ap (λ u. behind_front ws m d u) (sym (on_more m (1 + m) s refl))

-- what is left of a string after its first byte, where that one was seen
abbrev match_rest : TestData → List ℕ → Effect ⊤ → Effect ⊤
match_rest d ws first = proceed first (λ _ u. match_bytes ws d u)

by_byte : (d : TestData) (s : State) (w : ℕ) (ws : List ℕ) (b : ℕ) (c : Bool) → next_byte d s.offset ≡ Ok (Some b) → nat_eq b w ≡ c → match_visible ws d (past_one s) ≡ match_bytes ws d (past_one s)
    → match_visible (w ∷ ws) d s ≡ match_rest d ws ((if c then pass 1 else reject StringMismatch) d s)
by_byte d s w ws b true is equal rest = same_byte d s w ws b is equal ∙ rest
by_byte d s w ws b false is other rest =
    let turned : nat_eq w b ≡ false = grind (arith, nat_tests, other) in
    let none : common_prefix_len nat_eq (w ∷ ws) (visible d s.offset) ≡ 0 = ap (common_prefix_len nat_eq (w ∷ ws)) (seen_byte d s.offset b is) ∙ ap (λ c. cond c (1 + common_prefix_len nat_eq ws (visible d (s.offset + 1))) 0) turned in
    differs d s w ws (Ok (Some b)) is none

match_by_case : (d : TestData) (s : State) (w : ℕ) (ws : List ℕ) (r : Result (Option ℕ) LookFault) → next_byte d s.offset ≡ r → match_visible ws d (past_one s) ≡ match_bytes ws d (past_one s)
    → match_visible (w ∷ ws) d s ≡ match_rest d ws (proceed (lift (with_fault fault_of_look r) s) (λ next u. (if is_byte w next then pass 1 else reject StringMismatch) d u))
match_by_case d s w ws (Ok None) is rest = differs d s w ws (Ok None) is (ap (common_prefix_len nat_eq (w ∷ ws)) (seen_end d s.offset is))
match_by_case d s w ws (Ok (Some b)) is rest = by_byte d s w ws b (nat_eq b w) is refl rest
match_by_case d s w ws (Err fault) is rest = differs d s w ws (Err fault) is (ap (common_prefix_len nat_eq (w ∷ ws)) (seen_fault d s.offset fault is))

visible_is_matched : (bytes : List ℕ) (d : TestData) (s : State) → match_visible bytes d s ≡ match_bytes bytes d s
visible_is_matched [] d s = ap (λ u. done tt u) (on_none s)
visible_is_matched (w ∷ ws) d s = match_by_case d s w ws (next_byte d s.offset) refl (visible_is_matched ws d (past_one s))

pub strings_are_visible : (bytes : List ℕ) (d : TestData) (s : State) → match_bytes bytes d s ≡ match_visible bytes d s
strings_are_visible bytes d s = sym (visible_is_matched bytes d s)
