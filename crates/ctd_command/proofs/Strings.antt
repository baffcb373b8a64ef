-- A string that is passed in parts.
use Rattle.std.specs.Prelude.{⊤}
use Rattle.std.proofs.Common.{◌≡◌, ◌<◌, ◌≤◌, ℕ, ◌+◌, Bool, true, false, OnOk, nat_eq, List, [], ◌∷◌, ◌++◌, length, take, drop, refl, ap, sym, ◌∙◌, subst, arith, length-take, length-drop, min, Option, Some, None, Result, Ok, Err, cond, if◌then◌else◌, IsOk}
use Rattle.std.specs.List.{common_prefix_len}
use Rattle.std.proofs.lemmas.List.Sums.{common_prefix_len-le}
use Rattle.std.proofs.lemmas.Bool.Decides.{nat_tests}
use Rattle.std.proofs.lemmas.List.{take-append-drop}
use Rattle.std.specs.Result.{IsErr, IsErrAnd}
use Rattle.ctd_source.specs.declared.cursor.Cursor.{Cursor}
use Rattle.ctd_source.specs.declared.source.Source.{Ghosts}
use Rattle.ctd_source.specs.declared.spot.LookFault.{LookFault}
use Rattle.ctd_source.specs.calls.Received.{AdvancesSuchThat}
use Rattle.ctd_source.proofs.AdvanceLemmas.{advances_so}
use Rattle.ctd_source.specs.TestData.{TestData, next_byte, visible, is_byte}
use Rattle.ctd_source.proofs.Visible.{seen_byte, seen_end, seen_fault}
use Rattle.ctd_store.specs.Store.{Bindings}
use Rattle.ctd_value.specs.Fault.{with_fault, fault_of_look}
use Rattle.ctd_command.specs.declared.failure.CommandFailure.{CommandFailure}
use Rattle.ctd_command.specs.declared.failure.Failure.TheVariants.{Stopped}
use Rattle.ctd_program.specs.declared.mode.Mode.{Mode}
use Rattle.ctd_outcome.specs.declared.reason.Reason.TheVariants.{StringMismatch}
use Rattle.ctd_command.specs.State.{State, Effect, Act, rejected, faulty, proceed, reject, pass, lift}
use Rattle.ctd_command.specs.Commands.{match_bytes}
use Rattle.ctd_command.specs.inner.Passing.{PassesPrefix, PassesSome}
use Rattle.ctd_command.specs.inner.Alone.{DoesAlone}
use Rattle.ctd_command.specs.calls.Performs.{Does, Performs}
use Rattle.ctd_command.specs.declared.machine.Run.{Run}
use Rattle.ctd_command.proofs.Acts.{with_cursor}
use Rattle.ctd_command.proofs.Lists.{no_bytes}

-- a state that stands there
abbrev pub at_offset : ℕ → Bindings → Mode → State
at_offset p store mode = record { offset = p; store = store; mode = mode }

same_byte : (c : ℕ) → nat_eq c c ≡ true
same_byte c = grind (arith, nat_tests)

-- a front that both have agrees
front_both : (x a b : List ℕ) → common_prefix_len nat_eq (x ++ a) (x ++ b) ≡ length x + common_prefix_len nat_eq a b
front_both [] a b = omega arith
front_both (c ∷ cs) a b =
    let more = front_both cs a b in
    let first : cond (nat_eq c c) (1 + common_prefix_len nat_eq (cs ++ a) (cs ++ b)) 0 ≡ 1 + common_prefix_len nat_eq (cs ++ a) (cs ++ b) = ap (λ t. cond t (1 + common_prefix_len nat_eq (cs ++ a) (cs ++ b)) 0) (same_byte c) in
    first ∙ omega (arith, more)

-- where one is all of the front of the other, all of it agrees
pub all_agree : (m : ℕ) (wanted bytes : List ℕ) → m ≡ min (length wanted) (length bytes) → take m wanted ≡ take m bytes → m ≡ common_prefix_len nat_eq wanted bytes
all_agree m wanted bytes is same =
    let a = drop m wanted in
    let b = drop m bytes in
    let le = common_prefix_len-le nat_eq a b in
    let split : common_prefix_len nat_eq wanted bytes ≡ length (take m wanted) + common_prefix_len nat_eq a b =
    ap (λ xs. common_prefix_len nat_eq xs bytes) (sym (take-append-drop m wanted))
    ∙ ap (common_prefix_len nat_eq (take m wanted ++ a)) (sym (take-append-drop m bytes) ∙ ap (λ front. front ++ b) (sym same))
    ∙ front_both (take m wanted) a b in
    omega (arith, split, le.0, le.1, length-take m wanted, length-drop m wanted, length-drop m bytes, is)

-- a byte that comes next where it is visible first
next_by : (r : Result (Option ℕ) LookFault) (d : TestData) (p c : ℕ) (rest : List ℕ) → next_byte d p ≡ r → visible d p ≡ c ∷ rest → (next_byte d p ≡ Ok (Some c)) × (visible d (p + 1) ≡ rest)
next_by (Ok (Some b)) d p c rest next is =
    let split : b ∷ visible d (p + 1) ≡ c ∷ rest = sym (seen_byte d p b next) ∙ is in
    let first : b ≡ c = cc in
    let tails : visible d (p + 1) ≡ rest = cc in
    (next ∙ ap (λ x. Ok (Some x)) first, tails)
next_by (Ok None) d p c rest next is = let wrong : [] ≡ c ∷ rest = sym (seen_end d p next) ∙ is in cc
next_by (Err fault) d p c rest next is = let wrong : [] ≡ c ∷ rest = sym (seen_fault d p fault next) ∙ is in cc

-- what matching bytes does, by a look at the next one
abbrev by_next : TestData → State → ℕ → List ℕ → Result (Option ℕ) LookFault → Effect ⊤
by_next d s c cs next = proceed (proceed (lift (with_fault fault_of_look next) s) (λ x t. (if is_byte c x then pass 1 else reject StringMismatch) d t)) (λ _ t. match_bytes cs d t)

abbrev by_test : TestData → State → List ℕ → Bool → Effect ⊤
by_test d s cs same = proceed ((if same then pass 1 else reject StringMismatch) d s) (λ _ t. match_bytes cs d t)

-- a front that is visible is passed
front_more : (d : TestData) (s : State) (front rest : List ℕ) (q : ℕ) → q ≡ s.offset + length front → visible d s.offset ≡ front ++ visible d q → match_bytes (front ++ rest) d s ≡ match_bytes rest d (record { offset = q; store = s.store; mode = s.mode })
front_more d s [] rest q offset is = let same : s.offset ≡ q = omega (arith, offset) in ap (λ p. match_bytes rest d (record { offset = p; store = s.store; mode = s.mode })) same
front_more d s (c ∷ cs) rest q offset is =
    let next = next_by (next_byte d s.offset) d s.offset c (cs ++ visible d q) refl is in
    let later : q ≡ s.offset + 1 + length cs = omega (arith, offset) in
    ap (by_next d s c (cs ++ rest)) next.0
    ∙ ap (by_test d s (cs ++ rest)) (same_byte c)
    ∙ front_more d (record { offset = s.offset + 1; store = s.store; mode = s.mode }) cs rest q later next.1

-- two bytes that do not agree
other_byte : (same : Bool) (c b n : ℕ) → nat_eq c b ≡ same → cond same (1 + n) 0 ≡ 0 → nat_eq b c ≡ false
other_byte true c b n is none = let never : 1 + n ≡ 0 = none in absurd (omega (arith, never))
other_byte false c b n is none = grind (arith, nat_tests, is)

differs_by : (r : Result (Option ℕ) LookFault) (d : TestData) (s : State) (c : ℕ) (cs : List ℕ) → next_byte d s.offset ≡ r → IsOk r → common_prefix_len nat_eq (c ∷ cs) (visible d s.offset) ≡ 0 → match_bytes (c ∷ cs) d s ≡ rejected StringMismatch s.offset
differs_by (Ok None) d s c cs next seen none = ap (by_next d s c cs) next
differs_by (Ok (Some b)) d s c cs next seen none =
    let later = common_prefix_len nat_eq cs (visible d (s.offset + 1)) in
    let first : cond (nat_eq c b) (1 + later) 0 ≡ 0 = ap (common_prefix_len nat_eq (c ∷ cs)) (sym (seen_byte d s.offset b next)) ∙ none in
    ap (by_next d s c cs) next ∙ ap (by_test d s cs) (other_byte (nat_eq c b) c b later refl first)
differs_by (Err fault) d s c cs next seen none = let never : false ≡ true = seen in cc

-- another byte, or none
pub string_differs : (d : TestData) (s : State) (wanted : List ℕ) (q : ℕ) → 0 < length wanted → PassesPrefix wanted d s.offset q 0 → match_bytes wanted d s ≡ rejected StringMismatch q
string_differs d s [] q some f = absurd (omega (arith, some))
string_differs d s (c ∷ cs) q some f =
    let there : s.offset ≡ q = omega (arith, f.offset) in
    differs_by (next_byte d s.offset) d s c cs refl f.seen (f.differs refl) ∙ ap (rejected StringMismatch) there

-- a fault
pub string_faulty : (d : TestData) (s : State) (wanted : List ℕ) (q : ℕ) (fault : LookFault) → 0 < length wanted → q ≡ s.offset → next_byte d s.offset ≡ Err fault → match_bytes wanted d s ≡ faulty (fault_of_look fault) q
string_faulty d s [] q fault some same e = absurd (omega (arith, some))
string_faulty d s (c ∷ cs) q fault some same e = ap (by_next d s c cs) e ∙ ap (faulty (fault_of_look fault)) (sym same)

-- some of them
pub string_more : (d : TestData) (s : State) (wanted : List ℕ) (q n : ℕ) → n ≤ length wanted → PassesPrefix wanted d s.offset q n → match_bytes wanted d s ≡ match_bytes (drop n wanted) d (record { offset = q; store = s.store; mode = s.mode })
string_more d s wanted q n within f =
    let len : length (take n wanted) ≡ n = omega (arith, length-take n wanted) in
    let there : q ≡ s.offset + length (take n wanted) = omega (arith, f.offset) in
    ap (λ xs. match_bytes xs d s) (sym (take-append-drop n wanted)) ∙ front_more d s (take n wanted) (drop n wanted) q there f.visible_is

is_ok : {A : Type 0} (r : Result A LookFault) (x : A) → r ≡ Ok x → IsOk r
is_ok {A} r x e = let P : Result A LookFault → Type 0 = λ y. IsOk y in subst P (sym e) refl

-- a run that agrees is passed, where the next byte is held
pub front_passed : (wanted : List ℕ) (d : TestData) (p q n byte : ℕ) → q ≡ p + n → visible d p ≡ take n wanted ++ visible d q → next_byte d p ≡ Ok (Some byte) → (n ≡ 0 → common_prefix_len nat_eq wanted (visible d p) ≡ 0) → PassesSome wanted d p q (Ok n)
front_passed wanted d p q n byte offset is next differs = record { offset = offset; visible_is = is; seen = is_ok (next_byte d p) (Some byte) next; differs = differs }

-- nothing is, at the end
pub front_ended : (wanted : List ℕ) (d : TestData) (p q : ℕ) → q ≡ p → next_byte d p ≡ Ok None → PassesSome wanted d p q (Ok 0)
front_ended wanted d p q same next = record {
  offset = omega (arith, same);
  visible_is = ap (visible d) (sym same);
  seen = is_ok (next_byte d p) None next;
  differs = λ _. ap (common_prefix_len nat_eq wanted) (seen_end d p next) ∙ no_bytes wanted;
}

-- what is left of a thing is done, so the thing is
pub does_after : {A : Type 0} (r : Result A CommandFailure) (s : State) (whole rest : Effect A) → whole ≡ rest → Does r s rest → Does r s whole
does_after {A} r s whole rest same is = let P : Effect A → Type 0 = λ e. Does r s e in subst P (sym same) is

-- what a fault of a look gives by `?`
pub stopped_alone : {A : Type 0} (fault : LookFault) (q : Result A CommandFailure) → IsErr q × IsErrAnd q (λ e. e ≡ Stopped (fault_of_look fault)) → (s : State) (effect : Effect A) → effect ≡ faulty (fault_of_look fault) s.offset → Does q s effect
stopped_alone fault (Ok x) is s effect same = let e : true ≡ false = sym is.0 in cc
stopped_alone {A} fault (Err e) is s effect same = let P : CommandFailure → Type 0 = λ f. Does {A = A} (Err f) s effect in subst P (sym is.1) same

module _ {R : Type 0} {G : Ghosts R} where
  -- what was done over the cursor alone
  pub done_alone : {A : Type 0} (a : Run R G) (now : Cursor R G) (r : Result A CommandFailure) (act : Act A) → OnOk r (now.fault ≡ None) → AdvancesSuchThat a.cursor now (λ d. DoesAlone d a.cursor.spot.offset now.spot.offset r act) → Performs a (with_cursor a now) r act
  done_alone a now r act sound goes = record { sound = sound; goes = advances_so goes (λ d _ e. e a.store a.mode) }
