-- Blanks that lie in a run of held bytes.
use Rattle.std.specs.Prelude.{⊤, count_by, slice_get}
use Rattle.std.proofs.Common.{◌≡◌, ◌<◌, ◌≤◌, ℕ, ◌+◌, Bool, true, false, cond, List, [], ◌∷◌, ◌++◌, length, take, drop, refl, ap, sym, ◌∙◌, subst, arith, length-drop, Result, Ok, Option, IsOk, if◌then◌else◌}
use Rattle.std.specs.List.{prefix_len}
use Rattle.std.proofs.lemmas.Bool.Decides.{nat_tests}
use Rattle.std.proofs.lemmas.List.Sums.{prefix_len-le-length}
use Rattle.ctd_source.specs.TestData.{TestData, next_byte, visible, is_newline}
use Rattle.ctd_source.specs.declared.spot.LookFault.{LookFault}
use Rattle.ctd_source.specs.calls.Consistency.{CursorState, IsConsistentWith}
use Rattle.ctd_source.proofs.Visible.{seen_run}
use Rattle.ctd_value.specs.Fault.{with_fault, fault_of_look}
use Rattle.ctd_outcome.specs.declared.reason.Reason.TheVariants.{ExpectedSpace}
use Rattle.ctd_command.specs.Blanks.{is_blank, skip_blanks, some_blanks}
use Rattle.ctd_command.specs.inner.Blanks.{blank_next}
use Rattle.ctd_command.specs.State.{State, done, proceed, lift, reject}
use Rattle.ctd_command.proofs.HeldRuns.{stops_within, front_in_line, run_front, held_next}
use Rattle.ctd_command.proofs.Skipping.{skips}

-- a blank ends no line
blank_in_line : (x : ℕ) → is_blank x ≡ true → is_newline x ≡ false
blank_in_line x blank = grind (arith, nat_tests)

-- the blanks of a run that is held are in one line
pub blanks_in_line : (run held : List ℕ) (n : ℕ) → take (length run) held ≡ run → n ≡ prefix_len is_blank run → count_by is_newline (take n held) ≡ 0
blanks_in_line run held n front is =
    ap (count_by is_newline) (run_front run held n (omega (arith, is, prefix_len-le-length is_blank run)) front ∙ ap (λ k. take k run) is) ∙ front_in_line is_blank blank_in_line run

is_ok : (r : Result (Option ℕ) LookFault) (x : Option ℕ) → r ≡ Ok x → IsOk r
is_ok r x e = let P : Result (Option ℕ) LookFault → Type 0 = λ y. IsOk y in subst P (sym e) refl

-- a cursor that passed those of a run which ends behind them skipped all blanks
pub blanks_skipped : (run : List ℕ) (n : ℕ) (d : TestData) (s : State) (old new : CursorState) → n ≡ prefix_len is_blank run → n < length run → IsConsistentWith d old → IsConsistentWith d new
    → old.taken ≡ old.spot.offset + length old.held → new.taken ≡ new.spot.offset + length new.held → take (length run) old.held ≡ run → length run ≤ length old.held → (0 < length run → old.spot.offset + length run ≤ old.limit)
    → s.offset ≡ old.spot.offset → new.spot.offset ≡ old.spot.offset + n → new.held ≡ drop n old.held → new.limit ≡ old.limit
    → skip_blanks d s ≡ done tt (record { offset = new.spot.offset; store = s.store; mode = s.mode })
blanks_skipped run n d s old new is ends before after counted_old counted_new front held within here there left limit =
    let limited : old.spot.offset + length run ≤ old.limit = within (omega (arith, ends)) in
    let seen : visible d s.offset ≡ run ++ visible d (old.spot.offset + length run) = ap (visible d) here ∙ seen_run d old run before counted_old front held limited in
    let blanks : prefix_len is_blank (visible d s.offset) ≡ n = ap (prefix_len is_blank) seen ∙ stops_within is_blank run (visible d (old.spot.offset + length run)) (omega (arith, is, ends)) ∙ sym is in
    let some : 0 < length new.held = omega (arith, ap length left, length-drop n old.held, ends, held) in
    let next = held_next d new after counted_new some (omega (arith, there, limit, limited, ends)) in
    skips d s new.spot.offset (omega (arith, there, here, blanks), is_ok (next_byte d new.spot.offset) _ next)

first_by : (b : Bool) (x n : ℕ) → is_blank x ≡ b → 0 < cond b (1 + n) 0 → is_blank x ≡ true
first_by true x n is some = is
first_by false x n is some = absurd (omega (arith, some))

-- the first of a run that begins with a blank
first_blank : (run held : List ℕ) → take (length run) held ≡ run → 0 < prefix_len is_blank run → blank_next (slice_get (take 1 held) 0) ≡ true
first_blank [] held front some = absurd (omega (arith, some))
first_blank (x ∷ xs) [] front some = cc
first_blank (x ∷ xs) (h ∷ hs) front some =
    let same : h ≡ x = cc in
    ap is_blank same ∙ first_by (is_blank x) x (prefix_len is_blank xs) refl some

-- where the first is a blank, some blanks are all blanks
pub blanks_some : (run : List ℕ) (d : TestData) (s : State) (old : CursorState) → 0 < prefix_len is_blank run → IsConsistentWith d old → old.taken ≡ old.spot.offset + length old.held → take (length run) old.held ≡ run
    → length run ≤ length old.held → (0 < length run → old.spot.offset + length run ≤ old.limit) → s.offset ≡ old.spot.offset → some_blanks d s ≡ skip_blanks d s
blanks_some run d s old some before counted front held within here =
    let filled : 0 < length run = omega (arith, some, prefix_len-le-length is_blank run) in
    let next = ap (next_byte d) here ∙ held_next d old before counted (omega (arith, filled, held)) (omega (arith, filled, within filled)) in
    ap (λ r. proceed {A = Option ℕ} {B = ⊤} (lift (with_fault fault_of_look r) s) (λ x t. (if blank_next x then skip_blanks else reject ExpectedSpace) d t)) next
    ∙ ap (λ b. (if b then skip_blanks else reject ExpectedSpace) d s) (first_blank run old.held front some)
