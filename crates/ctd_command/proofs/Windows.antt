-- A match at the start of the window.
use Rattle.std.specs.Prelude.{⊤}
use Rattle.std.proofs.Common.{◌≡◌, ◌≤◌, ℕ, List, length, take, refl, ap, sym, ◌∙◌, subst, arith, length-take, Option, None, Some, Result, Ok, Err, IfOk, IfSome, Bor}
use Rattle.ctd_source.specs.declared.limits.TheConstants.{WINDOW}
use Rattle.ctd_source.specs.declared.source.Source.{Ghosts}
use Rattle.ctd_source.specs.declared.cursor.Cursor.{Cursor}
use Rattle.ctd_source.specs.declared.spot.LookFault.{LookFault}
use Rattle.ctd_source.specs.calls.Received.{AdvancesSuchThat}
use Rattle.ctd_source.specs.calls.SourceReads.{GivesWindow, MovesPast}
use Rattle.ctd_source.specs.TestData.{TestData, look}
use Rattle.ctd_source.proofs.AdvanceLemmas.{advances_so, advances_nowhere, advances_reading}
use Rattle.ctd_pattern.specs.Pattern.{length_at_start}
use Rattle.ctd_value.specs.Fault.{with_fault, fault_of_look}
use Rattle.ctd_command.specs.declared.machine.Run.{Run}
use Rattle.ctd_command.specs.declared.failure.CommandFailure.{CommandFailure}
use Rattle.ctd_command.specs.State.{State, Effect, Act, done, rejected, faulty, proceed, ◌>>=◌, return, pass, lift, see_window}
use Rattle.ctd_command.specs.calls.Performs.{Does, state, IsSound, Performs}
use Rattle.ctd_command.specs.inner.Performs.{AlwaysDoes}
use Rattle.ctd_command.specs.Regex.{shorter_match, leading_match, regex}
use Rattle.ctd_command.specs.inner.Regex.{match_len}
use Rattle.ctd_command.proofs.Acts.{does_early, always, and_then, given, passed, performs_as, with_cursor}

-- the length of a match that is cut out of its window
cut_len : (n : ℕ) (window : List ℕ) → n ≤ length window → length (take n window) ≡ n
cut_len n window within = omega (arith, length-take n window)

taken_len : (n : ℕ) (found : Option ℕ) (window : List ℕ) → IfSome found (λ k. k ≤ length window) → found ≡ Some n → length (take n window) ≡ n
taken_len n found window within is = let P : Option ℕ → Type 0 = λ o. IfSome o (λ k. k ≤ length window) in cut_len n window (subst P is within)

len_done : (n : ℕ) (found : Option ℕ) (window : List ℕ) (s : State) → IfSome found (λ k. k ≤ length window) → found ≡ Some n → done (length (take n window)) s ≡ done n s
len_done n found window s within is = ap (λ k. done k s) (taken_len n found window within is)

len_does : (r : Result ℕ CommandFailure) (found : Option ℕ) (window : List ℕ) (d : TestData) (s : State) → AlwaysDoes r (shorter_match found) → IfOk r (λ n. found ≡ Some n) → IfSome found (λ k. k ≤ length window)
    → Does r s (proceed (proceed (shorter_match found d s) (λ n t. done (take n window) t)) (λ bytes t. done (length bytes) t))
len_does (Ok n) found window d s does is within = ap (λ e. proceed (proceed e (λ k t. done (take k window) t)) (λ bytes t. done (length bytes) t)) (does d s) ∙ len_done n found window s within is
len_does (Err failure) found window d s does is within =
    does_early failure s (proceed (shorter_match found d s) (λ n t. done (take n window) t)) (λ bytes t. done (length bytes) t) (does_early failure s (shorter_match found d s) (λ n t. done (take n window) t) (does d s))

-- to count the bytes and then pass so many is to pass the bytes
counted_by : (e : Effect (List ℕ)) (d : TestData)
    → proceed {A = ℕ} {B = ⊤} (proceed e (λ bytes t. done (length bytes) t)) (λ n t. proceed {A = ⊤} {B = ⊤} (pass n d t) (λ _ u. done tt u)) ≡ proceed {A = List ℕ} {B = ⊤} e (λ bytes t. proceed {A = ⊤} {B = ⊤} (pass (length bytes) d t) (λ _ u. done tt u))
counted_by (done x after) d = refl
counted_by (rejected reason consumed) d = refl
counted_by (faulty fault consumed) d = refl

pub counted_first : (literal : List ℕ) (d : TestData) (s : State) → (match_len literal >>= λ n. (pass n >>= λ _. return tt)) d s ≡ regex literal None d s
counted_first literal d s = counted_by (leading_match literal d s) d

module _ {R : Type 0} {G : Ghosts R} where
  -- what looks at no data
  pub doing : {A : Type 0} (a : Run R G) (r : Result A CommandFailure) (m : Act A) → IsSound a → AlwaysDoes r m → Performs a a r m
  doing a r m sound does = record { sound = always r sound; goes = advances_so (advances_nowhere a.cursor) (λ d _ _. does d (state a)) }

  -- what a window gives under another name of its answer
  pub gives_as : (old new : Cursor R G) (r q : Result (Bor (List ℕ)) LookFault) → r ≡ q → GivesWindow old new r → GivesWindow old new q
  gives_as old new r q same w = let P : Result (Bor (List ℕ)) LookFault → Type 0 = λ x. GivesWindow old new x in subst P same w

  -- the window
  pub windowed : (a : Run R G) (now : Cursor R G) (window : Bor (List ℕ)) → IsSound a → GivesWindow a.cursor now (Ok window) → Performs a (with_cursor a now) (Ok window.now) see_window
  windowed a now window sound w = record {
    sound = w.fault;
    goes = advances_so (advances_reading a.cursor now w.reads) (λ d stand _.
        ap (λ x. lift (with_fault fault_of_look x) (state a)) (ap (λ s. look d s.offset WINDOW) (sym w.reads.spot) ∙ sym (w.answer sound d stand.after))
        ∙ ap (λ s. done window.now (record { offset = s.offset; store = a.store; mode = a.mode })) (sym w.reads.spot));
  }

  -- a fault in its place
  pub window_faulty : (a : Run R G) (now : Cursor R G) (fault : LookFault) → IsSound a → GivesWindow a.cursor now (Err fault) → AdvancesSuchThat a.cursor now (λ d. see_window d (state a) ≡ faulty (fault_of_look fault) now.spot.offset)
  window_faulty a now fault sound w =
      advances_so (advances_reading a.cursor now w.reads) (λ d stand _.
      ap (λ x. lift (with_fault fault_of_look x) (state a)) (ap (λ s. look d s.offset WINDOW) (sym w.reads.spot) ∙ sym (w.answer sound d stand.after))
      ∙ ap (λ s. faulty (fault_of_look fault) s.offset) (sym w.reads.spot))

  pub match_faulty : (a : Run R G) (now : Cursor R G) (fault : LookFault) (literal : List ℕ) → IsSound a → GivesWindow a.cursor now (Err fault) → AdvancesSuchThat a.cursor now (λ d. leading_match literal d (state a) ≡ faulty (fault_of_look fault) now.spot.offset)
  match_faulty a now fault literal sound w =
      advances_so (window_faulty a now fault sound w) (λ d _ e. ap (λ x. proceed {A = List ℕ} {B = List ℕ} x (λ window t. proceed (shorter_match (length_at_start literal window) d t) (λ n u. done (take n window) u))) e)

  pub measured_faulty : (a : Run R G) (now : Cursor R G) (fault : LookFault) (literal : List ℕ) → IsSound a → GivesWindow a.cursor now (Err fault) → AdvancesSuchThat a.cursor now (λ d. match_len literal d (state a) ≡ faulty (fault_of_look fault) now.spot.offset)
  measured_faulty a now fault literal sound w =
      advances_so (match_faulty a now fault literal sound w) (λ d _ e. ap (λ x. proceed {A = List ℕ} {B = ℕ} x (λ bytes t. done (length bytes) t)) e)

  -- how long a match is
  pub measured : (a : Run R G) (now : Cursor R G) (window : Bor (List ℕ)) (literal : List ℕ) (found : Option ℕ) (r : Result ℕ CommandFailure) → IsSound a → GivesWindow a.cursor now (Ok window) → found ≡ length_at_start literal window.now
      → AlwaysDoes r (shorter_match found) → IfOk r (λ n. found ≡ Some n) → IfSome found (λ k. k ≤ length window.now) → Performs a (with_cursor a now) r (match_len literal)
  measured a now window literal found r sound w found_is does is within = record {
    sound = always r w.fault;
    goes = advances_so (windowed a now window sound w).goes (λ d _ e.
        let b = state (with_cursor a now) in
        let after : Effect (List ℕ) → Effect ℕ = λ x. proceed (proceed x (λ seen t. proceed (shorter_match (length_at_start literal seen) d t) (λ n u. done (take n seen) u))) (λ bytes t. done (length bytes) t) in
        let P : Effect ℕ → Type 0 = λ x. Does r b x in
        let Q : Option ℕ → Type 0 = λ o. Does r b (proceed (proceed (shorter_match o d b) (λ n t. done (take n window.now) t)) (λ bytes t. done (length bytes) t)) in
        subst P (sym (ap after e)) (subst Q found_is (len_does r found window.now d b does is within)));
  }

  -- what is done with a match once it is passed
  pub with_match : {r : Result ⊤ CommandFailure} {c : Run R G} (f : List ℕ → Act ⊤) (a : Run R G) (now past : Cursor R G) (window : Bor (List ℕ)) (literal : List ℕ) (found : Option ℕ) (n : ℕ) → IsSound a → GivesWindow a.cursor now (Ok window) → found ≡ length_at_start literal window.now
      → AlwaysDoes (Ok n) (shorter_match found) → found ≡ Some n → IfSome found (λ k. k ≤ length window.now) → MovesPast n now past
      → (IsSound (with_cursor a past) → Performs (with_cursor a past) c r (f (take n window.now))) → Performs a c r (leading_match literal >>= λ bytes. (pass (length bytes) >>= λ _. f bytes))
  with_match f a now past window literal found n sound w found_is does is within moves next =
      let b = with_cursor a now in
      let seen = windowed a now window sound w in
      let m = and_then {m = see_window} _ seen (and_then _ (performs_as (λ d s. ap (λ l. shorter_match l d s) found_is) (doing b (Ok n) (shorter_match found) seen.sound does)) (given b (take n window.now) seen.sound)) in
      let p = performs_as (λ d s. ap (λ k. pass k d s) (sym (taken_len n found window.now within is))) (passed n b past seen.sound moves) in
      and_then {m = leading_match literal} _ m (and_then (λ _. f (take n window.now)) p (next p.sound))
