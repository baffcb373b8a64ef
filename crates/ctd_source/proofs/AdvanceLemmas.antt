-- How what is known of the data goes on as a cursor goes on.
use Rattle.std.proofs.Common.{◌≡◌, ◌≢◌, ℕ, List, [], ◌++◌, length, take, refl, ap, sym, ◌∙◌, subst, arith, append_assoc, length-append, Option, Result}
use Rattle.std.proofs.lemmas.List.{append-nil, take-take, take_all, take-append-le}
use Rattle.ctd_source.specs.declared.cursor.Cursor.{Cursor}
use Rattle.ctd_source.specs.declared.source.Source.{Ghosts}
use Rattle.ctd_source.specs.declared.source.Seen.{Seen}
use Rattle.ctd_source.specs.declared.source.Seen.TheVariants.{Going, Ended, Broken}
use Rattle.ctd_source.specs.declared.spot.LookFault.{LookFault}
use Rattle.ctd_source.specs.TestData.{TestData, look, first_of, next_byte}
use Rattle.ctd_source.specs.Agreement.{Agrees}
use Rattle.ctd_source.specs.calls.Consistency.{CursorState, IsConsistentWith}
use Rattle.ctd_source.specs.calls.SourceReads.{state_of, ReadsOn, MovesPast}
use Rattle.ctd_source.specs.calls.Received.{HasReceived, AdvancesSuchThat}
use Rattle.ctd_source.proofs.Agreeing.{reading_follows, moving_follows, agreeing_stands}

-- data that begin with two lists begin with the first
front_of : (xs ys bytes : List ℕ) → take (length (xs ++ ys)) bytes ≡ xs ++ ys → take (length xs) bytes ≡ xs
front_of xs ys bytes same =
    sym (take-take (length xs) (length (xs ++ ys)) bytes (omega (arith, length-append xs ys)))
    ∙ ap (take (length xs)) same ∙ take-append-le (length xs) xs ys (omega arith) ∙ take_all (length xs) xs (omega arith)

whole_front : (xs ys bytes : List ℕ) → bytes ≡ xs ++ ys → take (length xs) bytes ≡ xs
whole_front xs ys bytes same = ap (take (length xs)) same ∙ take-append-le (length xs) xs ys (omega arith) ∙ take_all (length xs) xs (omega arith)

going_before : (now : Seen) (given more : List ℕ) (d : TestData) → Agrees (given ++ more) now d → take (length given) d.bytes ≡ given
going_before Going given more d a = front_of given more d.bytes a
going_before Ended given more d a = whole_front given more d.bytes a.0
going_before Broken given more d a = whole_front given more d.bytes a.0

same_end : (old now : Seen) (given more : List ℕ) (d : TestData) → more ≡ [] → now ≡ old → Agrees (given ++ more) now d → Agrees given old d
same_end old now given more d none same a =
    let P : List ℕ → Type 0 = λ xs. Agrees xs now d in
    let Q : Seen → Type 0 = λ s. Agrees given s d in
    subst Q same (subst P (ap (λ xs. given ++ xs) none ∙ append-nil given) a)

-- data that agree with more agree with less
pub agrees_before : (old now : Seen) (given more : List ℕ) (d : TestData) → (old ≢ Going → (more ≡ []) × (now ≡ old)) → Agrees (given ++ more) now d → Agrees given old d
agrees_before Going now given more d final a = going_before now given more d a
agrees_before Ended now given more d final a = let f = final (λ e. cc) in same_end Ended now given more d f.0 f.1 a
agrees_before Broken now given more d final a = let f = final (λ e. cc) in same_end Broken now given more d f.0 f.1 a

-- data that a cursor is consistent with, before and after
pub record IsConsistentThroughout (s t : CursorState) (d : TestData) : Type 0 where
  pub before : IsConsistentWith d s
  pub after : IsConsistentWith d t

module _ {R : Type 0} {G : Ghosts R} where
  -- data that agree are so
  pub advances_standing : (a b : Cursor R G) (P : TestData → Type 0) → (f : AdvancesSuchThat a b P) → (first : R) (given : List ℕ) → HasReceived first given a → (d : TestData) → d.limit ≡ (state_of b).limit → Agrees (given ++ f.more) (state_of b).seen d → IsConsistentThroughout (state_of a) (state_of b) d
  advances_standing a b P f first given account d limit agrees = record {
    before = agreeing_stands first given a account d (limit ∙ f.limit) (agrees_before (state_of a).seen (state_of b).seen given f.more d f.final agrees);
    after = agreeing_stands first (given ++ f.more) b (f.follows first given account) d limit agrees;
  }

  -- and what is so of these data has its consequences
  pub advances_so : {a b : Cursor R G} {P Q : TestData → Type 0} → (f : AdvancesSuchThat a b P) → ((d : TestData) → IsConsistentThroughout (state_of a) (state_of b) d → P d → Q d) → AdvancesSuchThat a b Q
  advances_so {a} {b} {P} {Q} f so = record {
    more = f.more;
    same_reference = f.same_reference;
    limit = f.limit;
    final = f.final;
    follows = f.follows;
    holds = λ first given account d limit agrees. so d (advances_standing a b P f first given account d limit agrees) (f.holds first given account d limit agrees);
  }

  -- a cursor that stays
  pub advances_nowhere : (c : Cursor R G) → AdvancesSuchThat c c (λ d. d.limit ≡ (state_of c).limit)
  advances_nowhere c = record {
    more = [];
    same_reference = refl;
    limit = refl;
    final = λ _. (refl, refl);
    follows = λ first given account. let P : List ℕ → Type 0 = λ xs. HasReceived first xs c in subst P (sym (append-nil given)) account;
    holds = λ first given account d limit agrees. limit;
  }

  -- that reads on
  pub advances_reading : (a b : Cursor R G) → ReadsOn a b → AdvancesSuchThat a b (λ d. d.limit ≡ (state_of b).limit)
  advances_reading a b r = record {
    more = r.more;
    same_reference = r.same_reference;
    limit = r.limit;
    final = λ stopped. let f = r.gave.end.final (λ e. stopped (a.intake.seen_agrees ∙ e)) in (f.0, b.intake.seen_agrees ∙ f.1 ∙ sym a.intake.seen_agrees);
    follows = λ first given account. reading_follows first given a b account r;
    holds = λ first given account d limit agrees. limit;
  }

  -- that moves on
  pub advances_moving : (n : ℕ) (a b : Cursor R G) → MovesPast n a b → AdvancesSuchThat a b (λ d. d.limit ≡ (state_of b).limit)
  advances_moving n a b m = record {
    more = [];
    same_reference = m.same_reference;
    limit = m.limit;
    final = λ _. (refl, m.seen);
    follows = λ first given account. let P : List ℕ → Type 0 = λ xs. HasReceived first xs b in subst P (sym (append-nil given)) (moving_follows first given n a b account m);
    holds = λ first given account d limit agrees. limit;
  }

  -- twice
  pub advances_both : {a b c : Cursor R G} {P Q : TestData → Type 0} → AdvancesSuchThat a b P → AdvancesSuchThat b c Q → AdvancesSuchThat a c (λ d. P d × Q d)
  advances_both {a} {b} {c} {P} {Q} f s = record {
    more = f.more ++ s.more;
    same_reference = s.same_reference ∙ f.same_reference;
    limit = s.limit ∙ f.limit;
    final = λ stopped.
        let e = f.final stopped in
        let g = s.final (λ going. stopped (sym e.1 ∙ going)) in
        (ap (λ xs. xs ++ s.more) e.0 ∙ g.0, g.1 ∙ e.1);
    follows = λ first given account.
        let T : List ℕ → Type 0 = λ xs. HasReceived first xs c in
        subst T (append_assoc given f.more s.more) (s.follows first (given ++ f.more) (f.follows first given account));
    holds = λ first given account d limit agrees.
        let T : List ℕ → Type 0 = λ xs. Agrees xs (state_of c).seen d in
        let later = subst T (sym (append_assoc given f.more s.more)) agrees in
        let earlier = agrees_before (state_of b).seen (state_of c).seen (given ++ f.more) s.more d s.final later in
        (f.holds first given account d (limit ∙ s.limit) earlier, s.holds first (given ++ f.more) (f.follows first given account) d limit later);
  }

  -- that looks at its next byte
  pub advances_looking : (a b : Cursor R G) (result : Result (Option ℕ) LookFault) → ReadsOn a b → ((d : TestData) → IsConsistentWith d (state_of b) → result ≡ first_of (look d (state_of b).spot.offset 1))
      → AdvancesSuchThat a b (λ d. next_byte d (state_of a).spot.offset ≡ result)
  advances_looking a b result r answer =
      advances_so (advances_reading a b r) (λ d stand _. ap (λ s. next_byte d s.offset) (sym r.spot) ∙ sym (answer d stand.after))
