-- A cursor that is consistent with the bytes given so far is consistent with all data that agree with them.
use Rattle.std.proofs.Common.{◌≡◌, ℕ, ◌+◌, ◌≤◌, List, [], ◌++◌, length, take, drop, true, false, refl, ap, sym, ◌∙◌, arith, length-append, length-take, subst}
use Rattle.std.proofs.lemmas.List.{take_all, take-append-le, take-take, drop-append-le}
use Rattle.ctd_source.specs.declared.cursor.Cursor.{Cursor}
use Rattle.ctd_source.specs.declared.source.Source.{Ghosts}
use Rattle.ctd_source.specs.declared.source.Seen.{Seen}
use Rattle.ctd_source.specs.declared.source.Seen.TheVariants.{Going, Ended, Broken}
use Rattle.ctd_source.specs.TestData.{TestData, spot_at}
use Rattle.ctd_source.specs.Agreement.{Agrees}
use Rattle.ctd_source.specs.calls.Agreement.{is_broken, known}
use Rattle.ctd_source.specs.calls.Consistency.{CursorState, IsConsistentWith, IsAtStart}
use Rattle.ctd_source.specs.calls.SourceReads.{state_of, source, ReadsOn, MovesPast}
use Rattle.ctd_source.specs.SourceReads.{GaveBytes}
use Rattle.ctd_source.specs.calls.Received.{HasReceived}
use Rattle.ctd_source.specs.inner.ReadingOn.{gave_nothing, gave_both}

-- a spot depends on the bytes before it alone
pub spot_by_front : (xs ys : List ℕ) (p : ℕ) → take p xs ≡ take p ys → spot_at xs p ≡ spot_at ys p
unfolding spot_at
spot_by_front xs ys p same = simp same

-- data that agree begin with what was given
begins : (seen : Seen) (given : List ℕ) (d : TestData) → Agrees given seen d → take (length given) d.bytes ≡ given
begins Going given d a = a
begins Ended given d a = ap (take (length given)) a.0 ∙ take_all (length given) given (omega arith)
begins Broken given d a = ap (take (length given)) a.0 ∙ take_all (length given) given (omega arith)

whole_ended : (seen : Seen) (given : List ℕ) (d : TestData) → Agrees given seen d → seen ≡ Ended → (length d.bytes ≡ length given) × (d.broken ≡ false)
whole_ended Going given d a is = cc
whole_ended Ended given d a is = (ap length a.0, a.1)
whole_ended Broken given d a is = cc

whole_broken : (seen : Seen) (given : List ℕ) (d : TestData) → Agrees given seen d → seen ≡ Broken → (length d.bytes ≡ length given) × (d.broken ≡ true)
whole_broken Going given d a is = cc
whole_broken Ended given d a is = cc
whole_broken Broken given d a is = (ap length a.0, a.1)

-- no offset behind the bytes that were taken
behind : (s : CursorState) (p : ℕ) → s.spot.offset + length s.held ≡ s.taken → s.spot.offset ≤ s.taken
behind s p counted = omega arith

-- what is consistent with the bytes given is consistent with data that agree with them
pub agreeing_is_consistent : (s : CursorState) (given : List ℕ) (d : TestData) → s.taken ≡ length given → s.spot.offset ≤ s.taken → IsConsistentWith (known given s.seen s.limit) s → d.limit ≡ s.limit → Agrees given s.seen d → IsConsistentWith d s
agreeing_is_consistent s given d taken within h limit agrees =
    let p = s.spot.offset in
    let front : take (length given) d.bytes ≡ given = begins s.seen given d agrees in
    let len : length given ≤ length d.bytes = omega (arith, ap length front, length-take (length given) d.bytes) in
    let all : take s.taken given ≡ given = take_all s.taken given (omega arith) in
    let same : take s.taken d.bytes ≡ given = ap (λ k. take k d.bytes) taken ∙ front in
    let before : take p given ≡ take p d.bytes = ap (take p) (sym front) ∙ take-take p (length given) d.bytes (omega arith) in
    record {
      limit = limit;
      taken = omega arith;
      held = h.held ∙ ap (drop p) (all ∙ sym same);
      ended = λ e. let w = whole_ended s.seen given d agrees e in (w.0 ∙ sym taken, w.1);
      broken = λ e. let w = whole_broken s.seen given d agrees e in (w.0 ∙ sym taken, w.1);
      spot = h.spot ∙ spot_by_front given d.bytes p before;
    }

-- at its end it is as it is seen
ended_known : (seen : Seen) → seen ≡ Ended → is_broken seen ≡ false
ended_known seen is = ap is_broken is

broken_known : (seen : Seen) → seen ≡ Broken → is_broken seen ≡ true
broken_known seen is = ap is_broken is

-- what is consistent with the bytes given is consistent with more of them, once it holds more
pub more_is_consistent : (s t : CursorState) (given more : List ℕ) → s.taken ≡ length given → s.spot.offset ≤ s.taken → IsConsistentWith (known given s.seen s.limit) s
    → t.held ≡ s.held ++ more → t.taken ≡ s.taken + length more → t.spot ≡ s.spot → t.limit ≡ s.limit → IsConsistentWith (known (given ++ more) t.seen t.limit) t
more_is_consistent s t given more taken within h held longer spot limit =
    let p = s.spot.offset in
    let offset : t.spot.offset ≡ p = ap (λ x. x.offset) spot in
    let len = length-append given more in
    let all : take s.taken given ≡ given = take_all s.taken given (omega arith) in
    let whole : take t.taken (given ++ more) ≡ given ++ more = take_all t.taken (given ++ more) (omega arith) in
    let before : take p given ≡ take p (given ++ more) = sym (take-append-le p given more (omega arith)) in
    record {
      limit = refl;
      taken = omega arith;
      held = held ∙ ap (λ xs. xs ++ more) (h.held ∙ ap (drop p) all) ∙ sym (drop-append-le p given more (omega arith)) ∙ sym (ap (λ q. drop q (take t.taken (given ++ more))) offset ∙ ap (drop p) whole);
      ended = λ e. (omega arith, ended_known t.seen e);
      broken = λ e. (omega arith, broken_known t.seen e);
      spot = spot ∙ h.spot ∙ spot_by_front given (given ++ more) p before ∙ sym (ap (spot_at (given ++ more)) offset);
    }

module _ {R : Type 0} {G : Ghosts R} where
  pub start_follows : (c : Cursor R G) (limit : ℕ) → IsAtStart limit (state_of c) → ((d : TestData) → d.limit ≡ limit → IsConsistentWith d (state_of c)) → HasReceived (source c) [] c
  start_follows c limit begins stands = record {
    gave = gave_nothing (source c);
    taken = begins.taken;
    stands = stands (known [] (state_of c).seen (state_of c).limit) begins.limit_is;
  }

  pub reading_follows : (first : R) (given : List ℕ) (old new : Cursor R G) → HasReceived first given old → (r : ReadsOn old new) → HasReceived first (given ++ r.more) new
  reading_follows first given old new f r = record {
    gave = gave_both (G.seen (source old)) first (source old) (source new) given r.more refl f.gave r.gave;
    taken = omega (arith, r.taken, f.taken, length-append given r.more);
    stands = more_is_consistent (state_of old) (state_of new) given r.more f.taken (omega (arith, old.counted)) f.stands r.held r.taken r.spot r.limit;
  }

  pub moving_follows : (first : R) (given : List ℕ) (n : ℕ) (old new : Cursor R G) → HasReceived first given old → MovesPast n old new → HasReceived first given new
  moving_follows first given n old new f m = record {
    gave = let P : R → Type 0 = λ r. GaveBytes G first r given in subst P (sym m.source_is) f.gave;
    taken = m.taken ∙ f.taken;
    stands =
        let Q : Seen → Type 0 = λ seen. IsConsistentWith (known given seen (state_of new).limit) (state_of new) in
        let L : ℕ → Type 0 = λ limit. IsConsistentWith (known given (state_of old).seen limit) (state_of new) in
        subst Q (sym m.seen) (subst L (sym m.limit) (m.stands _ f.stands));
  }

  pub agreeing_stands : (first : R) (given : List ℕ) (c : Cursor R G) → HasReceived first given c → (d : TestData) → d.limit ≡ (state_of c).limit → Agrees given (state_of c).seen d → IsConsistentWith d (state_of c)
  agreeing_stands first given c f d limit agrees = agreeing_is_consistent (state_of c) given d f.taken (omega (arith, c.counted)) f.stands limit agrees
