-- A cursor that reads nothing reads on, and reading on twice is reading on; so it is with looks at the next byte, and with moves.
use Rattle.std.proofs.Common.{◌≡◌, ◌≢◌, ℕ, ◌+◌, ◌⊎◌, ◌&&◌, nat_lt, nat_le, false, List, [], ◌∷◌, ◌++◌, length, drop, refl, ap, sym, ◌∙◌, inl, inr, subst, arith, Option, None, Some, append_assoc, length-append}
use Rattle.std.proofs.lemmas.List.{append-nil, drop-drop}
use Rattle.std.specs.Prelude.{IfSome, Result, Ok, Err}
use Rattle.std.specs.Io.KnownBytes.{Consumes, IsAtEnd}
use Rattle.ctd_source.specs.declared.cursor.Cursor.{Cursor}
use Rattle.ctd_source.specs.declared.source.Source.{Ghosts}
use Rattle.ctd_source.specs.declared.source.Seen.{Seen}
use Rattle.ctd_source.specs.declared.source.Seen.TheVariants.{Going, Ended, Broken}
use Rattle.ctd_source.specs.declared.spot.LookFault.{LookFault}
use Rattle.ctd_source.specs.declared.spot.LookFault.TheVariants.{Read}
use Rattle.ctd_source.specs.calls.Consistency.{CursorState, is_going, has_to_read, fault_after}
use Rattle.ctd_source.specs.calls.SourceReads.{state_of, source, ReadsOn, Peeks, MovesPast, GivesByte}
use Rattle.ctd_source.specs.SourceReads.{GaveBytes}

-- nothing is consumed of what stays
pub consumes_nothing : (known : Option (List ℕ)) → Consumes known known []
consumes_nothing None = tt
consumes_nothing (Some xs) = refl

-- what is consumed in two calls is consumed in both together
consumes_both : (a b c : Option (List ℕ)) (xs ys : List ℕ) → Consumes a b xs → Consumes b c ys → Consumes a c (xs ++ ys)
consumes_both None b c xs ys h k = tt
consumes_both (Some us) None c xs ys h k = absurd h
consumes_both (Some us) (Some vs) None xs ys h k = absurd k
consumes_both (Some us) (Some vs) (Some ws) xs ys h k = h ∙ ap (λ zs. xs ++ zs) k ∙ sym (append_assoc xs ys ws)

-- bytes that were consumed up to an end are all that there were
pub consumed_to_end : (old new : Option (List ℕ)) (bytes : List ℕ) → Consumes old new bytes → IsAtEnd new → IfSome old (λ all. bytes ≡ all)
consumed_to_end None new bytes h end = tt
consumed_to_end (Some us) None bytes h end = absurd h
consumed_to_end (Some us) (Some vs) bytes h end = sym (h ∙ ap (λ zs. bytes ++ zs) end ∙ append-nil bytes)

-- what is consumed in two calls is all that there was, if the second came to the end
consumed_all : (a b : Option (List ℕ)) (xs ys : List ℕ) → Consumes a b xs → IfSome b (λ all. ys ≡ all) → IfSome a (λ all. xs ++ ys ≡ all)
consumed_all None b xs ys h k = tt
consumed_all (Some us) None xs ys h k = absurd h
consumed_all (Some us) (Some vs) xs ys h k = ap (λ zs. xs ++ zs) k ∙ sym h

-- where all bytes were consumed, a call that gives none changes nothing
nothing_behind_all : (a : Option (List ℕ)) (xs ys : List ℕ) → ys ≡ [] → IfSome a (λ all. xs ≡ all) → IfSome a (λ all. xs ++ ys ≡ all)
nothing_behind_all None xs ys none h = tt
nothing_behind_all (Some us) xs ys none h = ap (λ zs. xs ++ zs) none ∙ append-nil xs ∙ h

-- a list of length 0 has no bytes
no_bytes : (xs : List ℕ) → length xs ≡ 0 → xs ≡ []
no_bytes [] none = refl
no_bytes (x ∷ xs) none = absurd (omega (arith, none))

-- whether a read is left to do depends on how many bytes are held, and not on which they are
needs_alike : (s t : CursorState) → t.seen ≡ s.seen → length t.held ≡ length s.held → t.taken ≡ s.taken → t.limit ≡ s.limit → has_to_read 1 t ≡ has_to_read 1 s
needs_alike s t seen held taken limit =
    ap (λ x. is_going x && nat_lt (length t.held) 1 && nat_le t.taken t.limit) seen
    ∙ ap (λ n. is_going s.seen && nat_lt n 1 && nat_le t.taken t.limit) held
    ∙ ap (λ n. is_going s.seen && nat_lt (length s.held) 1 && nat_le n t.limit) taken
    ∙ ap (λ n. is_going s.seen && nat_lt (length s.held) 1 && nat_le s.taken n) limit

-- what follows from a fault, where there is one
at_fault : {X : Type 0} (fault : Option LookFault) (result : Result X LookFault) (P : Type 0) (f : LookFault) → fault ≡ Some f → IfSome fault (λ f. (result ≡ Err f) × P) → P
at_fault None result P f is again = cc
at_fault (Some g) result P f is again = again.1

-- an answer that leaves a fault is that fault
faulty : {X : Type 0} (result : Result X LookFault) → fault_after result ≡ Some Read → result ≡ Err Read
faulty (Ok x) is = cc
faulty (Err f) is = let same : f ≡ Read = cc in ap Err same

module _ {R : Type 0} {G : Ghosts R} where
  -- a source that was left alone gave no bytes
  pub gave_nothing : (s : R) → GaveBytes G s s []
  gave_nothing s =
      record {
        count = omega arith;
        rest = G.left s;
        first = consumes_nothing (G.left s);
        left = λ _. refl;
        end = record {
          all = λ going ended. let both : Going ≡ Ended = sym going ∙ ended in absurd (let never : ⊥ = cc in never);
          final = λ _. (refl, refl);
        };
      }

  -- two calls give their bytes one after the other, if no read failed between them
  gave_sound : (a b c : R) (xs ys : List ℕ) → G.seen b ≢ Broken → (G.seen a ≡ Going → G.seen c ≡ Ended → IfSome (G.left a) (λ all. xs ++ ys ≡ all))
      → GaveBytes G a b xs → GaveBytes G b c ys → GaveBytes G a c (xs ++ ys)
  gave_sound a b c xs ys sound whole f s =
      record {
        count = omega (arith, f.count, s.count, length-append xs ys);
        rest = s.rest;
        first = consumes_both (G.left a) f.rest s.rest xs ys f.first (subst (λ known. Consumes known s.rest ys) (f.left sound) s.first);
        left = s.left;
        end = record {
          all = whole;
          final = λ stopped. (ap (λ zs. zs ++ ys) (f.end.final stopped).0 ∙ (s.end.final (λ e. stopped (sym (f.end.final stopped).1 ∙ e))).0, (s.end.final (λ e. stopped (sym (f.end.final stopped).1 ∙ e))).1 ∙ (f.end.final stopped).1);
        };
      }

  -- a call after a failed read gives nothing more
  gave_broken : (a b c : R) (xs ys : List ℕ) → G.seen b ≡ Broken → GaveBytes G a b xs → GaveBytes G b c ys → GaveBytes G a c (xs ++ ys)
  gave_broken a b c xs ys broken f s =
      let end : (ys ≡ []) × (G.seen c ≡ G.seen b) = s.end.final (λ e. cc) in
      let same : xs ++ ys ≡ xs = ap (λ zs. xs ++ zs) end.0 ∙ append-nil xs in
      record {
        count = omega (arith, f.count, s.count, length-append xs ys);
        rest = f.rest;
        first = subst (λ zs. Consumes (G.left a) f.rest zs) (sym same) f.first;
        left = λ sound. absurd (sound (end.1 ∙ broken));
        end = record {
          all = λ going ended. let both : Broken ≡ Ended = sym broken ∙ sym end.1 ∙ ended in absurd (let never : ⊥ = cc in never);
          final = λ stopped. (same ∙ (f.end.final stopped).0, end.1 ∙ (f.end.final stopped).1);
        };
      }

  -- what a source gave, and then gave
  pub gave_both : (seen : Seen) (a b c : R) (xs ys : List ℕ) → G.seen b ≡ seen → GaveBytes G a b xs → GaveBytes G b c ys → GaveBytes G a c (xs ++ ys)
  gave_both Going a b c xs ys is f s =
      let sound : G.seen b ≢ Broken = λ e. cc in
      gave_sound a b c xs ys sound (λ going ended. consumed_all (G.left a) f.rest xs ys f.first (subst (λ known. IfSome known (λ all. ys ≡ all)) (f.left sound) (s.end.all is ended))) f s
  gave_both Ended a b c xs ys is f s =
      let sound : G.seen b ≢ Broken = λ e. cc in
      gave_sound a b c xs ys sound (λ going ended. nothing_behind_all (G.left a) xs ys (s.end.final (λ e. cc)).0 (f.end.all going is)) f s
  gave_both Broken a b c xs ys is f s = gave_broken a b c xs ys is f s

  -- a cursor that was left alone read on by no bytes
  pub reads_nothing : (c : Cursor R G) → ReadsOn c c
  reads_nothing c =
      record {
        more = [];
        held = sym (append-nil (state_of c).held);
        taken = omega arith;
        gave = gave_nothing (source c);
        spot = refl;
        limit = refl;
        same_reference = refl;
        stood = λ _ h. h;
      }

  -- to read on twice is to read on
  pub reads_twice : (a b c : Cursor R G) → ReadsOn a b → ReadsOn b c → ReadsOn a c
  reads_twice a b c f s =
      record {
        more = f.more ++ s.more;
        held = s.held ∙ ap (λ xs. xs ++ s.more) f.held ∙ append_assoc (state_of a).held f.more s.more;
        taken = omega (arith, f.taken, s.taken, length-append f.more s.more);
        gave = gave_both (G.seen (source b)) (source a) (source b) (source c) f.more s.more refl f.gave s.gave;
        spot = s.spot ∙ f.spot;
        limit = s.limit ∙ f.limit;
        same_reference = s.same_reference ∙ f.same_reference;
        stood = λ d h. f.stood d (s.stood d h);
      }

  -- where its source was left alone, no read is left to do that was not
  still_idle : (a b : Cursor R G) → ReadsOn a b → source b ≡ source a → has_to_read 1 (state_of a) ≡ false → has_to_read 1 (state_of b) ≡ false
  still_idle a b r alone idle =
      let none : length r.more ≡ 0 = omega (arith, r.gave.count, ap G.given alone) in
      let held : length (state_of b).held ≡ length (state_of a).held = omega (arith, ap length r.held, length-append (state_of a).held r.more, none) in
      needs_alike (state_of a) (state_of b) (b.intake.seen_agrees ∙ ap G.seen alone ∙ sym a.intake.seen_agrees) held (omega (arith, r.taken, none)) r.limit ∙ idle

  -- a read that failed after a cursor had read on failed after it began to, or had failed before
  failed_in_both : (seen : Seen) (a b : Cursor R G) (P : Type 0) → (state_of a).seen ≡ seen → ReadsOn a b → (state_of b).seen ≡ Going → P → ((state_of a).fault ≡ Some Read) ⊎ (((state_of a).seen ≡ Going) × P)
  failed_in_both Going a b P is r going broken = inr (is, broken)
  failed_in_both Ended a b P is r going broken = let both : Going ≡ Ended = sym going ∙ b.intake.seen_agrees ∙ (r.gave.end.final (λ e. let x : Ended ≡ Going = sym is ∙ a.intake.seen_agrees ∙ e in cc)).1 ∙ sym a.intake.seen_agrees ∙ is in absurd (let never : ⊥ = cc in never)
  failed_in_both Broken a b P is r going broken = inl (a.broken is)

  -- a failed read stays so
  stays_broken : (b c : Cursor R G) → ReadsOn b c → (state_of b).seen ≡ Broken → (state_of c).seen ≡ Broken
  stays_broken b c r is = c.intake.seen_agrees ∙ (r.gave.end.final (λ e. let x : Broken ≡ Going = sym is ∙ b.intake.seen_agrees ∙ e in cc)).1 ∙ sym b.intake.seen_agrees ∙ is

  -- a fault Read of the second of two looks was there before both, or a read failed in one of them
  read_twice : (a b c : Cursor R G) → Peeks a b → Peeks b c → ((state_of b).fault ≡ Some Read) ⊎ (((state_of b).seen ≡ Going) × ((state_of c).seen ≡ Broken))
      → ((state_of a).fault ≡ Some Read) ⊎ (((state_of a).seen ≡ Going) × ((state_of c).seen ≡ Broken))
  read_twice a b c f s (inl before) = elim (f.read before) [ inl first ↦ inl first | inr now ↦ inr (now.0, stays_broken b c s.reads now.1) ]
  read_twice a b c f s (inr now) = failed_in_both (state_of a).seen a b ((state_of c).seen ≡ Broken) refl f.reads now.0 now.1

  -- no look is no change
  pub peeks_nothing : (c : Cursor R G) → Peeks c c
  peeks_nothing c =
      record {
        reads = reads_nothing c;
        bounded = record { behind = omega (arith, c.counted); ahead = omega (arith, c.counted, c.fits); limited = c.within };
        idle = λ _. refl;
        again = λ _ _. refl;
        read = λ failed. inl failed;
      }

  -- to look twice at the next byte is to look once
  pub peeks_twice : (a b c : Cursor R G) → Peeks a b → Peeks b c → Peeks a c
  peeks_twice a b c f s =
      record {
        reads = reads_twice a b c f.reads s.reads;
        bounded = s.bounded;
        idle = λ idle. s.idle (still_idle a b f.reads (f.idle idle) idle) ∙ f.idle idle;
        again = λ fault is. s.again fault (ap (λ x. x.fault) (f.again fault is) ∙ is) ∙ f.again fault is;
        read = λ failed. read_twice a b c f s (s.read failed);
      }

  -- a look looks
  pub GivesByte-Peeks : (old new : Cursor R G) (result : Result (Option ℕ) LookFault) → GivesByte old new result → Peeks old new
  GivesByte-Peeks old new result look =
      record {
        reads = look.reads;
        bounded = look.bounded;
        idle = look.idle;
        again = λ fault is. at_fault (state_of old).fault result (state_of new ≡ state_of old) fault is look.again;
        read = λ failed. look.read (faulty result (sym look.fault ∙ failed));
      }

  -- a cursor that was left alone moved past no bytes
  pub moves_nowhere : (c : Cursor R G) → MovesPast 0 c c
  moves_nowhere c = record { held = refl; offset = omega arith; taken = refl; limit = refl; fault = refl; seen = refl; source_is = refl; same_reference = refl; stands = λ _ h. h }

  -- to move past m bytes and then past n is to move past m + n
  pub moves_twice : (m n : ℕ) (a b c : Cursor R G) → MovesPast m a b → MovesPast n b c → MovesPast (m + n) a c
  moves_twice m n a b c f s =
      record {
        held = s.held ∙ ap (drop n) f.held ∙ drop-drop n m (state_of a).held;
        offset = omega (arith, f.offset, s.offset);
        taken = s.taken ∙ f.taken;
        limit = s.limit ∙ f.limit;
        fault = s.fault ∙ f.fault;
        seen = s.seen ∙ f.seen;
        source_is = s.source_is ∙ f.source_is;
        same_reference = s.same_reference ∙ f.same_reference;
        stands = λ d h. s.stands d (f.stands d h);
      }
