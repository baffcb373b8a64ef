-- Items with commas between, read one after another.
use Rattle.std.proofs.Common.{◌≡◌, inl, inr, ℕ, ◌+◌, ◌<◌, ◌≤◌, List, [], ◌∷◌, ◌++◌, length, take, drop, get_or, refl, sym, ap, ◌∙◌, subst, arith, append_assoc, length-append, length-drop, drop-drop}
use Rattle.std.proofs.lemmas.List.{get_or-drop}
use Rattle.std.proofs.Math.Seq.{take-add}
use Rattle.ctd_program.specs.Presets.{AreSeparated, one, more}
use Rattle.ctd_program.specs.inner.PresetFront.{MayFollowItem, MayFollowList, IsAtFront, NothingIsAtFront}
use Rattle.ctd_program.proofs.Splits.{behind_front, take_with}

-- what may follow a list may follow its last item
follows_item : (rest : List ℕ) → MayFollowList rest → MayFollowItem rest
follows_item [] follows = tt
follows_item (b ∷ bs) follows = inr follows

-- no comma follows a list
no_comma : (bytes text rest : List ℕ) (n : ℕ) → bytes ≡ text ++ rest → length text ≡ n → MayFollowList rest → n < length bytes → get_or bytes n 0 ≡ 44 → ⊥
no_comma bytes text [] n is long follows lt comma = omega (arith, ap length is, length-append text [], long, lt)
no_comma bytes text (b ∷ bs) n is long follows lt comma = omega (arith, (behind_front bytes text bs b n is long).1, follows, comma)

-- how a list goes on from an offset on
pub record GoesOn {T : Type 0} (Spells : List ℕ → T → Type 0) (bytes : List ℕ) (xs : List T) (at : ℕ) (text rest : List ℕ) (zs : List T) : Type 0 where
  pub more_text : List ℕ
  pub ys : List T
  pub there : drop at bytes ≡ more_text ++ rest
  pub long : at + length more_text ≡ length text
  pub whole : zs ≡ xs ++ ys
  pub separated : AreSeparated Spells more_text ys

-- the bytes up to an offset spell these items, each with a comma behind it, and every list at the front begins with them
pub record ReadUpTo {T : Type 0} (Spells : List ℕ → T → Type 0) (bytes : List ℕ) (xs : List T) (at : ℕ) : Type 0 where
  pub within : at ≤ length bytes
  pub joins : (text : List ℕ) (ys : List T) → AreSeparated Spells text ys → AreSeparated Spells (take at bytes ++ text) (xs ++ ys)
  pub only : (text rest : List ℕ) (zs : List T) → bytes ≡ text ++ rest → MayFollowList rest → AreSeparated Spells text zs → GoesOn Spells bytes xs at text rest zs

pub begin : {T : Type 0} (Spells : List ℕ → T → Type 0) (bytes : List ℕ) → ReadUpTo Spells bytes [] 0
begin Spells bytes = record {
  within = omega arith;
  joins = λ text ys d. d;
  only = λ text rest zs is follows d. record { more_text = text; ys = zs; there = is; long = omega arith; whole = refl; separated = d };
}

no_first : {T : Type 0} {Spells : List ℕ → T → Type 0} {bytes : List ℕ} → NothingIsAtFront MayFollowItem Spells bytes → (text rest : List ℕ) (ys : List T) → bytes ≡ text ++ rest → MayFollowList rest → AreSeparated Spells text ys → ⊥
no_first none text rest ys is follows (one {x = y} spells) = none text rest y is (follows_item rest follows) spells
no_first none text rest ys is follows (more front behind {x = y} {xs} spells others) = none front (44 ∷ (behind ++ rest)) y (is ∙ append_assoc front (44 ∷ behind) rest) (inl refl) spells

-- no item at the offset
pub none_there : {T : Type 0} {Spells : List ℕ → T → Type 0} {bytes : List ℕ} {xs : List T} {at : ℕ} → ReadUpTo Spells bytes xs at
    → NothingIsAtFront MayFollowItem Spells (drop at bytes) → NothingIsAtFront MayFollowList (AreSeparated Spells) bytes
none_there r none text rest zs is follows d =
    let goes = r.only text rest zs is follows d in
    no_first none goes.more_text rest goes.ys goes.there follows goes.separated

only_last : {T : Type 0} {Spells : List ℕ → T → Type 0} {bytes : List ℕ} {x : T} {n : ℕ} → IsAtFront MayFollowItem Spells bytes (x, n) → (n < length bytes → get_or bytes n 0 ≡ 44 → ⊥)
    → (text rest : List ℕ) (ys : List T) → bytes ≡ text ++ rest → MayFollowList rest → AreSeparated Spells text ys → (ys ≡ x ∷ []) × (length text ≡ n)
only_last f ends text rest ys is follows (one {x = y} spells) =
    let same = f.only text rest y is (follows_item rest follows) spells in
    (ap (λ z. z ∷ []) same.0, same.1)
only_last {bytes} {n} f ends text rest ys is follows (more front behind {x = y} {xs} spells others) =
    let there = is ∙ append_assoc front (44 ∷ behind) rest in
    let same = f.only front (44 ∷ (behind ++ rest)) y there (inl refl) spells in
    let comma = behind_front bytes front (behind ++ rest) 44 n there same.1 in
    absurd (ends comma.0 comma.1)

at_offset : (bytes : List ℕ) (at n : ℕ) → at + n < length bytes → (n < length (drop at bytes)) × (get_or (drop at bytes) n 0 ≡ get_or bytes (at + n) 0)
at_offset bytes at n lt = (omega (arith, length-drop at bytes, lt), get_or-drop at bytes n 0)

-- an item at the offset, with no comma behind it
pub last : {T : Type 0} {Spells : List ℕ → T → Type 0} {bytes : List ℕ} {xs : List T} {at n : ℕ} {x : T} → ReadUpTo Spells bytes xs at
    → IsAtFront MayFollowItem Spells (drop at bytes) (x, n) → (at + n < length bytes → get_or bytes (at + n) 0 ≡ 44 → ⊥)
    → IsAtFront MayFollowList (AreSeparated Spells) bytes (xs ++ x ∷ [], at + n)
last {T} {Spells} {bytes} {xs} {at} {n} {x} r f ends =
    let inside : at + n ≤ length bytes = omega (arith, r.within, f.within, length-drop at bytes) in
    let ends_there : n < length (drop at bytes) → get_or (drop at bytes) n 0 ≡ 44 → ⊥ = λ lt comma. ends (omega (arith, lt, length-drop at bytes)) (sym (get_or-drop at bytes n 0) ∙ comma) in
    record {
      within = inside;
      spelled = subst (λ l. AreSeparated Spells l (xs ++ x ∷ [])) (sym (take-add at n bytes)) (r.joins (take n (drop at bytes)) (x ∷ []) (one f.spelled));
      only = λ text rest zs is follows d.
          let goes = r.only text rest zs is follows d in
          let same = only_last f ends_there goes.more_text rest goes.ys goes.there follows goes.separated in
          (goes.whole ∙ ap (λ ys. xs ++ ys) same.0, omega (arith, goes.long, same.1));
    }

-- the items behind a comma
only_on : {T : Type 0} {Spells : List ℕ → T → Type 0} {bytes : List ℕ} {x : T} {n : ℕ} → IsAtFront MayFollowItem Spells bytes (x, n) → n < length bytes → get_or bytes n 0 ≡ 44
    → (text rest : List ℕ) (ys : List T) → bytes ≡ text ++ rest → MayFollowList rest → AreSeparated Spells text ys → GoesOn Spells bytes (x ∷ []) (n + 1) text rest ys
only_on {bytes} {n} f lt comma text rest ys is follows (one {x = y} spells) =
    let same = f.only text rest y is (follows_item rest follows) spells in
    absurd (no_comma bytes text rest n is same.1 follows lt comma)
only_on {bytes} {n} f lt comma text rest ys is follows (more front behind {x = y} {xs} spells others) =
    let there = is ∙ append_assoc front (44 ∷ behind) rest in
    let same = f.only front (44 ∷ (behind ++ rest)) y there (inl refl) spells in
    record {
      more_text = behind;
      ys = xs;
      there = (behind_front bytes front (behind ++ rest) 44 n there same.1).2;
      long = omega (arith, same.1, length-append front (44 ∷ behind));
      whole = ap (λ z. z ∷ xs) same.0;
      separated = others;
    }

-- an item at the offset, with a comma behind it
pub on : {T : Type 0} {Spells : List ℕ → T → Type 0} {bytes : List ℕ} {xs : List T} {at n : ℕ} {x : T} → ReadUpTo Spells bytes xs at
    → IsAtFront MayFollowItem Spells (drop at bytes) (x, n) → at + n < length bytes → get_or bytes (at + n) 0 ≡ 44 → ReadUpTo Spells bytes (xs ++ x ∷ []) (at + n + 1)
on {T} {Spells} {bytes} {xs} {at} {n} {x} r f lt comma =
    let front : List ℕ = take n (drop at bytes) in
    let there = at_offset bytes at n lt in
    record {
      within = omega (arith, lt);
      joins = λ text ys d.
          let joined = r.joins (front ++ 44 ∷ text) (x ∷ ys) (more front text f.spelled d) in
          let same : take (at + n + 1) bytes ++ text ≡ take at bytes ++ (front ++ 44 ∷ text) =
          ap (λ l. l ++ text) (take_with bytes 44 (at + n) lt comma ∙ ap (λ l. l ++ 44 ∷ []) (take-add at n bytes) ∙ append_assoc (take at bytes) front (44 ∷ []))
          ∙ append_assoc (take at bytes) (front ++ 44 ∷ []) text
          ∙ ap (λ l. take at bytes ++ l) (append_assoc front (44 ∷ []) text) in
          subst (λ l. AreSeparated Spells l ((xs ++ x ∷ []) ++ ys)) (sym same) (subst (λ l. AreSeparated Spells (take at bytes ++ (front ++ 44 ∷ text)) l) (sym (append_assoc xs (x ∷ []) ys)) joined);
      only = λ text rest zs is follows d.
          let goes = r.only text rest zs is follows d in
          let further = only_on f there.0 (there.1 ∙ comma) goes.more_text rest goes.ys goes.there follows goes.separated in
          record {
            more_text = further.more_text;
            ys = further.ys;
            there = ap (λ k. drop k bytes) (omega arith) ∙ sym (drop-drop (n + 1) at bytes) ∙ further.there;
            long = omega (arith, goes.long, further.long);
            whole = goes.whole ∙ ap (λ l. xs ++ l) further.whole ∙ sym (append_assoc xs (x ∷ []) further.ys);
            separated = further.separated;
          };
    }
