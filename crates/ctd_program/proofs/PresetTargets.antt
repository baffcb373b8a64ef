-- A target at the front of a text: a name, and the indices behind it.
use Rattle.std.proofs.Common.{◌≡◌, ℕ, ◌+◌, ◌<◌, ◌≤◌, List, [], ◌∷◌, ◌++◌, length, take, drop, get_or, Ok, Err, refl, sym, ap, ◌∙◌, subst, arith, append_assoc, append-nil, length-append, length-drop}
use Rattle.std.proofs.lemmas.List.{get_or-drop}
use Rattle.std.proofs.Math.Seq.{take-append_seam, drop-append_seam, take-add}
use Rattle.ctd_program.specs.declared.preset.PresetValue.{PresetValue}
use Rattle.ctd_program.specs.declared.preset.PresetFault.TheVariants.{BadPreset}
use Rattle.ctd_program.specs.declared.preset.PresetFault.TheVariants as presets
use Rattle.ctd_token.specs.declared.fault.TokenFault.{TokenFault}
use Rattle.ctd_token.specs.declared.fault.TokenFault.TheVariants.{Wrong, Memory}
use Rattle.ctd_token.specs.declared.token.TokenKind.TheVariants as tokens
use Rattle.ctd_token.specs.Cut.{name_len, token_at}
use Rattle.ctd_token.specs.calls.Scanning.{wrong, Scans}
use Rattle.ctd_program.specs.Presets.{IsToken, AreSeparated, IsPresetValue, IsPresetTarget, alone, indexed}
use Rattle.ctd_program.specs.calls.PresetFront.{fault_of}
use Rattle.ctd_program.specs.inner.PresetFront.{MayFollowList, MayFollowTarget, IsAtFront, NothingIsAtFront, SpellsTarget, AreIndices, none, some}
use Rattle.ctd_program.proofs.Splits.{behind_front, take_past, take_with}
use Rattle.ctd_program.proofs.TokenFronts.{same_found, name_front, name_alone}

-- ---- the indices

only_none : (bytes : List ℕ) → (0 < length bytes → get_or bytes 0 0 ≡ 91 → ⊥) → (text rest : List ℕ) (indices : List PresetValue) → bytes ≡ text ++ rest → MayFollowTarget rest → AreIndices text indices → (indices ≡ []) × (length text ≡ 0)
only_none bytes closed text rest indices is follows none = (refl, refl)
only_none bytes closed text rest indices is follows (some values separated) =
    let bracket = behind_front bytes [] ((values ++ 93 ∷ []) ++ rest) 91 0 is refl in
    absurd (closed bracket.0 bracket.1)

-- no bracket opens
pub no_indices : (bytes : List ℕ) → (0 < length bytes → get_or bytes 0 0 ≡ 91 → ⊥) → IsAtFront MayFollowTarget AreIndices bytes ([], 0)
no_indices bytes closed = record {
  within = omega arith;
  spelled = none;
  only = only_none bytes closed;
}

-- what stands between the brackets
pub record Between (bytes text rest : List ℕ) (indices : List PresetValue) : Type 0 where
  pub values : List ℕ
  pub there : drop 1 bytes ≡ values ++ 93 ∷ rest
  pub long : length text ≡ 1 + length values + 1
  pub separated : AreSeparated IsPresetValue values indices

no_equals : (bytes rest : List ℕ) → bytes ≡ rest → MayFollowTarget rest → get_or bytes 0 0 ≡ 91 → ⊥
no_equals bytes [] is follows opens = absurd follows
no_equals bytes (b ∷ bs) is follows opens = omega (arith, (behind_front bytes [] bs b 0 is refl).1, follows, opens)

between : (bytes text rest : List ℕ) (indices : List PresetValue) → get_or bytes 0 0 ≡ 91 → bytes ≡ text ++ rest → MayFollowTarget rest → AreIndices text indices → Between bytes text rest indices
between bytes text rest indices opens is follows none = absurd (no_equals bytes rest is follows opens)
between bytes text rest indices opens is follows (some values separated) = record {
  values = values;
  there = (behind_front bytes [] ((values ++ 93 ∷ []) ++ rest) 91 0 is refl).2 ∙ append_assoc values (93 ∷ []) rest;
  long = omega (arith, length-append values (93 ∷ []));
  separated = separated;
}

-- a bracket opens, and no values stand behind it
pub no_values : (bytes : List ℕ) → get_or bytes 0 0 ≡ 91 → NothingIsAtFront MayFollowList (AreSeparated IsPresetValue) (drop 1 bytes) → NothingIsAtFront MayFollowTarget AreIndices bytes
no_values bytes opens nothing text rest indices is follows spells =
    let inside = between bytes text rest indices opens is follows spells in
    nothing inside.values (93 ∷ rest) indices inside.there refl inside.separated

-- values stand behind it, and no bracket closes behind these
pub not_closed : (bytes : List ℕ) (found : List PresetValue) (n : ℕ) → get_or bytes 0 0 ≡ 91 → IsAtFront MayFollowList (AreSeparated IsPresetValue) (drop 1 bytes) (found, n)
    → (1 + n < length bytes → get_or bytes (1 + n) 0 ≡ 93 → ⊥) → NothingIsAtFront MayFollowTarget AreIndices bytes
not_closed bytes found n opens f closed text rest indices is follows spells =
    let inside = between bytes text rest indices opens is follows spells in
    let same = f.only inside.values (93 ∷ rest) indices inside.there refl inside.separated in
    let bracket = behind_front (drop 1 bytes) inside.values rest 93 n inside.there same.1 in
    absurd (closed (omega (arith, bracket.0, length-drop 1 bytes)) (sym (get_or-drop 1 bytes n 0) ∙ bracket.1))

-- and one closes behind them
pub closed_indices : (bytes : List ℕ) (found : List PresetValue) (n : ℕ) → get_or bytes 0 0 ≡ 91 → IsAtFront MayFollowList (AreSeparated IsPresetValue) (drop 1 bytes) (found, n)
    → 1 + n < length bytes → get_or bytes (1 + n) 0 ≡ 93 → IsAtFront MayFollowTarget AreIndices bytes (found, 1 + n + 1)
closed_indices bytes found n opens f lt closes =
    let whole : take (1 + n + 1) bytes ≡ 91 ∷ (take n (drop 1 bytes) ++ 93 ∷ []) =
    take_with bytes 93 (1 + n) lt closes ∙ ap (λ l. l ++ 93 ∷ []) (take_past bytes 91 0 n (omega (arith, lt)) opens) in
    record {
      within = omega (arith, lt);
      spelled = subst (λ l. AreIndices l found) (sym whole) (some (take n (drop 1 bytes)) f.spelled);
      only = λ text rest indices is follows spells.
          let inside = between bytes text rest indices opens is follows spells in
          let same = f.only inside.values (93 ∷ rest) indices inside.there refl inside.separated in
          (same.0, omega (arith, inside.long, same.1));
    }

-- ---- the target

-- a target is a name with what may be its indices behind it
record Parts (text name : List ℕ) (indices : List PresetValue) : Type 0 where
  behind : List ℕ
  whole : text ≡ name ++ behind
  is_name : IsToken name tokens.Name
  are_indices : AreIndices behind indices

parts : (text name : List ℕ) (indices : List PresetValue) → IsPresetTarget text name indices → Parts text name indices
parts text name indices (alone is) = record { behind = []; whole = sym (append-nil name); is_name = is; are_indices = none }
parts text name indices (indexed _ values is separated) = record { behind = 91 ∷ (values ++ 93 ∷ []); whole = refl; is_name = is; are_indices = some values separated }

made_of : (name behind : List ℕ) (indices : List PresetValue) → IsToken name tokens.Name → AreIndices behind indices → IsPresetTarget (name ++ behind) name indices
made_of name behind indices is none = subst (λ l. IsPresetTarget l name []) (sym (append-nil name)) (alone is)
made_of name behind indices is (some values separated) = indexed name values is separated

no_name : (rest : List ℕ) → MayFollowTarget rest → name_len rest ≡ 0
no_name [] follows = absurd follows
no_name (b ∷ bs) follows = ap (λ c. name_len (c ∷ bs)) follows

name_ends : (behind rest : List ℕ) (indices : List PresetValue) → AreIndices behind indices → MayFollowTarget rest → name_len (behind ++ rest) ≡ 0
name_ends behind rest indices none follows = no_name rest follows
name_ends behind rest indices (some values separated) follows = refl

-- a target begins with its name, behind which its indices are
record Begins (bytes text rest : List ℕ) (name : List ℕ) (indices : List PresetValue) : Type 0 where
  behind : List ℕ
  found : token_at bytes ≡ Ok (tokens.Name, length name)
  is_name : take (length name) bytes ≡ name
  there : drop (length name) bytes ≡ behind ++ rest
  long : length text ≡ length name + length behind
  are_indices : AreIndices behind indices

begins : (bytes text rest name : List ℕ) (indices : List PresetValue) → bytes ≡ text ++ rest → MayFollowTarget rest → IsPresetTarget text name indices → Begins bytes text rest name indices
begins bytes text rest name indices is follows spells =
    let p = parts text name indices spells in
    let all : bytes ≡ name ++ (p.behind ++ rest) = is ∙ ap (λ l. l ++ rest) p.whole ∙ append_assoc name p.behind rest in
    record {
      behind = p.behind;
      found = ap token_at all ∙ name_front name (p.behind ++ rest) p.is_name (name_ends p.behind rest indices p.are_indices follows);
      is_name = ap (take (length name)) all ∙ take-append_seam name (p.behind ++ rest);
      there = ap (drop (length name)) all ∙ drop-append_seam name (p.behind ++ rest);
      long = ap length p.whole ∙ length-append name p.behind;
      are_indices = p.are_indices;
    }

-- no name is at the front
pub no_name_in_front : (bytes : List ℕ) → ((n : ℕ) → token_at bytes ≡ Ok (tokens.Name, n) → ⊥) → NothingIsAtFront MayFollowTarget SpellsTarget bytes
no_name_in_front bytes other text rest target is follows spells = other (length target.0) (begins bytes text rest target.0 target.1 is follows spells).found

-- a fault of a token is at no name
pub no_name_at_fault : (bytes : List ℕ) (fault : TokenFault) → Scans (Err fault) (token_at bytes) → fault_of fault ≡ BadPreset → (n : ℕ) → token_at bytes ≡ Ok (tokens.Name, n) → ⊥
no_name_at_fault bytes (Wrong kind behind) scanned bad n found = let same : wrong kind behind ≡ Ok (tokens.Name, n) = sym scanned ∙ found in cc
no_name_at_fault bytes Memory scanned bad n found = let same : presets.Memory ≡ BadPreset = bad in cc

-- a name, and behind it what is no indices
pub no_indices_behind : (bytes : List ℕ) (n : ℕ) → token_at bytes ≡ Ok (tokens.Name, n) → NothingIsAtFront MayFollowTarget AreIndices (drop n bytes) → NothingIsAtFront MayFollowTarget SpellsTarget bytes
no_indices_behind bytes n found nothing text rest target is follows spells =
    let b = begins bytes text rest target.0 target.1 is follows spells in
    let same = same_found tokens.Name tokens.Name (length target.0) n (token_at bytes) b.found found in
    nothing b.behind rest target.1 (ap (λ k. drop k bytes) (sym same.1) ∙ b.there) follows b.are_indices

-- a name and its indices
pub target_in_front : (bytes : List ℕ) (n len : ℕ) (indices : List PresetValue) → token_at bytes ≡ Ok (tokens.Name, n) → n ≤ length bytes
    → IsAtFront MayFollowTarget AreIndices (drop n bytes) (indices, len) → IsAtFront MayFollowTarget SpellsTarget bytes ((take n bytes, indices), n + len)
target_in_front bytes n len indices found inside f = record {
  within = omega (arith, inside, f.within, length-drop n bytes);
  spelled = subst (λ l. IsPresetTarget l (take n bytes) indices) (sym (take-add n len bytes)) (made_of (take n bytes) (take len (drop n bytes)) indices (name_alone bytes n found) f.spelled);
  only = λ text rest target is follows spells.
      let b = begins bytes text rest target.0 target.1 is follows spells in
      let same = same_found tokens.Name tokens.Name (length target.0) n (token_at bytes) b.found found in
      let behind = f.only b.behind rest target.1 (ap (λ k. drop k bytes) (sym same.1) ∙ b.there) follows b.are_indices in
      let name : target.0 ≡ take n bytes = sym b.is_name ∙ ap (λ k. take k bytes) same.1 in
      ((λ i. (name i, behind.0 i)), omega (arith, b.long, same.1, behind.1));
}
