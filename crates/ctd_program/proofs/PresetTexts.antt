-- A preset at the front of a text: a target, an equals sign and a value.
use Rattle.std.proofs.Common.{◌≡◌, ℕ, ◌+◌, ◌<◌, List, ◌∷◌, ◌++◌, length, take, drop, get_or, refl, sym, ◌∙◌, subst, arith, append_assoc, length-append, length-drop}
use Rattle.ctd_program.specs.declared.preset.PresetValue.{PresetValue}
use Rattle.ctd_program.specs.declared.preset.Preset.{Preset}
use Rattle.ctd_program.specs.Presets.{IsPresetValue, IsPresetTarget, IsPreset, preset}
use Rattle.ctd_program.specs.inner.PresetFront.{MayFollowItem, MayFollowTarget, IsAtFront, NothingIsAtFront, SpellsTarget}
use Rattle.ctd_program.proofs.Splits.{behind_front, take_past}

-- a preset begins with its target, behind which are an equals sign and its value
record Parts (bytes text rest : List ℕ) (p : Preset) : Type 0 where
  target : List ℕ
  value : List ℕ
  there : bytes ≡ target ++ 61 ∷ (value ++ rest)
  long : length text ≡ length target + 1 + length value
  is_target : IsPresetTarget target p.name p.indices
  is_value : IsPresetValue value p.value

parts : (bytes text rest : List ℕ) (p : Preset) → bytes ≡ text ++ rest → IsPreset text p → Parts bytes text rest p
parts bytes text rest p is (preset target value is_target is_value) = record {
  target = target;
  value = value;
  there = is ∙ append_assoc target (61 ∷ value) rest;
  long = omega (arith, length-append target (61 ∷ value));
  is_target = is_target;
  is_value = is_value;
}

-- no target is at the front
pub no_target : (bytes : List ℕ) → NothingIsAtFront MayFollowTarget SpellsTarget bytes → NothingIsAtFront MayFollowItem IsPreset bytes
no_target bytes nothing text rest p is follows spells =
    let of = parts bytes text rest p is spells in
    nothing of.target (61 ∷ (of.value ++ rest)) (p.name, p.indices) of.there refl of.is_target

-- a target, and no equals sign behind it
pub no_equals : (bytes : List ℕ) (target : List ℕ × List PresetValue) (n : ℕ) → IsAtFront MayFollowTarget SpellsTarget bytes (target, n) → (n < length bytes → get_or bytes n 0 ≡ 61 → ⊥) → NothingIsAtFront MayFollowItem IsPreset bytes
no_equals bytes target n f other text rest p is follows spells =
    let of = parts bytes text rest p is spells in
    let same = f.only of.target (61 ∷ (of.value ++ rest)) (p.name, p.indices) of.there refl of.is_target in
    let equals = behind_front bytes of.target (of.value ++ rest) 61 n of.there same.1 in
    other equals.0 equals.1

-- an equals sign, and no value behind it
pub no_value : (bytes : List ℕ) (target : List ℕ × List PresetValue) (n : ℕ) → IsAtFront MayFollowTarget SpellsTarget bytes (target, n) → NothingIsAtFront MayFollowItem IsPresetValue (drop (n + 1) bytes) → NothingIsAtFront MayFollowItem IsPreset bytes
no_value bytes target n f nothing text rest p is follows spells =
    let of = parts bytes text rest p is spells in
    let same = f.only of.target (61 ∷ (of.value ++ rest)) (p.name, p.indices) of.there refl of.is_target in
    nothing of.value rest p.value (behind_front bytes of.target (of.value ++ rest) 61 n of.there same.1).2 follows of.is_value

-- a target, an equals sign and a value
pub preset_in_front : (bytes : List ℕ) (p : Preset) (n m : ℕ) → IsAtFront MayFollowTarget SpellsTarget bytes ((p.name, p.indices), n) → n < length bytes → get_or bytes n 0 ≡ 61
    → IsAtFront MayFollowItem IsPresetValue (drop (n + 1) bytes) (p.value, m) → IsAtFront MayFollowItem IsPreset bytes (p, n + 1 + m)
preset_in_front bytes p n m f lt equals v = record {
  within = omega (arith, lt, v.within, length-drop (n + 1) bytes);
  spelled = subst (λ l. IsPreset l p) (sym (take_past bytes 61 n m lt equals)) (preset (take n bytes) (take m (drop (n + 1) bytes)) f.spelled v.spelled);
  only = λ text rest q is follows spells.
      let of = parts bytes text rest q is spells in
      let same = f.only of.target (61 ∷ (of.value ++ rest)) (q.name, q.indices) of.there refl of.is_target in
      let value = v.only of.value rest q.value (behind_front bytes of.target (of.value ++ rest) 61 n of.there same.1).2 follows of.is_value in
      ((λ i. record { name = (same.0 i).0; indices = (same.0 i).1; value = value.0 i }), omega (arith, of.long, same.1, value.1));
}
