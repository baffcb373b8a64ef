use Rattle.std.proofs.Common.{◌≡◌, ℕ, ◌+◌, ◌<◌, List, Err, length, get_or, sym, ap, ◌∙◌, subst, arith, length-drop}
use Rattle.std.proofs.lemmas.Grind.{common_steps}
use Rattle.std.proofs.lemmas.List.{take_rest}
use Rattle.ctd_program.specs.declared.preset.PresetValue.{PresetValue}
use Rattle.ctd_program.specs.declared.preset.PresetFault.TheVariants.{BadPreset}
use Rattle.ctd_program.specs.Presets.{AreSeparated, IsPresetValue}
use Rattle.ctd_program.specs.inner.PresetFront.{MayFollowList, MayFollowTarget, IsAtFront, NothingIsAtFront, AreIndices}
use Rattle.ctd_program.proofs.PresetTargets.{no_indices, no_values, not_closed, closed_indices}
use Rattle.ctd_program.proofs.preset_text.indices_at.Goals.{then-is_empty-via-then-is_empty, then-is_empty-via-else-is_empty+then-bytes-ne91, then-close-bytes-via-then-close-bytes, then-close-bytes-via-else-close-bytes+then-bytes-close-ne93}
use Rattle.ctd_program.proofs.preset_text.indices_at.Goals as goal

pub returns-then-is_empty-clause-read : goal.returns-then-is_empty-clause-read
returns-then-is_empty-clause-read c =
    let bytes : List ℕ = c.args.bytes.now in
    let closed : 0 < length bytes → get_or bytes 0 0 ≡ 91 → ⊥ = elim c.then-is_empty.branch [
      | then-is_empty-via-then-is_empty w ↦ λ lt bracket. grind (arith, common_steps, w.if-is_empty.true, c.is_empty.ensures, lt)
      | then-is_empty-via-else-is_empty+then-bytes-ne91 w ↦ λ lt bracket. w.if-bytes-ne91.true bracket
    ] in
    subst (λ l. IsAtFront MayFollowTarget AreIndices bytes (l, 0)) (sym (c.from_vec.ensures.same ∙ c.new.ensures.items)) (no_indices bytes closed)

pub returns-in_err-values-clause-refused : goal.returns-in_err-values-clause-refused
returns-in_err-values-clause-refused c is =
    let bad : c.in_err-values.field-0.0 ≡ BadPreset = grind (arith, c.from_residual.ensures.1) in
    no_values c.args.bytes.now c.if-bytes-ne91.false (subst (NothingIsAtFront MayFollowList (AreSeparated IsPresetValue)) (take_rest c.args.bytes.now 1) (c.in_err-values.ensures.refused (ap Err bad)))

pub returns-then-close-bytes-clause-refused : goal.returns-then-close-bytes-clause-refused
returns-then-close-bytes-clause-refused c is =
    let bytes : List ℕ = c.args.bytes.now in
    let values : List PresetValue = c.in_ok-values.values.items in
    let len : ℕ = c.in_ok-values.len in
    let there = subst (λ l. IsAtFront MayFollowList (AreSeparated IsPresetValue) l (values, len)) (take_rest bytes 1) c.in_ok-values.ensures.read in
    let open_end : 1 + len < length bytes → get_or bytes (1 + len) 0 ≡ 93 → ⊥ = elim c.then-close-bytes.branch [
      | then-close-bytes-via-then-close-bytes w ↦ λ lt bracket. omega (arith, w.if-close-bytes.true, lt)
      | then-close-bytes-via-else-close-bytes+then-bytes-close-ne93 w ↦ λ lt bracket. w.if-bytes-close-ne93.true bracket
    ] in
    not_closed bytes values len c.if-bytes-ne91.false there open_end

pub returns-clause-read : goal.returns-clause-read
returns-clause-read c =
    let bytes : List ℕ = c.args.bytes.now in
    let values : List PresetValue = c.in_ok-values.values.items in
    let len : ℕ = c.in_ok-values.len in
    let there = subst (λ l. IsAtFront MayFollowList (AreSeparated IsPresetValue) l (values, len)) (take_rest bytes 1) c.in_ok-values.ensures.read in
    let some : 0 < length bytes = grind (arith, common_steps, c.if-is_empty.false, c.is_empty.ensures) in
    let lt : 1 + len < length bytes = omega (arith, there.within, length-drop 1 bytes, c.if-close-bytes.false) in
    subst (λ l. IsAtFront MayFollowTarget AreIndices bytes (l, 1 + len + 1)) (sym c.from_vec-2.ensures.same) (closed_indices bytes values len c.if-bytes-ne91.false there lt c.if-bytes-close-ne93.false)
