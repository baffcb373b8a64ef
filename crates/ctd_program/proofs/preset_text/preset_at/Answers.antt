use Rattle.std.proofs.Common.{◌≡◌, ℕ, ◌+◌, ◌-◌, ◌<◌, List, Ok, Err, length, take, drop, get_or, ap, subst, arith}
use Rattle.std.proofs.lemmas.List.{take_rest}
use Rattle.ctd_program.specs.declared.preset.PresetFault.TheVariants.{BadPreset}
use Rattle.ctd_program.specs.declared.preset.Preset.{Preset}
use Rattle.ctd_program.specs.Presets.{IsPresetValue}
use Rattle.ctd_program.specs.inner.PresetFront.{MayFollowItem, IsAtFront, NothingIsAtFront}
use Rattle.ctd_program.proofs.PresetValues.{value_read, no_value_read}
use Rattle.ctd_program.proofs.PresetTexts.{no_target, no_equals, no_value, preset_in_front}
use Rattle.ctd_program.proofs.preset_text.preset_at.Goals.{then-n-bytes-via-then-n-bytes, then-n-bytes-via-else-n-bytes+then-bytes-n-ne61}
use Rattle.ctd_program.proofs.preset_text.preset_at.Goals as goal

pub returns-in_err-name-clause-refused : goal.returns-in_err-name-clause-refused
returns-in_err-name-clause-refused c is =
    let bad : c.in_err-name.field-0.0 ≡ BadPreset = grind (arith, c.from_residual.ensures.1) in
    no_target c.args.bytes.now (c.in_err-name.ensures.refused (ap Err bad))

pub returns-then-n-bytes-clause-refused : goal.returns-then-n-bytes-clause-refused
returns-then-n-bytes-clause-refused c is =
    let bytes : List ℕ = c.args.bytes.now in
    let n : ℕ = c.in_ok-name.n in
    let other : n < length bytes → get_or bytes n 0 ≡ 61 → ⊥ = elim c.then-n-bytes.branch [
      | then-n-bytes-via-then-n-bytes w ↦ λ lt equals. omega (arith, w.if-n-bytes.true, lt)
      | then-n-bytes-via-else-n-bytes+then-bytes-n-ne61 w ↦ λ lt equals. w.if-bytes-n-ne61.true equals
    ] in
    no_equals bytes (c.in_ok-name.name, c.in_ok-name.indices) n c.in_ok-name.ensures.read other

pub returns-in_err-value-clause-refused : goal.returns-in_err-value-clause-refused
returns-in_err-value-clause-refused c is =
    let bytes : List ℕ = c.args.bytes.now in
    let n : ℕ = c.in_ok-name.n in
    let bad : c.in_err-value.field-0.0 ≡ BadPreset = grind (arith, c.from_residual-in_err-value.ensures.1) in
    let none = no_value_read (take (length bytes - (n + 1)) (drop (n + 1) bytes)) (Err c.in_err-value.field-0.0) c.in_err-value.ensures.value (ap Err bad) in
    no_value bytes (c.in_ok-name.name, c.in_ok-name.indices) n c.in_ok-name.ensures.read (subst (NothingIsAtFront MayFollowItem IsPresetValue) (take_rest bytes (n + 1)) none)

pub returns-clause-read : goal.returns-clause-read
returns-clause-read c =
    let bytes : List ℕ = c.args.bytes.now in
    let n : ℕ = c.in_ok-name.n in
    let len : ℕ = c.in_ok-value.len in
    let p : Preset = record { name = c.in_ok-name.name; indices = c.in_ok-name.indices; value = c.in_ok-value.value } in
    let lt : n < length bytes = omega (arith, c.in_ok-name.ensures.read.within, c.if-n-bytes.false) in
    let read = value_read (take (length bytes - (n + 1)) (drop (n + 1) bytes)) (Ok (c.in_ok-value.value, len)) c.in_ok-value.ensures.value c.in_ok-value.ensures.within in
    let value = subst (λ l. IsAtFront MayFollowItem IsPresetValue l (c.in_ok-value.value, len)) (take_rest bytes (n + 1)) read in
    preset_in_front bytes p n len c.in_ok-name.ensures.read lt c.if-bytes-n-ne61.false value
