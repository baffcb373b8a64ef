use Rattle.std.proofs.Common.{◌≡◌, ◌-◌, false, ap, ◌∙◌, arith, rules, length, take, drop, get_or, FitsSigned}
use Rattle.std.proofs.lemmas.Grind.{common_steps}
use Rattle.std.proofs.lemmas.Int.{to_z-of_z}
use Rattle.std.proofs.lemmas.List.{take_rest}
use Rattle.std.specs.Int.{w64}
use Rattle.ctd_command.proofs.HeldIntegers.{in_front, sign_bytes}
use Rattle.ctd_command.proofs.integer.buffered_integer.Goals.{else-few-eq48-via-then-few-eq48+else-count-gt1, else-few-eq48-via-else-few-eq48}
use Rattle.ctd_command.proofs.integer.buffered_integer.Goals as goal

pub returns : goal.returns
returns c =
    let negative = c.begins_with_minus-is_negative.result in
    let sign = c.from-sign_len.result in
    let m = c.min.result in
    let count = c.leading_number-size.result.1 in
    let few = take m (take (length c.args.bytes.now - sign) (drop sign c.args.bytes.now)) in
    let form : get_or few 0 0 ≡ 48 → (negative ≡ false) × (count ≡ 1) = elim c.else-few-eq48.branch [
      | else-few-eq48-via-then-few-eq48+else-count-gt1 w ↦ λ _. (w.if-count-gt1.false.0, omega (arith, w.if-count-gt1.false.1, c.if-count-eq0.false))
      | else-few-eq48-via-else-few-eq48 w ↦ λ zero. absurd (w.if-few-eq48.false zero)
    ] in
    let fits : FitsSigned w64 c.in_ok-with_sign.field-0 = search rules in
    let read = in_front c.args.bytes.now few _ negative sign m c.leading_number-size.result.0 count c.begins_with_minus-is_negative.ensures (c.from-sign_len.ensures ∙ sign_bytes negative) (ap (take m) (take_rest c.args.bytes.now sign))
    c.leading_number-size.ensures.number c.leading_number-size.ensures.count c.if-count-few.false c.if-count-eq0.false form c.in_ok-with_sign.ensures in
    simp (to_z-of_z w64 c.in_ok-with_sign.field-0 fits) read

pub overflow_add-result : goal.overflow_add-result
overflow_add-result c = grind (arith, common_steps)
