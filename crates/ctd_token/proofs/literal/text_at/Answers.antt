use Rattle.std.proofs.Common.{◌≡◌, ℕ, ◌+◌, ◌-◌, ◌≤◌, [], ◌∷◌, ◌++◌, List, Some, take, drop, length, ap, ◌∙◌, sym, subst, refl, arith, append-nil, length-drop}
use Rattle.std.proofs.lemmas.Grind.{common_steps}
use Rattle.std.specs.Option.{option_to_list, option_or}
use Rattle.std.proofs.lemmas.List.{take_rest}
use Rattle.std.specs.List.{prefix_len}
use Rattle.ctd_token.specs.inner.StringLiteral.{is_plain}
use Rattle.ctd_token.specs.StringLiteral.{after_backslash}
use Rattle.ctd_token.proofs.Literals.{Reading, plain_on, escape_on, bad_on}
use Rattle.ctd_token.proofs.literal.text_at.Goals.{in-Some-value, in-Some-2+in_ok-push-in-Some-2, in-None-value}
use Rattle.ctd_token.proofs.literal.text_at.Goals as goal

pub returns-in-Some-clause-fault_within : goal.returns-in-Some-clause-fault_within
returns-in-Some-clause-fault_within c = c.loop-at.invariant.bad_within c.in-Some.behind c.in-Some.is

pub loop-at-preserved-then-bytes-at-eq92 : goal.loop-at-preserved-then-bytes-at-eq92
loop-at-preserved-then-bytes-at-eq92 c =
    let bytes : List ℕ = c.args.bytes.now in
    let at : ℕ = c.loop-at.at in
    let m : ℕ = c.after_backslash-part.result.length in
    let rest = take_rest bytes (at + 1) in
    let means : option_to_list c.after_backslash-part.result.value ≡ (after_backslash (drop (at + 1) bytes)).values = c.after_backslash-part.ensures.value ∙ ap (λ l. (after_backslash l).values) rest in
    let long : m ≡ (after_backslash (drop (at + 1) bytes)).length = c.after_backslash-part.ensures.length ∙ ap (λ l. (after_backslash l).length) rest in
    let fits : at + m ≤ length bytes = omega (arith, c.after_backslash-part.ensures.within, ap length rest, length-drop (at + 1) bytes, c.loop-at-test.true) in
    let r = c.loop-at.invariant in
    let items = c.loop-at.values.items in
    let bad = c.loop-at.bad_octal in
    elim c.match-part.branch [
      | in-Some-value w ↦
          let vs : List ℕ = w.in-Some-value.value ∷ [] in
          let read = bad_on bytes items vs bad at m r c.loop-at-test.true c.if-bytes-at-eq92.true (ap option_to_list (sym w.in-Some-value.is) ∙ means) long c.after_backslash-part.ensures.some fits (omega (arith, w.if-value-gt255.true)) in
          subst (λ b. Reading bytes c.match-part.values.items b (at + m)) (sym (w.bad_octal-is ∙ w.or-bad_octal.ensures)) (subst (λ v. Reading bytes v.items (option_or bad (Some at)) (at + m)) (sym w.values-is) read)
      | in-Some-2+in_ok-push-in-Some-2 w ↦
          let vs : List ℕ = w.in-Some-2.value ∷ [] in
          let both = sym w.in-Some-2.is ∙ w.in-Some-value.is in
          let same : w.in-Some-2.value ≡ w.in-Some-value.value = cc in
          let read = escape_on bytes items (items ++ vs) vs bad at m r c.loop-at-test.true c.if-bytes-at-eq92.true (ap option_to_list (sym w.in-Some-2.is) ∙ means) long c.after_backslash-part.ensures.some fits (omega (arith, same)) refl in
          let made = ap (λ v. v.items) w.values-is ∙ w.in_ok-push-in-Some-2.ensures.items in
          subst (λ b. Reading bytes c.match-part.values.items b (at + m)) (sym w.bad_octal-is) (subst (λ l. Reading bytes l bad (at + m)) (sym made) read)
      | in-None-value w ↦
          let read = escape_on bytes items items [] bad at m r c.loop-at-test.true c.if-bytes-at-eq92.true (ap option_to_list (sym w.in-None-value.is) ∙ means) long c.after_backslash-part.ensures.some fits (omega arith) (sym (append-nil items)) in
          subst (λ b. Reading bytes c.match-part.values.items b (at + m)) (sym w.bad_octal-is) (subst (λ v. Reading bytes v.items bad (at + m)) (sym w.values-is) read)
    ]

pub loop-at-preserved : goal.loop-at-preserved
loop-at-preserved c =
    let bytes : List ℕ = c.args.bytes.now in
    let at : ℕ = c.loop-at.at in
    let m : ℕ = c.plain_len-n.result in
    let long : m ≡ prefix_len is_plain (drop at bytes) = c.plain_len-n.ensures.value ∙ ap (prefix_len is_plain) (take_rest bytes at) in
    let taken : at + m - at ≡ m = omega arith in
    let items = c.in_ok-extend_from_slice.ensures.items ∙ ap (λ k. c.loop-at.values.items ++ take k (drop at bytes)) taken in
    plain_on bytes c.loop-at.values.items c.extend_from_slice.new.self.items c.loop-at.bad_octal at m c.loop-at.invariant (λ k. omega (arith, c.type_inv.bytes k)) long items

pub returns-in-None-clause-token : goal.returns-in-None-clause-token
returns-in-None-clause-token c = grind (arith, common_steps)

pub returns-in-Some-clause-token : goal.returns-in-Some-clause-token
returns-in-Some-clause-token c = grind (arith, common_steps)

pub loop-at-smaller : goal.loop-at-smaller
loop-at-smaller c = grind (arith, common_steps)

pub returns-clause-token : goal.returns-clause-token
returns-clause-token c = grind (arith, common_steps)
