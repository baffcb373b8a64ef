use Rattle.std.proofs.Common.{◌≡◌, ℕ, ◌+◌, ◌<◌, List, Err, length, get_or, sym, ap, subst, arith, length-drop}
use Rattle.std.proofs.lemmas.List.{take_rest}
use Rattle.ctd_program.specs.declared.preset.PresetFault.TheVariants.{BadPreset}
use Rattle.ctd_program.specs.Presets.{AreSeparated}
use Rattle.ctd_program.specs.inner.PresetFront.{MayFollowItem, MayFollowList, IsAtFront, NothingIsAtFront}
use Rattle.ctd_program.proofs.SeparatedLists.{ReadUpTo, none_there, last, on}
use Rattle.ctd_program.proofs.preset_text.list_at.Goals.{then-at-bytes-via-then-at-bytes, then-at-bytes-via-else-at-bytes+then-bytes-at-ne44}
use Rattle.ctd_program.proofs.preset_text.list_at.Goals as goal

pub returns-in_err-item-clause-refused : goal.returns-in_err-item-clause-refused
returns-in_err-item-clause-refused g c is =
    let bad : c.in_err-item.field-0.0 ≡ BadPreset = grind (arith, c.from_residual.ensures.1) in
    none_there c.loop-items.invariant (subst (NothingIsAtFront MayFollowItem g.T.Item.spells) (take_rest c.args.bytes.now c.loop-items.at) (c.in_err-item.ensures.refused (ap Err bad)))

pub returns-then-at-bytes-clause-read : goal.returns-then-at-bytes-clause-read
returns-then-at-bytes-clause-read g c =
    let bytes : List ℕ = c.args.bytes.now in
    let at : ℕ = c.loop-items.at in
    let len : ℕ = c.in_ok-item.len in
    let there = subst (λ l. IsAtFront MayFollowItem g.T.Item.spells l (c.in_ok-item.item, len)) (take_rest bytes at) c.in_ok-item.ensures.read in
    let ends : at + len < length bytes → get_or bytes (at + len) 0 ≡ 44 → ⊥ = elim c.then-at-bytes.branch [
      | then-at-bytes-via-then-at-bytes w ↦ λ lt comma. omega (arith, w.if-at-bytes.true, lt)
      | then-at-bytes-via-else-at-bytes+then-bytes-at-ne44 w ↦ λ lt comma. w.if-bytes-at-ne44.true comma
    ] in
    subst (λ l. IsAtFront MayFollowList (AreSeparated g.T.Item.spells) bytes (l, at + len)) (sym c.in_ok-push.ensures.items) (last c.loop-items.invariant there ends)

pub loop-items-preserved : goal.loop-items-preserved
loop-items-preserved g c =
    let bytes : List ℕ = c.args.bytes.now in
    let at : ℕ = c.loop-items.at in
    let len : ℕ = c.in_ok-item.len in
    let there = subst (λ l. IsAtFront MayFollowItem g.T.Item.spells l (c.in_ok-item.item, len)) (take_rest bytes at) c.in_ok-item.ensures.read in
    let lt : at + len < length bytes = omega (arith, there.within, length-drop at bytes, c.loop-items.invariant.within, c.if-at-bytes.false) in
    subst (λ l. ReadUpTo g.T.Item.spells bytes l (at + len + 1)) (sym c.in_ok-push.ensures.items) (on c.loop-items.invariant there lt c.if-bytes-at-ne44.false)
