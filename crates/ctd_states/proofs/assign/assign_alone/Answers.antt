use Rattle.ctd_states.proofs.Common.{AbstractValue, AssignsAlone, List, NamedValue, entries_in, false, pins_in, refl, subst, sym}
use Rattle.ctd_states.proofs.Assigning.{assign_free, assign_pinned, not_true}
use Rattle.ctd_states.proofs.assign.assign_alone.Goals as goal

pub returns-then-not-pin : goal.returns-then-not-pin
returns-then-not-pin c =
    let g = c.args.context in
    assign_pinned (pins_in g) (entries_in g c.args.entries.now) c.args.name.now c.args.possible c.in_ok-pin.pin c.in_ok-pin.ensures (not_true c.in_ok-pin.pin.may_lack c.if-not-pin.true)

pub returns : goal.returns
returns c =
    let g = c.args.context in
    let entries = entries_in g c.args.entries.now in
    let name = c.args.name.now in
    let value = c.in_ok-value.value in
    let new : AbstractValue = record { may_lack = false; alone = c.args.possible; elements = value.elements } in
    subst (λ (after : List NamedValue). AssignsAlone (pins_in g) entries name c.args.possible after) (sym c.replace_value.ensures)
    (assign_free (pins_in g) entries name c.args.possible c.in_ok-pin.pin value new c.in_ok-pin.ensures (c.is_none.ensures c.if-not-is_none.false) c.in_ok-value.ensures refl refl)
