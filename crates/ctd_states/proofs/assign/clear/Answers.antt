use Rattle.ctd_states.proofs.Common.{Clears, List, NamedValue, entries_in, pins_in, subst, sym}
use Rattle.ctd_states.proofs.Assigning.{clear_name}
use Rattle.ctd_states.proofs.assign.clear.Goals as goal

pub returns : goal.returns
returns c =
    let g = c.args.context in
    let entries = entries_in g c.args.entries.now in
    subst (λ (after : List NamedValue). Clears (pins_in g) entries c.args.name.now after) (sym c.replace_value.ensures) (clear_name (pins_in g) entries c.args.name.now c.in_ok-value.value c.in_ok-value.ensures)
