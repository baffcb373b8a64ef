use Rattle.ctd_traps.proofs.Common.{[], rules, subst, sym, ◌≡◌}
use Rattle.ctd_traps.proofs.Knowing.{nothing_known, value_told}
use Rattle.ctd_traps.specs.calls.Known.{AreSo}
use Rattle.ctd_traps.proofs.known.known_values.Goals as goal

pub loop-i-init : goal.loop-i-init
loop-i-init c =
    let none : c.new-known.result.items ≡ [] = search rules in
    λ g n h stands. subst (AreSo g.names.now h) (sym none) (nothing_known g.names.now h)

pub loop-i-preserved : goal.loop-i-preserved
loop-i-preserved c = value_told c.args.state.now c.as_slice-entries.result.now c.loop-i.i _ c.loop-i.known.items c.add_value.new.known.items c.as_slice-entries.ensures.value (search rules) c.in_ok-add_value.ensures c.loop-i.invariant
