use Rattle.ctd_traps.proofs.Common.{[], rules, subst, sym, ◌≡◌}
use Rattle.ctd_traps.proofs.Knowing.{no_places}
use Rattle.ctd_traps.specs.inner.Knowing.{AreKnown}
use Rattle.ctd_traps.proofs.known.known_at_places.Goals as goal

pub loop-entry-init : goal.loop-entry-init
loop-entry-init c =
    let none : c.new-found.result.items ≡ [] = search rules in
    subst (AreKnown c.args.context c.args.joined.now) (sym none) (no_places c.args.context c.args.joined.now)

pub loop-entry-preserved : goal.loop-entry-preserved
loop-entry-preserved c = c.in_ok-add_place-2.ensures (c.in_ok-add_place.ensures c.loop-entry.invariant)

pub returns : goal.returns
returns c = c.loop-entry.invariant
