use Rattle.ctd_traps.proofs.Joining.{describes_here}
use Rattle.ctd_traps.proofs.joined.add_partition.Goals as goal

pub returns : goal.returns
returns c =
    let g = c.args.context in
    let added = c.in_ok-add_state.ensures in
    record {
      others = λ place moment h found kept. added.others place moment h (found kept);
      found = λ n h one kept. added.added c.args.place c.args.moment h (describes_here g c.args.place c.args.moment c.in_ok-state.state n h (c.in_ok-state.ensures n h one));
    }
