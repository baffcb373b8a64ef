use Rattle.ctd_traps.proofs.Common.{Noted}
use Rattle.ctd_traps.proofs.Noting.{part_of}
use Rattle.ctd_traps.proofs.note.note_states.Goals as goal

pub returns : goal.returns
returns c =
    let g = c.args.context in
    let old : Noted = c.args.noted.now in
    let new : Noted = record { traps = old.traps; events = old.events; joined = c.add_partition.new.joined; less_known = old.less_known } in
    record {
      more = part_of g old new (λ t is. is) (λ e is. is) c.in_ok-add_partition.ensures.others;
      found = c.in_ok-add_partition.ensures.found;
    }
