use Rattle.ctd_traps.proofs.Common.{Contains, Noted, events_of, faults_of, subst, sym}
use Rattle.ctd_traps.proofs.Noting.{events_left, events_right, part_of}
use Rattle.ctd_traps.proofs.note.note_all.Goals as goal

pub returns : goal.returns
returns c =
    let g = c.args.context in
    let part : Noted = c.args.part in
    let old : Noted = c.args.noted.now in
    let new : Noted = record { traps = c.add_traps.new.traps; events = c.extend_from_slice.new.self; joined = c.add_part.new.joined; less_known = c.first_place-noted.result } in
    let events = c.as_slice-2.result.now in
    let found = c.in_ok-add_traps.ensures in
    let happened = c.in_ok-extend_from_slice.ensures.items in
    record {
      more = part_of g old new found.more (events_left old.events.items events new.events.items happened) c.in_ok-add_part.ensures.others;
      all = part_of g part new
          (λ t has. found.added t (subst (λ l. Contains (faults_of l) t) (sym c.as_slice.ensures.value) has))
          (λ e has. events_right old.events.items events new.events.items happened e (subst (λ l. Contains (events_of l) e) (sym c.as_slice-2.ensures.value) has))
          c.in_ok-add_part.ensures.added;
    }
