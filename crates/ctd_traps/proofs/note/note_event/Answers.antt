use Rattle.ctd_traps.proofs.Common.{Note, Noted, [], ◌∷◌}
use Rattle.ctd_traps.proofs.Noting.{event_pushed, events_left, kind_noted, part_of}
use Rattle.ctd_traps.proofs.note.note_event.Goals as goal

pub returns : goal.returns
returns c =
    let x : Note = record { place = c.args.place; kind = c.args.kind } in
    let old : Noted = c.args.noted.now in
    let new : Noted = record { traps = old.traps; events = c.push.new.self; joined = old.joined; less_known = old.less_known } in
    record {
      more = λ g. part_of g old new (λ t is. is) (events_left old.events.items (x ∷ []) new.events.items c.in_ok-push.ensures.items) (λ place moment h found. found);
      event = λ g n h one. kind_noted g new c.args.place c.args.kind (event_pushed old.events.items new.events.items x c.in_ok-push.ensures.items);
    }
