use Rattle.ctd_traps.specs.declared.note.Noted.{Noted}
use Rattle.ctd_traps.proofs.Noting.{part_of}
use Rattle.ctd_traps.proofs.note.note_faults.Goals as goal

pub returns : goal.returns
returns c =
    let old : Noted = c.args.noted.now in
    let new : Noted = record { traps = c.report.new.traps; events = old.events; joined = old.joined; less_known = old.less_known } in
    record { more = λ g. part_of g old new c.in_ok-report.ensures.more (λ e is. is) (λ place moment h found. found); faults = λ g. c.in_ok-report.ensures.listed }
