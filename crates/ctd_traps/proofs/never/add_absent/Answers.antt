use Rattle.ctd_traps.proofs.Absent.{absent_pushed}
use Rattle.ctd_traps.proofs.never.add_absent.Goals as goal

pub returns-then-has_note : goal.returns-then-has_note
returns-then-has_note c = λ notes all before. before

pub returns : goal.returns
returns c = λ notes all before. absent_pushed notes c.args.never.now.items c.push.new.self.items c.args.note c.in_ok-push.ensures.items
    (λ among. absurd (cc (all c.args.note among, c.has_note.ensures, c.if-has_note.false))) before
