use Rattle.ctd_source.proofs.BufferedByte.{looks_at_buffered, passes_wanted}
use Rattle.ctd_source.proofs.cursor.Cursor.pass_if_eq.Goals as goal

pub returns-in-Some-clause-passes : goal.returns-in-Some-clause-passes
returns-in-Some-clause-passes g c =
    let s = c.args.self.now in
    passes_wanted s s c.pass_first.new.self c.args.wanted c.in-Some.byte (looks_at_buffered s c.in-Some.byte c.in-Some.ensures.held c.in-Some.ensures.sound c.in-Some.ensures.within) c.if-byte-wanted.true c.pass_first.ensures.moves
