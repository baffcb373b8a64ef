use Rattle.ctd_traps.proofs.trap.report_kind.Goals as goal

pub returns-then-not-has : goal.returns-then-not-has
returns-then-not-has c = record { more = λ t h. h; listed = λ is. absurd (cc (c.has.ensures.holds is, c.if-not-has.true)) }
