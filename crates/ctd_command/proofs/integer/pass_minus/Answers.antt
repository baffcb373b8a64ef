use Rattle.std.proofs.Common.{◌∙◌, arith, ap, Ok}
use Rattle.ctd_source.proofs.AdvanceLemmas.{advances_so, advances_both, advances_looking, advances_moving}
use Rattle.ctd_command.proofs.Integers.{minus_passed, minus_other, minus_end}
use Rattle.ctd_command.proofs.integer.pass_minus.Goals as goal

pub returns-else-byte-ne45-clause-passes : goal.returns-else-byte-ne45-clause-passes
returns-else-byte-ne45-clause-passes g c =
    let r = c.in-Ok-Some.ensures.reads in
    let m = c.take.ensures.moves in
    advances_so (advances_both (advances_looking c.args.cursor.now c.look.new.self _ r (c.in-Ok-Some.ensures.answer c.requires.sound)) (advances_moving 1 c.look.new.self c.take.new.self m))
    (λ d _ e. minus_passed d c.args.cursor.now.spot.offset c.take.new.self.spot.offset c.in-Ok-Some.byte (omega (arith, ap (λ s. s.offset) r.spot, m.offset)) c.if-byte-ne45.false (e.0 ∙ ap Ok c.in-Ok-Some.field-0-is))

pub returns-then-byte-ne45-clause-passes : goal.returns-then-byte-ne45-clause-passes
returns-then-byte-ne45-clause-passes g c =
    let r = c.in-Ok-Some.ensures.reads in
    advances_so (advances_looking c.args.cursor.now c.look.new.self _ r (c.in-Ok-Some.ensures.answer c.requires.sound))
    (λ d _ e. minus_other d c.args.cursor.now.spot.offset c.look.new.self.spot.offset c.in-Ok-Some.byte (ap (λ s. s.offset) r.spot) c.if-byte-ne45.true (e ∙ ap Ok c.in-Ok-Some.field-0-is))

pub returns-in-Ok-None-clause-passes : goal.returns-in-Ok-None-clause-passes
returns-in-Ok-None-clause-passes g c =
    let r = c.in-Ok-None.ensures.reads in
    advances_so (advances_looking c.args.cursor.now c.look.new.self _ r (c.in-Ok-None.ensures.answer c.requires.sound))
    (λ d _ e. minus_end d c.args.cursor.now.spot.offset c.look.new.self.spot.offset (ap (λ s. s.offset) r.spot) (e ∙ ap Ok c.in-Ok-None.field-0-is))

pub returns-in-Err-clause-passes : goal.returns-in-Err-clause-passes
returns-in-Err-clause-passes g c =
    let r = c.in-Err.ensures.reads in
    advances_so (advances_looking c.args.cursor.now c.look.new.self _ r (c.in-Err.ensures.answer c.requires.sound))
    (λ d _ e. (ap (λ s. s.offset) r.spot, e))
