use Rattle.std.proofs.Common.{ap, subst, Ok, Err}
use Rattle.ctd_source.specs.calls.SourceReads.{PassesIfEqual}
use Rattle.ctd_command.proofs.Acts.{answers_as, wanted_passed, other_rejected, byte_unseen}
use Rattle.ctd_command.proofs.machine.Run.one_byte.Goals as goal

pub returns-in-Ok-true : goal.returns-in-Ok-true
returns-in-Ok-true g c =
    let P : _ → Type 0 = λ found. PassesIfEqual c.args.wanted c.args.self.now.cursor c.pass_if_eq.new.self (Ok found) in
    record { performs = wanted_passed c.args.wanted c.args.reason c.args.self.now c.pass_if_eq.new.self c.requires.sound (subst P c.in-Ok-true.field-0-test c.in-Ok-true.ensures.passes) }

pub returns-in-Ok-false : goal.returns-in-Ok-false
returns-in-Ok-false g c =
    let P : _ → Type 0 = λ found. PassesIfEqual c.args.wanted c.args.self.now.cursor c.pass_if_eq.new.self (Ok found) in
    record { performs = answers_as (ap Err c.rejected.ensures) (other_rejected c.args.wanted c.args.reason c.args.self.now c.pass_if_eq.new.self c.requires.sound (subst P c.in-Ok-false.field-0-test c.in-Ok-false.ensures.passes)) }

pub returns-in-Err : goal.returns-in-Err
returns-in-Err g c = record { performs = byte_unseen c.args.wanted c.args.reason c.args.self.now c.pass_if_eq.new.self c.in-Err.fault c.from.result c.requires.sound c.from.ensures c.in-Err.ensures.passes }
