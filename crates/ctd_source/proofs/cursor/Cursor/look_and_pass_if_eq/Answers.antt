use Rattle.std.proofs.Common.{refl, subst, Ok, Err, None}
use Rattle.ctd_source.specs.calls.SourceReads.{GivesByte}
use Rattle.ctd_source.proofs.BufferedByte.{passes_wanted, keeps_other}
use Rattle.ctd_source.proofs.cursor.Cursor.look_and_pass_if_eq.Goals as goal

pub returns-then-byte-wanted-clause-passes : goal.returns-then-byte-wanted-clause-passes
returns-then-byte-wanted-clause-passes g c =
    let Looks : _ → Type 0 = λ next. GivesByte c.args.self.now c.look_on.new.self (Ok next) in
    keeps_other c.args.self.now c.look_on.new.self c.args.wanted c.in-Ok-Some.byte (subst Looks c.in-Ok-Some.field-0-is c.in-Ok-Some.ensures) c.if-byte-wanted.true

pub returns-else-byte-wanted-clause-passes : goal.returns-else-byte-wanted-clause-passes
returns-else-byte-wanted-clause-passes g c =
    let Looks : _ → Type 0 = λ next. GivesByte c.args.self.now c.look_on.new.self (Ok next) in
    passes_wanted c.args.self.now c.look_on.new.self c.pass_first.new.self c.args.wanted c.in-Ok-Some.byte (subst Looks c.in-Ok-Some.field-0-is c.in-Ok-Some.ensures) c.if-byte-wanted.false c.pass_first.ensures.moves

pub returns-in-Ok-None-clause-passes : goal.returns-in-Ok-None-clause-passes
returns-in-Ok-None-clause-passes g c =
    let Looks : _ → Type 0 = λ next. GivesByte c.args.self.now c.look_on.new.self (Ok next) in
    record { next = Ok None; looked = c.look_on.new.self; looks = subst Looks c.in-Ok-None.field-0-is c.in-Ok-None.ensures; answer = refl; moves = λ e. cc; stays = λ _. refl }

pub returns-in-Err-clause-passes : goal.returns-in-Err-clause-passes
returns-in-Err-clause-passes g c = record { next = Err c.in-Err.fault; looked = c.look_on.new.self; looks = c.in-Err.ensures; answer = refl; moves = λ e. cc; stays = λ _. refl }
