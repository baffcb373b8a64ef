use Rattle.std.proofs.Common.{rules, refl, ◌∙◌, Ok}
use Rattle.std.proofs.lemmas.Int.{to_z-of_z}
use Rattle.std.specs.Int.{w64, w128}
use Rattle.ctd_source.proofs.AdvanceLemmas.{advances_so, advances_moving}
use Rattle.ctd_source.specs.calls.SourceReads.{state_of}
use Rattle.ctd_command.specs.Commands.{integer}
use Rattle.ctd_command.specs.calls.Performs.{Performs, state}
use Rattle.ctd_command.proofs.Acts.{and_then, with_cursor}
use Rattle.ctd_command.proofs.HeldIntegers.{integer_in_line, front_read}
use Rattle.ctd_command.proofs.machine.Run.int.Goals as goal

pub take_in_line-requires-clause-in_line : goal.take_in_line-requires-clause-in_line
take_in_line-requires-clause-in_line g c = integer_in_line c.held_run.result.now (state_of c.args.self.now.cursor).held _ c.in-Some.front.len c.held_run.ensures.front c.in-Some.ensures

pub returns : goal.returns
returns g c =
    let a = c.args.self.now.cursor in
    let b = c.take_in_line.new.self in
    let m = c.take_in_line.ensures.moves in
    let run = c.held_run.result.now in
    let front = c.in-Some.front in
    let value = to_z-of_z w64 front.value (search rules) in
    let low = simp value at (c.is_at_least.ensures c.if-not-is_at_least.false) in
    let high = simp value at (c.is_at_most.ensures c.if-not-is_at_most.false) in
    let read : Performs c.args.self.now (with_cursor c.args.self.now b) (Ok front.value) (integer low.least high.most) = record {
      sound = m.fault ∙ c.requires.sound;
      goes = advances_so (advances_moving front.len a b m)
          (λ d stand _. front_read low.least high.most run front.value front.len d (state c.args.self.now) (state_of a) (state_of b) c.in-Some.ensures low.above high.below stand.before stand.after a.counted b.counted c.held_run.ensures.front c.held_run.ensures.held c.held_run.ensures.within refl m.offset m.held m.limit);
    } in
    let wide = to_z-of_z w128 c.from.result (search rules) in
    let kept = simp (c.from.ensures, value) at (simp wide at c.keep.ensures.performs) in
    record { performs = and_then _ low.low_is (and_then _ high.high_is (and_then _ read kept)) }
