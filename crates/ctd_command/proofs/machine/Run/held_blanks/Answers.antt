use Rattle.std.proofs.Common.{◌<◌, length, refl, ◌∙◌, arith}
use Rattle.std.specs.List.{prefix_len}
use Rattle.std.proofs.lemmas.List.Sums.{prefix_len-le-length}
use Rattle.ctd_source.specs.calls.SourceReads.{state_of}
use Rattle.ctd_source.proofs.AdvanceLemmas.{advances_so, advances_moving}
use Rattle.ctd_command.specs.Blanks.{is_blank}
use Rattle.ctd_command.specs.calls.Performs.{state}
use Rattle.ctd_command.proofs.HeldBlanks.{blanks_in_line, blanks_skipped, blanks_some}
use Rattle.ctd_command.proofs.machine.Run.held_blanks.Goals as goal

pub take_in_line-requires-clause-held : goal.take_in_line-requires-clause-held
take_in_line-requires-clause-held g c = omega (arith, c.blank_len-count.ensures, prefix_len-le-length is_blank c.held_run-run.result.now, c.held_run-run.ensures.held)

pub take_in_line-requires-clause-in_line : goal.take_in_line-requires-clause-in_line
take_in_line-requires-clause-in_line g c = blanks_in_line c.held_run-run.result.now (state_of c.args.self.now.cursor).held c.blank_len-count.result c.held_run-run.ensures.front c.blank_len-count.ensures

pub returns-clause-skips : goal.returns-clause-skips
returns-clause-skips g c passed =
    let a = c.args.self.now.cursor in
    let b = c.take_in_line.new.self in
    let m = c.take_in_line.ensures.moves in
    let run = c.held_run-run.result.now in
    let n = c.blank_len-count.result in
    let ends : n < length run = omega (arith, c.blank_len-count.ensures, prefix_len-le-length is_blank run, c.if-count-run.false) in
    record {
      sound = m.fault ∙ c.requires.sound;
      goes = advances_so (advances_moving n a b m)
          (λ d stand _. blanks_skipped run n d (state c.args.self.now) (state_of a) (state_of b) c.blank_len-count.ensures ends stand.before stand.after a.counted b.counted c.held_run-run.ensures.front c.held_run-run.ensures.held c.held_run-run.ensures.within refl m.offset m.held m.limit);
    }

pub returns-clause-some : goal.returns-clause-some
returns-clause-some g c passed least =
    let a = c.args.self.now.cursor in
    let b = c.take_in_line.new.self in
    let m = c.take_in_line.ensures.moves in
    let run = c.held_run-run.result.now in
    let n = c.blank_len-count.result in
    let ends : n < length run = omega (arith, c.blank_len-count.ensures, prefix_len-le-length is_blank run, c.if-count-run.false) in
    let some : 0 < prefix_len is_blank run = omega (arith, c.blank_len-count.ensures, least, c.if-count-least.false) in
    record {
      sound = m.fault ∙ c.requires.sound;
      goes = advances_so (advances_moving n a b m)
          (λ d stand _.
          blanks_some run d (state c.args.self.now) (state_of a) some stand.before a.counted c.held_run-run.ensures.front c.held_run-run.ensures.held c.held_run-run.ensures.within refl
          ∙ blanks_skipped run n d (state c.args.self.now) (state_of a) (state_of b) c.blank_len-count.ensures ends stand.before stand.after a.counted b.counted c.held_run-run.ensures.front c.held_run-run.ensures.held c.held_run-run.ensures.within refl m.offset m.held m.limit);
    }
