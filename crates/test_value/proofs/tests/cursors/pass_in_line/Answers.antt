use Rattle.std.proofs.Common.{take, length, ap, sym, ◌∙◌}
use Rattle.std.specs.Prelude.{count_by}
use Rattle.std.proofs.lemmas.List.{take-take}
use Rattle.ctd_source.specs.calls.SourceReads.{state_of}
use Rattle.ctd_source.specs.TestData.{is_newline}
use Rattle.test_value.proofs.tests.cursors.pass_in_line.Goals as goal

pub take_in_line-requires-clause-in_line : goal.take_in_line-requires-clause-in_line
take_in_line-requires-clause-in_line g c =
    let run = c.held_run.result.now in
    let n = c.line_len-count.result in
    ap (count_by is_newline) (sym (take-take n (length run) (state_of c.args.cursor.now).held c.line_len-count.ensures.within) ∙ ap (take n) c.held_run.ensures.front) ∙ c.line_len-count.ensures.in_line
