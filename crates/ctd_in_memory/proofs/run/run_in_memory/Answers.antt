use Rattle.std.proofs.Common.{◌≡◌, ◌==◌, refl, ap, Some, rules}
use Rattle.std.specs.List.{slice_split}
use Rattle.ctd_in_memory.proofs.TextLemmas.{hold_answer, hold_memory}
use Rattle.ctd_in_memory.proofs.run.run_in_memory.Goals as goal
use Rattle.ctd_in_memory.proofs.run.run_in_memory.Goals.{in-Ok, in-Err}

pub returns : goal.returns
returns c = elim c.match-split_words.branch [
  | in-Ok w ↦
      let words_is : w.as_slice-words.result.now ≡ slice_split (λ b. b == 0) c.args.words.now = search rules in
      rw (w.out-is, w.err-is, w.status-is)
      (hold_answer c.new-out.result w.answer_words-status.new.out c.new-err.result w.answer_words-status.new.err
      w.as_slice-words.result.now _ c.args.program.now c.args.testdata.now w.answer_words-status.result _ _ (ap Some c.new-out.ensures.empty) refl (ap Some c.new-err.ensures.empty) refl words_is w.answer_words-status.ensures)
  | in-Err w ↦ rw (w.out-is, w.err-is, w.status-is)
      (hold_memory c.new-out.result w.usage_status-status.new.out c.new-err.result w.usage_status-status.new.err
      _ c.args.program.now c.args.testdata.now w.usage_status-status.result _ _ (ap Some c.new-out.ensures.empty) refl (ap Some c.new-err.ensures.empty) refl w.usage_status-status.ensures)
]
