use Rattle.std.proofs.Common.{◌≡◌, Err, refl, rules}
use Rattle.ctd_report.proofs.EndLemmas.{EndsWithReport-weaker, WritesOneOf-EndsWithReport, FailsMidway-EndsWithReport, Memory-untouched}
use Rattle.ctd_report.specs.Written.{before_after}
use Rattle.ctd_report.specs.declared.written.ToolFault.TheVariants.{Memory, Write}
use Rattle.ctd_tool.specs.Theorem.{of_files, of_words, no_memory}
use Rattle.ctd_tool.proofs.run.run_words.Goals as goal
use Rattle.ctd_tool.proofs.run.run_words.Goals.{in-Ok-answer, in-Err-Memory, in-Err-Write}

pub returns : goal.returns
returns g c =
    let setup_is = c.in-Ok.ensures.setup in
    let written = c.check_files-answer.ensures.written in
    elim c.match-answer.branch [
      | in-Ok-answer w ↦ rw (w.out-is, w.err-is, w.status-is)
          (EndsWithReport-weaker _ _ _ _ _ (λ report files. of_files c.in-Ok.setup setup_is files) (WritesOneOf-EndsWithReport _ _ _ _ (rw w.in-Ok-answer.is at written)))
      | in-Err-Memory w ↦ rw (w.out-is, w.err-is, w.status-is)
          (let fault_is : c.check_files-answer.result.answer ≡ Err Memory = search rules in
          let untouched = Memory-untouched
          (before_after g.O.Sink c.args.out.now c.check_files-answer.new.out)
          (before_after g.E.Sink c.args.err.now c.check_files-answer.new.err)
          _ _ fault_is written in
          EndsWithReport-weaker _ _ _ _ _ (λ report is. no_memory c.in-Ok.setup setup_is c.check_files-answer.ensures.visits is) (rw (untouched.0, untouched.1) at w.usage_status-status.ensures))
      | in-Err-Write w ↦ rw (w.out-is, w.err-is, w.status-is)
          (let fault_is : c.check_files-answer.result.answer ≡ Err Write = search rules in
          EndsWithReport-weaker _ _ _ _ _ (λ report files. of_files c.in-Ok.setup setup_is files) (FailsMidway-EndsWithReport _ _ _ (rw fault_is at written)))
    ]

pub returns-in-Err : goal.returns-in-Err
returns-in-Err g c = EndsWithReport-weaker _ _ _ _ _ (λ report is. of_words c.in-Err.fault c.in-Err.ensures.fault refl is) c.usage_status.ensures
