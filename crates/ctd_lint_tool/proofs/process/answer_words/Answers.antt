use Rattle.ctd_lint_tool.proofs.Common.{Err, Memory, Write, broken_run, no_memory, of_programs, refl, rules, stand, whole_run, ◌≡◌}
use Rattle.ctd_lint_tool.proofs.RunLemmas.{run_breaks, run_runs_out, told, words_fault}
use Rattle.ctd_lint_tool.proofs.process.answer_words.Goals as goal

pub returns-in-Err : goal.returns-in-Err
returns-in-Err g c = words_fault _ _ _ _ c.in-Err.fault _ c.in-Err.ensures.fault (told _ _ _ c.in-Err.fault _ refl c.usage_status.ensures)

pub returns-in-Ok-lint_all : goal.returns-in-Ok-lint_all
returns-in-Ok-lint_all g c = of_programs c.in-Ok.setup c.in-Ok.ensures.setup (whole_run (rw (c.as_slice-names.ensures.value) at c.in-Ok-lint_all.ensures.run))

pub returns-in-Err-Write : goal.returns-in-Err-Write
returns-in-Err-Write g c =
    let fault_is : c.lint_all.result ≡ Err Write = search rules in
    of_programs c.in-Ok.setup c.in-Ok.ensures.setup (broken_run (run_breaks _ _ _ _ _ _ _ c.as_slice-names.ensures.value fault_is c.lint_all.ensures.run) refl)

pub returns : goal.returns
returns g c =
    let fault_is : c.lint_all.result ≡ Err Memory = search rules in
    of_programs c.in-Ok.setup c.in-Ok.ensures.setup (no_memory
    (stand c.lint_all.new.programs c.lint_all.new.out c.lint_all.new.err)
    (run_runs_out _ _ _ _ _ _ _ c.as_slice-names.ensures.value fault_is c.lint_all.ensures.run)
    (record { no_file = refl; told = c.memory_status.ensures }))
