use Rattle.ctd_lint_tool.proofs.Common.{no_room, refl, with_words}
use Rattle.ctd_lint_tool.specs.declared.command_line.LintFault.TheVariants as faults
use Rattle.ctd_lint_tool.proofs.RunLemmas.{told, args_fault}
use Rattle.ctd_lint_tool.proofs.process.answer_args.Goals as goal

pub returns-in-OutOfMemory : goal.returns-in-OutOfMemory
returns-in-OutOfMemory g c = no_room (record { no_file = refl; told = c.memory_status.ensures })

pub returns-in_default : goal.returns-in_default
returns-in_default g c = args_fault _ _ _ _ c.in-Err.kind _ c.in-Err.is c.in_default.not-OutOfMemory (told _ _ _ faults.Words _ refl c.usage_status.ensures)

pub returns-in_default-copy_words : goal.returns-in_default-copy_words
returns-in_default-copy_words g c = no_room (record { no_file = refl; told = c.memory_status-in_default-copy_words.ensures })

pub returns : goal.returns
returns g c = with_words c.in-Ok.args c.in-Ok.is (rw (c.as_slice.ensures.value, c.in-Ok-copy_words.ensures) at c.answer_words.ensures)
