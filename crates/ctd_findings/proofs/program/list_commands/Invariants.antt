use Rattle.ctd_findings.specs.inner.Sound.{AllSound, places_in}
use Rattle.ctd_findings.proofs.program.list_commands.Given as goal

abbrev pub invariant-loop-entry : goal.invariant-loop-entry
invariant-loop-entry l = AllSound (places_in l.commands) l.never l.initial.found → AllSound (places_in l.commands) l.never l.found
