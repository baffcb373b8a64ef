-- How a run ends.
use Rattle.ctd_outcome.specs.declared.outcome.Outcome.TheVariants as outcomes
use Rattle.ctd_check.specs.declared.halt.Halt.TheVariants as halts
use Rattle.std.specs.Prelude.{◌≡◌, Result, Ok, Err}
use Rattle.ctd_source.specs.declared.spot.Spot.{Spot}
use Rattle.ctd_outcome.specs.declared.reason.Fault.TheVariants.{StepLimit}
use Rattle.ctd_command.specs.declared.failure.CommandFailure.{CommandFailure}
use Rattle.ctd_command.specs.declared.failure.Failure.TheVariants.{Rejected, Stopped, Memory}
use Rattle.ctd_outcome.specs.declared.outcome.Site.{Site}
use Rattle.ctd_outcome.specs.declared.outcome.Outcome.{Outcome}
use Rattle.ctd_check.specs.declared.halt.Halt.{Halt}

-- how a run ends where a command is rejected that began there
abbrev pub halt_of : Spot → Site → CommandFailure → Halt
halt_of spot place (Rejected reason) = halts.Outcome (outcomes.Rejected spot place reason)
halt_of spot place (Stopped fault) = halts.Outcome (outcomes.Stopped spot place fault)
halt_of spot place Memory = halts.Memory

-- how a run ends that has no step left for a task
abbrev pub at_limit : Spot → Site → Outcome
at_limit spot place = outcomes.Stopped spot place StepLimit

-- a run that came to its end has this outcome
abbrev pub Concludes : Result (Unit {0}) Halt → Outcome → Type 0
Concludes (Ok x) outcome = outcome ≡ outcomes.Accepted
Concludes (Err (halts.Outcome o)) outcome = outcome ≡ o
Concludes (Err halts.Memory) outcome = ⊥
