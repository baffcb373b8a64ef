-- What the start of a command ensures.
use Rattle.std.specs.Prelude.{◌≡◌, List, ◌++◌, Result, Ok, Err, OnOk}
use Rattle.ctd_source.specs.declared.source.Source.{Ghosts}
use Rattle.ctd_source.specs.declared.spot.Spot.{Spot}
use Rattle.ctd_program.specs.Tree.{CommandTree}
use Rattle.ctd_command.specs.declared.machine.Run.{Run}
use Rattle.ctd_command.specs.declared.failure.CommandFailure.{CommandFailure}
use Rattle.ctd_command.specs.calls.Performs.{Performs}
use Rattle.ctd_value.specs.calls.Lending.{map_ok}
use Rattle.ctd_check.specs.declared.halt.Halt.{Halt}
use Rattle.ctd_outcome.specs.declared.outcome.Site.{Site}
use Rattle.ctd_check.specs.inner.Halts.{halt_of}
use Rattle.ctd_check.specs.Loops.{Task}
use Rattle.ctd_check.specs.inner.Acts.{act_of}

-- how a run goes on or ends by the answer of a command that began at this spot and stands at this site
abbrev pub halt_result : Spot → Site → Result (Unit {0}) CommandFailure → Result (Unit {0}) Halt
halt_result spot place (Ok x) = Ok x
halt_result spot place (Err failure) = Err (halt_of spot place failure)

module _ {R : Type 0} {G : Ghosts R} where
  -- this command was started with this answer, and what it leaves is to be done before all else
  pub record Opens (old new : Run R G) (rest after : List Task) (c : CommandTree) (result : Result (Unit {0}) CommandFailure) : Type 0 where
    pub more : List Task
    pub performs : Performs old new (map_ok (λ _. more) result) (act_of c)
    pub comes_first : OnOk result (after ≡ more ++ rest)
