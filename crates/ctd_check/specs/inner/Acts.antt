-- What commands do.
use Rattle.std.specs.Prelude.{List}
use Rattle.ctd_program.specs.Tree.{CommandTree}
use Rattle.ctd_command.specs.State.{Act}
use Rattle.ctd_check.specs.Loops.{Task}
use Rattle.ctd_check.specs.Run.{command}

-- what a command does, with the tasks that it leaves to be done first
abbrev pub act_of : CommandTree → Act (List Task)
act_of c = (command c).1
