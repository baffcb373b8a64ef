-- Commands that are listed.
use Rattle.std.specs.Prelude.{List, Option}
use Rattle.ctd_traps.specs.Prelude.{Collector, CommandInBlock, CommandTree}
use Rattle.ctd_traps.specs.calls.Collector.{seen_in}
use Rattle.ctd_traps.specs.calls.Commands.{trees_of}

-- the trees of the commands that were found
abbrev pub trees_in : Collector CommandInBlock → Option (List CommandTree)
trees_in found = seen_in trees_of found
