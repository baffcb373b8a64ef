-- Loops by their parts.
use Rattle.std.specs.Prelude.{Option}
use Rattle.ctd_token.specs.declared.text.Place.{Place}
use Rattle.ctd_program.specs.Tree.{VarTree, CommandList, Separator}
use Rattle.ctd_check.specs.Loops.{Guard, Loop}

-- a loop by its parts
abbrev pub loop_of : Place → Guard → Option VarTree → Separator → CommandList → Loop
loop_of place guard counter sep body = record { place = place; guard = guard; counter = counter; between = sep; body = body }
