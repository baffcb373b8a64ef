-- Loops: their counters.
use Rattle.std.specs.Prelude.{ℕ, ⊤, Option, pos}
use Rattle.ctd_program.specs.Tree.{VarTree}
use Rattle.ctd_store.specs.declared.value.Value.TheVariants as values
use Rattle.ctd_command.specs.State.{Act}
use Rattle.ctd_command.specs.Commands.{keep}

-- the counter, where there is one, gets the turn's number
abbrev pub count_turn : Option VarTree → ℕ → Act ⊤
count_turn counter k = keep counter (values.Int (pos k))
