-- The faults that a command can have, whatever the variables are.
use Rattle.std.specs.Prelude.{true, false, None, List, Contains}
use Rattle.ctd_program.specs.Tree
use Rattle.ctd_traps.specs.Prelude.{CommandTree, Fault, Faults, IsAmong, place_of}
use Rattle.ctd_traps.specs.calls.Traps.{PlacedFault}
use Rattle.ctd_traps.specs.inner.Holds.{AreListed}
use Rattle.ctd_states.specs.declared.faults.Blame.{Blame}

-- nothing is to blame
abbrev pub nothing_to_blame : Blame
nothing_to_blame = record { no_value = None; no_element = None; wrong_type = None; overflow = None; division_by_zero = None; exponent = None; count = None }

-- no faults of a value
abbrev pub of_nothing : Faults
of_nothing = record { no_value = false; no_element = false; wrong_type = false; overflow = false; division_by_zero = false; exponent = false; count = false; shape = false; blame = nothing_to_blame }

-- the faults of expressions
abbrev pub of_expressions : Faults
of_expressions = record { no_value = true; no_element = true; wrong_type = true; overflow = true; division_by_zero = true; exponent = true; count = false; shape = false; blame = nothing_to_blame }

-- the faults of tests
abbrev pub of_tests : Faults
of_tests = record { no_value = true; no_element = true; wrong_type = true; overflow = true; division_by_zero = true; exponent = true; count = false; shape = true; blame = nothing_to_blame }

-- the faults of loops
abbrev pub of_loops : Faults
of_loops = record { no_value = true; no_element = true; wrong_type = true; overflow = true; division_by_zero = true; exponent = true; count = true; shape = true; blame = nothing_to_blame }

-- the faults that a command can have
abbrev pub possible_in : CommandTree → Faults
possible_in (Tree.space place) = of_nothing
possible_in (Tree.newline place) = of_nothing
possible_in (Tree.eof place) = of_nothing
possible_in (Tree.int place low high target) = of_expressions
possible_in (Tree.string place e) = of_expressions
possible_in (Tree.regex place literal target) = of_expressions
possible_in (Tree.assert place t) = of_tests
possible_in (Tree.set place assignments) = of_expressions
possible_in (Tree.unset place names) = of_nothing
possible_in (Tree.loop place guard counter separator body) = of_loops
possible_in (Tree.choice place t then_do else_do) = of_tests

-- all faults of one list are in another
abbrev pub AreAmong : Faults → Faults → Type 0
AreAmong some all = (why : Fault) → IsAmong some why → IsAmong all why

-- a trap is listed for each fault that a command can have
abbrev pub IsListed : List PlacedFault → CommandTree → Type 0
IsListed traps c = AreListed traps (place_of c) (possible_in c)

-- the same of some commands
abbrev pub AreAllListed : List PlacedFault → List CommandTree → Type 0
AreAllListed traps cs = (c : CommandTree) → Contains cs c → IsListed traps c
