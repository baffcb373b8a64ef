-- Which commands leave the value of a name without indices alone.
use Rattle.std.specs.Prelude.{◌≡◌, ◌≢◌, ℕ, List, [], ◌∷◌, Option, Some, None}
use Rattle.ctd_program.specs.Tree
use Rattle.ctd_program.specs.declared.tree.Loop.{Loop}
use Rattle.ctd_traps.specs.Prelude.{CommandList, CommandTree, ExprTree, Separator, VarTree, boxed_separator, boxed_target, command_list, out-Loop}

-- a target is another name, or has indices
abbrev pub SparesVariable : List ℕ → VarTree → Type 0
SparesVariable name v = v.indices ≡ Tree.none → v.name ≢ name

-- a target, if there is one, is not the name without indices
abbrev pub SparesTarget : List ℕ → Option VarTree → Type 0
SparesTarget name None = Unit {0}
SparesTarget name (Some v) = SparesVariable name v

-- no assignment is to the name without indices
abbrev pub SparesAll : List ℕ → List (VarTree × ExprTree) → Type 0
SparesAll name [] = Unit {0}
SparesAll name (a ∷ rest) = SparesVariable name a.0 × SparesAll name rest

-- the name is none of these
abbrev pub SparesNames : List ℕ → List (List ℕ) → Type 0
SparesNames name [] = Unit {0}
SparesNames name (other ∷ rest) = (name ≢ other) × SparesNames name rest

abbrev mutual
  -- a command gives the name no value, and takes none from it
  pub Spares : List ℕ → CommandTree → Type 0
  Spares name (Tree.space place) = Unit {0}
  Spares name (Tree.newline place) = Unit {0}
  Spares name (Tree.eof place) = Unit {0}
  Spares name (Tree.int place low high target) = SparesTarget name target
  Spares name (Tree.string place e) = Unit {0}
  Spares name (Tree.regex place literal target) = SparesTarget name target
  Spares name (Tree.assert place t) = Unit {0}
  Spares name (Tree.set place assignments) = SparesAll name assignments
  Spares name (Tree.unset place names) = SparesNames name names
  Spares name (Tree.loop place guard counter sep body) = SparesTarget name counter × SparesBetween name sep × SparesEach name body
  Spares name (Tree.choice place t then_do else_do) = SparesEach name then_do × SparesEach name else_do

  -- a separator, if there is one, leaves the name alone
  pub SparesBetween : List ℕ → Separator → Type 0
  SparesBetween name Tree.nothing = Unit {0}
  SparesBetween name (Tree.between c) = Spares name c

  -- all of these commands do
  pub SparesEach : List ℕ → CommandList → Type 0
  SparesEach name Tree.done = Unit {0}
  SparesEach name (Tree.then c rest) = Spares name c × SparesEach name rest

-- the separator and the body of a loop leave the name alone, and the whole loop does
abbrev pub SparesTurns : List ℕ → Loop → Type 0
SparesTurns name l = SparesBetween name (boxed_separator (out-Loop l).between) × SparesEach name (command_list (out-Loop l).body)

-- the counter, the separator and the body of a loop leave the name alone
abbrev pub SparesLoop : List ℕ → Loop → Type 0
SparesLoop name l = SparesTarget name (boxed_target (out-Loop l).counter) × SparesTurns name l
