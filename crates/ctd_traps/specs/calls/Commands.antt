-- The commands of a program, one after the other.
use Rattle.ctd_program.specs.Tree
use Rattle.std.specs.Prelude.{List, [], ◌∷◌, ◌++◌, map}
use Rattle.ctd_traps.specs.Prelude.{CommandInBlock, CommandList, CommandTree, Separator, command_tree}

abbrev mutual
  -- all commands of a list, in the order of the text: each, and what stands in it before the next
  pub all_commands : CommandList → List CommandTree
  all_commands Tree.done = []
  all_commands (Tree.then c rest) = c ∷ commands_within c ++ all_commands rest

  -- the commands in a command
  pub commands_within : CommandTree → List CommandTree
  commands_within (Tree.space place) = []
  commands_within (Tree.newline place) = []
  commands_within (Tree.eof place) = []
  commands_within (Tree.int place low high target) = []
  commands_within (Tree.string place e) = []
  commands_within (Tree.regex place literal target) = []
  commands_within (Tree.assert place t) = []
  commands_within (Tree.set place assignments) = []
  commands_within (Tree.unset place names) = []
  commands_within (Tree.loop place guard counter separator body) = separator_commands separator ++ all_commands body
  commands_within (Tree.choice place t then_do else_do) = all_commands then_do ++ all_commands else_do

  -- a separator, if there is one, and what stands in it
  pub separator_commands : Separator → List CommandTree
  separator_commands Tree.nothing = []
  separator_commands (Tree.between c) = c ∷ commands_within c

-- the trees of commands behind references
abbrev pub trees_of : List CommandInBlock → List CommandTree
trees_of commands = map (λ c. command_tree c.command.now) commands
