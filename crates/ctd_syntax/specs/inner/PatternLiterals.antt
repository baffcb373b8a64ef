-- The literals of REGEX in the tree of a program; for the contracts of private functions alone.
use Rattle.std.specs.Prelude.{List, [], ◌∷◌, ◌++◌}
use Rattle.ctd_program.specs.declared.tree.PatternLiteral.{PatternLiteral}
use Rattle.ctd_program.specs.Tree
use Rattle.ctd_program.specs.Tree.{CommandTree, CommandList, Separator}

-- the literals of a command, those of its separator and of the commands within it too, in the order of the text
abbrev mutual
  -- the literals of REGEX in a command
  pub command_literals : CommandTree → List PatternLiteral
  command_literals (Tree.space place) = []
  command_literals (Tree.newline place) = []
  command_literals (Tree.eof place) = []
  command_literals (Tree.int place low high target) = []
  command_literals (Tree.string place e) = []
  command_literals (Tree.regex place literal target) = literal ∷ []
  command_literals (Tree.assert place t) = []
  command_literals (Tree.set place assignments) = []
  command_literals (Tree.unset place names) = []
  command_literals (Tree.loop place guard counter separator body) = separator_literals separator ++ literals body
  command_literals (Tree.choice place t then_do else_do) = literals then_do ++ literals else_do

  -- the literals of a separator
  pub separator_literals : Separator → List PatternLiteral
  separator_literals Tree.nothing = []
  separator_literals (Tree.between c) = command_literals c

  -- the literals of commands one after the other
  pub literals : CommandList → List PatternLiteral
  literals Tree.done = []
  literals (Tree.then c rest) = command_literals c ++ literals rest
