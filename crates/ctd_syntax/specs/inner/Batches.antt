-- How a program is read one token after another, and a batch of commands at a time; for the contracts of private functions alone.
use Rattle.std.specs.Prelude.{◌≡◌, List, ◌++◌}
use Rattle.ctd_token.specs.calls.Lexing.{Uncut, IsNext}
use Rattle.ctd_token.specs.declared.token.Token.{Token}
use Rattle.ctd_program.specs.Tree.{CommandList}
use Rattle.ctd_program.specs.calls.View.{command_trees}
use Rattle.ctd_program.specs.declared.tree.Command.{Command}
use Rattle.ctd_syntax.specs.Grammar.{IsCommands}
use Rattle.ctd_syntax.specs.Lexeme.{Lexeme, lexeme_of}

-- the grammar sees this of the next token, and this is left behind it
pub record IsNextSeen (u : Uncut) (seen : Lexeme) (rest : Uncut) : Type 0 where
  pub token : Token
  pub next : IsNext u token rest
  pub seen_is : seen ≡ lexeme_of u.text token

-- some tokens spell these commands, and no others
pub record SpellsOnly (tokens : List Lexeme) (tree : CommandList) : Type 0 where
  pub spells : IsCommands tokens tree
  pub only : (other : CommandList) → IsCommands tokens other → other ≡ tree

-- the commands at the front of some tokens were put behind those that were there, and these tokens are left
pub record ReadsOff (tokens : List Lexeme) (before : List Command) (left : List Lexeme) (behind : List Command) : Type 0 where
  pub front : List Lexeme
  pub commands : List Command
  pub split : tokens ≡ front ++ left
  pub put : behind ≡ before ++ commands
  pub only : SpellsOnly front (command_trees commands)
