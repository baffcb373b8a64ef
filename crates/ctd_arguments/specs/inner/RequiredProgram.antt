-- The command line requires the name of the program's file.
use Rattle.std.specs.Prelude.{◌≡◌, List, [], ◌∷◌, All, map, false, codes}
use Rattle.std.specs.List.{slice_index_or}
use Rattle.clap.specs.Built.{AddsArg, AddsInTurn, TakesValue}
use Rattle.clap.specs.Facts.{args_of, groups_of}
use Rattle.clap.specs.Words.{Text}
use Rattle.clap.specs.declared.builder.arg.Arg.{Arg}
use Rattle.clap.specs.declared.builder.command.Command.{Command}
use Rattle.clap.specs.declared.builder.command.Command.TheViews.{out-Command}
use Rattle.ctd_arguments.specs.calls.Options.{IsLocal}

-- the options and arguments by their names, in the order in which they are added
abbrev pub names : List Text
names = codes "generate" ∷ codes "define" ∷ codes "quiet" ∷ codes "whitespace-ok" ∷ codes "max-steps" ∷ codes "PROGRAM" ∷ codes "TESTDATA" ∷ []

-- the command was made by adding these arguments to one that had none, and PROGRAM has to have a value
pub record RequiresProgram (command : Command) : Type 0 where
  pub bare : Command
  pub args : List Arg
  pub added : AddsInTurn AddsArg bare args command
  pub no_args : args_of bare ≡ []
  pub no_groups : groups_of bare ≡ []
  pub no_globals : (out-Command bare).has_globals ≡ false
  pub always : (out-Command bare).subcommand_negates_reqs ≡ false
  pub named : map (λ a. a.id.now) args ≡ names
  pub local : All IsLocal args
  pub program : (other : Arg) → TakesValue (slice_index_or args 5 other)
