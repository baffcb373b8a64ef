-- The options and arguments of the command line, as clap defines what it takes.
use Rattle.std.specs.Prelude.{ℕ, [], ◌∷◌, fold, Option, None, Some, true, codes}
use Rattle.clap.specs.Words.{App, Rule, Text, new_app, new_rule, with_rule}
use Rattle.clap.specs.Simple.{on_top}
use Rattle.clap.specs.declared.builder.ArgAction.{ArgAction}
use Rattle.clap.specs.declared.builder.ArgAction.TheVariants.{Set, SetTrue}

-- an option with a long name and perhaps a short one
abbrev pub option_rule : Text → Option ℕ → ArgAction → Rule
option_rule name short action = record (new_rule name) { long = Some name; short = short; action = Some action }

-- The command, which has a version; the options with their letters; and the two files, of which that of the program has to be there. It is opened only by name: computed at words that are not known, what clap makes of it is very large.
unfoldable pub checker : App
checker = fold with_rule (on_top (λ s. record s { has_version = true }) (new_app (codes "checktestdata"))) (
    option_rule (codes "generate") (Some 103) SetTrue ∷
    option_rule (codes "define") (Some 68) Set ∷
    option_rule (codes "quiet") (Some 113) SetTrue ∷
    option_rule (codes "whitespace-ok") (Some 119) SetTrue ∷
    option_rule (codes "max-steps") None Set ∷
    record (new_rule (codes "PROGRAM")) { required = true; action = Some Set } ∷ new_rule (codes "TESTDATA") ∷ [])
