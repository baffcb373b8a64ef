-- Options and arguments as clap has them.
use Rattle.std.specs.Prelude.{◌≡◌, false}
use Rattle.clap.specs.Built.{IsPlainArg}
use Rattle.clap.specs.declared.builder.arg.Arg.{Arg}

-- an argument that excludes no other, and is of this command alone
abbrev pub IsLocal : Arg → Type 0
IsLocal a = IsPlainArg a × (a.global ≡ false)
