-- The words of a process.
use Rattle.std.specs.Prelude.{ℕ, List, Result, map, string_bytes}
use Rattle.std.specs.Vec.Iter.{into_iter_items}
use Rattle.std.specs.declared.alloc.Global.{Global}
use Rattle.std.specs.declared.io.ErrorKind.{ErrorKind}
use Rattle.std.specs.declared.string.String.{String}
use Rattle.std.specs.declared.vec.IntoIter.{IntoIter}

-- what the system answers to a process that asks for its words: the words, the program's own name first, or why there are none
abbrev pub Args : Type 0
Args = Result (IntoIter (String Global) Global) ErrorKind

-- these are the words
abbrev pub words_in : IntoIter (String Global) Global → List (List ℕ)
words_in args = map string_bytes (into_iter_items args)
