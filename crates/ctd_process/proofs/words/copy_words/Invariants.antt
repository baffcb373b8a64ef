use Rattle.std.proofs.Common.{◌≡◌, ◌++◌, length, map, string_bytes}
use Rattle.std.specs.Vec.Iter.{into_iter_items, into_iter_len}
use Rattle.ctd_process.proofs.words.copy_words.Given as goal

abbrev pub invariant-loop-arg : goal.invariant-loop-arg
invariant-loop-arg l = (l.words.items ++ map string_bytes (into_iter_items l.arg-iterator) ≡ map string_bytes (into_iter_items l.initial.arg-iterator))
    × (into_iter_len l.arg-iterator ≡ length (into_iter_items l.arg-iterator))
