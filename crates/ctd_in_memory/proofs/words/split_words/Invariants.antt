use Rattle.std.proofs.Common.{◌≡◌, map, take}
use Rattle.ctd_in_memory.proofs.words.split_words.Given as goal

abbrev pub invariant-loop-piece : goal.invariant-loop-piece
invariant-loop-piece l = record {
  words : l.words.items ≡ map (λ x. x.now) (take l.piece-index l.piece-items);
}
