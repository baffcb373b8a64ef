use Rattle.std.proofs.Common.{All}
use Rattle.ctd_guarantees.specs.inner.Parts.{IsLineOf}
use Rattle.ctd_guarantees.proofs.part.lines_of.Given as goal

abbrev pub invariant-loop-picks : goal.invariant-loop-picks
invariant-loop-picks l = All (IsLineOf l.known) l.lines.items
