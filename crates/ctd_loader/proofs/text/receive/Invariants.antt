use Rattle.std.proofs.Common.{◌≡◌, ◌≤◌, ◌-◌, length}
use Rattle.ctd_source.specs.SourceReads.{GaveBytes}
use Rattle.ctd_source.specs.declared.source.Seen.TheVariants.{Going}
use Rattle.ctd_loader.proofs.text.receive.Given as goal

abbrev pub invariant-loop-piece : goal.invariant-loop-piece
invariant-loop-piece g l = record {
  within : length l.bytes.items ≤ l.most;
  going : g.P.Source.seen l.program ≡ Going;
  gave : GaveBytes g.P.Source l.initial.program l.program l.bytes.items;
}

abbrev pub decreases-loop-piece : goal.decreases-loop-piece
decreases-loop-piece g l = l.most - length l.bytes.items
