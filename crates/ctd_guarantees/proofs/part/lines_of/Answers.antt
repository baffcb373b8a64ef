use Rattle.std.proofs.lemmas.List.Elements.{All-push, All-same}
use Rattle.ctd_guarantees.specs.inner.Parts.{IsLineOf}
use Rattle.ctd_guarantees.proofs.part.lines_of.Goals as goal

pub loop-picks-preserved : goal.loop-picks-preserved
loop-picks-preserved c =
    let P = IsLineOf c.args.known.now in
    All-same P c.push.new.self.items _ c.in_ok-push.ensures.items (All-push P c.loop-picks.lines.items _ c.loop-picks.invariant c.in_ok-parts.ensures)
