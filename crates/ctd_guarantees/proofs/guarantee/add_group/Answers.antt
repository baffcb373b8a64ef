use Rattle.std.proofs.lemmas.List.Elements.{All-push, All-same}
use Rattle.ctd_guarantees.specs.inner.Parts.{IsGroupOf}
use Rattle.ctd_guarantees.proofs.guarantee.add_group.Goals as goal

pub returns : goal.returns
returns c =
    let P = IsGroupOf c.args.knowledge.now in
    λ before. All-same P c.push.new.self.items _ c.in_ok-push.ensures.items (All-push P c.args.groups.now.items _ before
    (record { known = c.in-Some-known_in.known.now; here = c.in-Some-known_in.ensures; lines = c.in_ok-lines.ensures }))
