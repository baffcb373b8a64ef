use Rattle.std.proofs.Common.{subst, sym}
use Rattle.ctd_elements.specs.calls.Blocks.{AllStand}
use Rattle.ctd_element_changes.proofs.Joined.{when_ok}
use Rattle.ctd_element_changes.proofs.join.backwards.Goals as goal

pub returns : goal.returns
returns c = when_ok c.add_backwards-2.result (λ after keeps. keeps (c.in_ok-orders.ensures (λ names h all. subst (λ l. AllStand names h l) (sym c.new.ensures.items) tt))) c.add_backwards-2.ensures
