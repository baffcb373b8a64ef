use Rattle.ctd_element_changes.proofs.KeyTests.{exactly_side}
use Rattle.ctd_element_changes.proofs.keys.is_exactly.Goals as goal

pub returns-in-Some : goal.returns-in-Some
returns-in-Some c = λ yes. exactly_side c.args.state c.args.side c.args.limits c.in-Some.index c.in-Some.is (c.is_part.ensures yes)
