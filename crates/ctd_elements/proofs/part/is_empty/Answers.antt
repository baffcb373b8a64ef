use Rattle.ctd_elements.proofs.Parts.{empty_side}
use Rattle.ctd_elements.proofs.part.is_empty.Goals as goal

pub returns-else-lacks_number-2 : goal.returns-else-lacks_number-2
returns-else-lacks_number-2 c = λ yes. empty_side c.args.state c.args.side c.in-Between.s c.in-Between.is (c.is_at_most.ensures yes)
