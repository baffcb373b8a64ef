use Rattle.ctd_element_changes.proofs.KeysKept.{cell_by}
use Rattle.ctd_element_changes.proofs.element.has_cell.Goals as goal

pub returns-in-Some : goal.returns-in-Some
returns-in-Some c = λ yes. cell_by c.args.state c.args.array c.args.cell c.in-Some.p c.filling_at.result c.in-Some.is c.filling_at.ensures (c.follows.ensures yes)
