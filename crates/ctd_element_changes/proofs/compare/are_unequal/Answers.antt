use Rattle.ctd_element_changes.proofs.Comparing.{compared_unequal}
use Rattle.ctd_element_changes.proofs.compare.are_unequal.Goals as goal

pub returns-in-Unequal : goal.returns-in-Unequal
returns-in-Unequal c = λ yes s. compared_unequal s c.args.p c.args.q c.args.by c.args.a c.args.b c.in-Unequal.is (c.are_numbers.ensures yes)
