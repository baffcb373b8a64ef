use Rattle.ctd_elements.proofs.Common.{refl}
use Rattle.ctd_elements.proofs.Differing.{unequal_by, unequal_by_exchanged}
use Rattle.ctd_elements.proofs.follow.are_unequal_by.Goals as goal

pub returns-then-are_moved : goal.returns-then-are_moved
returns-then-are_moved c = λ yes s. unequal_by s c.args.a c.args.b c.args.p c.args.q (c.if-are_moved.ensures refl)

pub returns : goal.returns
returns c = λ yes s. unequal_by_exchanged s c.args.a c.args.b c.args.p c.args.q (c.are_moved-2.ensures yes)
