use Rattle.ctd_element_changes.proofs.Common.{refl}
use Rattle.ctd_element_changes.proofs.KeyTests.{one_shape}
use Rattle.ctd_element_changes.proofs.keys.have_one_shape.Goals as goal

pub returns : goal.returns
returns c = λ yes. one_shape c.args.state c.args.array c.args.other (c.if-not-are_keys_within.ensures refl) (c.are_keys_within-2.ensures yes)
