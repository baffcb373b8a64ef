use Rattle.ctd_element_changes.proofs.Common.{refl}
use Rattle.ctd_element_changes.proofs.Sparing.{filling_stays}
use Rattle.ctd_element_changes.proofs.beside.filling_is_free.Goals as goal

pub returns : goal.returns
returns c = λ yes. filling_stays c.args.names.now c.args.name.now c.args.f (c.if-is_name.ensures.other refl) (c.if-not-block_is_free.ensures refl) (c.most_is_free.ensures yes)
