use Rattle.ctd_element_changes.proofs.Common.{refl}
use Rattle.ctd_element_changes.proofs.KeysKept.{missing_by}
use Rattle.ctd_element_changes.proofs.element.are_keys_complete.Goals as goal

pub returns-in-Some : goal.returns-in-Some
returns-in-Some c = λ yes. (c.if-not-is_same_name.ensures.same refl, missing_by c.args.state c.args.k c.excepting.result c.args.target.cell c.in-Some.cell c.in-Some.is c.excepting.ensures (c.follows.ensures yes))
