use Rattle.ctd_element_changes.proofs.Common.{refl}
use Rattle.ctd_element_changes.proofs.Giving.{leaves_above}
use Rattle.ctd_element_changes.proofs.element.rest_above.Goals as goal

pub returns : goal.returns
returns c = leaves_above c.args.state c.args.s c.args.at c.in_ok-above.above c.in_ok-above.ensures (c.if-not-is_before.ensures refl)
