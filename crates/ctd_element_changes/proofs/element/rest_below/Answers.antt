use Rattle.ctd_element_changes.proofs.Common.{refl}
use Rattle.ctd_element_changes.proofs.Giving.{leaves_below}
use Rattle.ctd_element_changes.proofs.element.rest_below.Goals as goal

pub returns : goal.returns
returns c = leaves_below c.args.state c.args.s c.args.at c.in_ok-next.field-0 c.in_ok-next.ensures (c.if-not-is_behind.ensures refl)
