use Rattle.ctd_elements.proofs.Common.{refl}
use Rattle.ctd_elements.proofs.Following.{filled_by}
use Rattle.ctd_elements.proofs.follow.is_filled_by.Goals as goal

pub returns : goal.returns
returns c = λ yes. filled_by c.args.state c.args.f c.args.other c.if-f-other.false (c.if-not-is_inside.ensures refl) (c.is_tighter.ensures yes)
