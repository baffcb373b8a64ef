use Rattle.ctd_element_changes.proofs.Common.{refl}
use Rattle.ctd_element_changes.proofs.Comparing.{no_more_by}
use Rattle.ctd_element_changes.proofs.compare.is_no_more.Goals as goal

pub returns : goal.returns
returns c = λ yes. no_more_by c.args.state c.args.p c.args.q c.args.a c.args.b (c.if-not-is_from.ensures refl) (c.is_up_to.ensures yes)
