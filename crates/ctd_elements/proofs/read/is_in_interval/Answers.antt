use Rattle.ctd_elements.proofs.Common.{refl}
use Rattle.ctd_elements.proofs.ElementsRead.{interval_limits}
use Rattle.ctd_elements.proofs.read.is_in_interval.Goals as goal

pub returns : goal.returns
returns c = λ yes. interval_limits c.args.state c.args.limits c.args.s (c.if-not-is_surely_from.ensures refl) (c.is_surely_below.ensures yes)
