use Rattle.ctd_range.proofs.Common.{Covers, in_range, pos, subst}
use Rattle.ctd_range.proofs.Ends.{zero_is_in, zero_less}
use Rattle.ctd_range.proofs.arithmetic.negation.Goals as goal

pub returns : goal.returns
returns c = record { covers = λ n x inside. subst (λ z. Covers c.difference.result n (in_range z)) (zero_less x) (c.difference.ensures.covers n (pos 0) x (zero_is_in n) inside) }
