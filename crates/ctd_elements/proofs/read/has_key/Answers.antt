use Rattle.ctd_elements.proofs.Common.{[], ◌∷◌}
use Rattle.ctd_elements.proofs.read.has_key.Goals as goal

pub returns : goal.returns
returns c = λ yes n h v it limited. c.is_filled.ensures yes n h (v ∷ []) it limited
