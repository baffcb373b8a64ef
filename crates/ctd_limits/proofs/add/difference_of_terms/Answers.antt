use Rattle.ctd_limits.proofs.Adding.{no_terms_less}
use Rattle.ctd_limits.proofs.add.difference_of_terms.Goals as goal

pub returns-in-None : goal.returns-in-None
returns-in-None c = no_terms_less c.args.a c.args.b c.in-None.is
