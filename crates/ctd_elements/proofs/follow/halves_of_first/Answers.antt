use Rattle.ctd_elements.proofs.Following.{first_halves}
use Rattle.ctd_elements.proofs.follow.halves_of_first.Goals as goal

pub returns-in-Between : goal.returns-in-Between
returns-in-Between c = first_halves c.args.f c.with_first.result c.with_first-in-Between.result c.in-Between.s c.args.at c.cut_at-begin.result c.in-Between.is c.cut_at-begin.ensures c.with_first.ensures c.with_first-in-Between.ensures
