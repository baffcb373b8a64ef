use Rattle.ctd_elements.proofs.Common.{Some, subst, ◌≡◌}
use Rattle.ctd_elements.proofs.Following.{second_halves}
use Rattle.ctd_elements.proofs.follow.halves_of_second.Goals as goal

pub returns-in-Between : goal.returns-in-Between
returns-in-Between c =
    let is = subst (λ q. c.args.f.block.second ≡ Some q) c.in-Between.is c.in-Some.is in
    second_halves c.args.f c.with_second.result c.with_second-in-Between.result c.in-Between.s c.args.at c.cut_at-begin.result is c.cut_at-begin.ensures c.with_second.ensures c.with_second-in-Between.ensures
