use Rattle.ctd_elements.proofs.Differing.{lower_by}
use Rattle.ctd_elements.proofs.follow.is_lower.Goals as goal

pub returns-in-Some : goal.returns-in-Some
returns-in-Some c = λ yes. lower_by c.args.state c.args.a c.args.b c.in-Some.above c.in-Some.ensures (c.is_at_most.ensures yes)
