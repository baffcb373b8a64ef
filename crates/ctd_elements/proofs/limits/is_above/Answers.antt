use Rattle.ctd_elements.proofs.Limiting.{above_by}
use Rattle.ctd_elements.proofs.limits.is_above.Goals as goal

pub returns-in-Some : goal.returns-in-Some
returns-in-Some c = λ yes. above_by c.args.state c.args.b c.args.high c.in-Some.above c.in-Some.ensures (c.is_behind.ensures yes)
