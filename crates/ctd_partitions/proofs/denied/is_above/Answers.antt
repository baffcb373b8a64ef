use Rattle.ctd_partitions.proofs.Denying.{from_above}
use Rattle.ctd_partitions.proofs.denied.is_above.Goals as goal

pub returns-in-Some-next : goal.returns-in-Some-next
returns-in-Some-next c = λ yes. from_above c.args.state c.args.a c.args.b c.in-Some.below c.in-Some-next.least c.in-Some.ensures c.in-Some-next.ensures (c.is_from.ensures yes)
