use Rattle.ctd_partitions.proofs.Denying.{from_least, up_to_most}
use Rattle.ctd_partitions.proofs.denied.is_at_least.Goals as goal

pub returns-in-Some : goal.returns-in-Some
returns-in-Some c = λ yes. from_least c.args.state c.args.a c.args.b c.in-Some.least c.in-Some.ensures (c.is_from.ensures yes)

pub returns-in-Some-exact_number : goal.returns-in-Some-exact_number
returns-in-Some-exact_number c = λ yes. up_to_most c.args.state c.args.a c.args.b c.in-Some-exact_number.most c.in-Some-exact_number.ensures (c.is_up_to.ensures yes)
