use Rattle.std.proofs.Common.{subst, sym}
use Rattle.ctd_limits.specs.inner.Named.{LowsOf}
use Rattle.ctd_limits.proofs.Naming.{own_low, two_lows}
use Rattle.ctd_limits.proofs.name.first_lows.Goals as goal

pub returns-in-Some : goal.returns-in-Some
returns-in-Some c = two_lows c.args.state c.args.b c.in-Some.c c.in_ok-own.own.items c.with_bound.result c.in_ok-own.ensures c.in-Some.ensures c.with_bound.ensures

pub returns-in-None : goal.returns-in-None
returns-in-None c = subst (λ l. LowsOf c.args.state c.args.b l) (sym c.in_ok-own.ensures) (own_low c.args.state c.args.b)
