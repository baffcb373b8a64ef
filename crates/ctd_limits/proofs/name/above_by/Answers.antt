use Rattle.std.proofs.Common.{refl}
use Rattle.ctd_limits.proofs.Naming.{above_fact}
use Rattle.ctd_limits.proofs.name.above_by.Goals as goal

pub returns-then-is_sure : goal.returns-then-is_sure
returns-then-is_sure c = above_fact c.args.state c.args.fact c.args.b c.in-AtMost.low c.in-AtMost.high c.in_ok-c-in-AtMost.c c.in-AtMost.is c.in_ok-c-in-AtMost.ensures (c.if-is_sure.ensures refl)
