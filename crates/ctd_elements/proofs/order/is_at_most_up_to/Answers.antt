use Rattle.ctd_elements.proofs.Common.{refl}
use Rattle.ctd_elements.proofs.Bounds.{orders_up_to}
use Rattle.ctd_elements.proofs.order.is_at_most_up_to.Goals as goal

pub returns-then-is_sure : goal.returns-then-is_sure
returns-then-is_sure c = λ yes. orders_up_to c.args.state c.args.a c.args.b c.args.low c.args.high c.in-Some.c c.in-Some.ensures (c.if-is_sure.ensures refl) (c.is_plainly_at_most.ensures yes)
