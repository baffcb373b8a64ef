use Rattle.ctd_limits.specs.calls.Known.{KnowsAt}
use Rattle.ctd_transfer.proofs.Common.{None, Some, if_ok_more}
use Rattle.ctd_transfer.proofs.Indexing.{one_known, two_known}
use Rattle.ctd_transfer.specs.inner.Indices.{KnowsElement}
use Rattle.ctd_transfer.proofs.indices.element_limits.Goals as goal

pub returns-in-One : goal.returns-in-One
returns-in-One c =
    if_ok_more (KnowsAt c.args.state c.args.name.now c.as_limits.result None) (KnowsElement c.args.state c.args.name.now c.args.indices.now) c.limits_of_element.result
    (λ l. one_known c.args.state c.args.name.now c.args.indices.now c.in-One.index c.as_limits.result l c.in-One.is c.as_limits.ensures) c.limits_of_element.ensures

pub returns-in-Two : goal.returns-in-Two
returns-in-Two c =
    if_ok_more (KnowsAt c.args.state c.args.name.now c.as_limits-in-Two.result (Some c.as_limits-in-Two-2.result)) (KnowsElement c.args.state c.args.name.now c.args.indices.now) c.limits_of_element-in-Two.result
    (λ l. two_known c.args.state c.args.name.now c.args.indices.now c.in-Two.index c.in-Two.other c.as_limits-in-Two.result c.as_limits-in-Two-2.result l c.in-Two.is c.as_limits-in-Two.ensures c.as_limits-in-Two-2.ensures) c.limits_of_element-in-Two.ensures
