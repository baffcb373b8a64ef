use Rattle.ctd_transfer.proofs.Evaluating.{refines}
use Rattle.ctd_transfer.proofs.expression.refined.Goals as goal

pub returns-in_ok-limits-in-Some : goal.returns-in_ok-limits-in-Some
returns-in_ok-limits-in-Some c =
    refines c.args.found c.with_numbers.result c.args.limits c.in_ok-limits-in-Some.limits c.in-Some.range c.narrowed-narrow.result c.in-Some.ensures c.narrowed-narrow.ensures c.in_ok-limits-in-Some.ensures c.with_numbers.ensures.values c.with_numbers.ensures.faults
