use Rattle.ctd_limits.proofs.Valuing.{named_element, when_ok}
use Rattle.ctd_limits.proofs.element.limits_of_element.Goals as goal

pub returns-in-Some : goal.returns-in-Some
returns-in-Some c = when_ok c.of_element.result (λ l knows. named_element c.args.state c.in-Some.i c.args.name.now c.args.first c.args.second l c.in-Some.ensures.named knows) c.of_element.ensures
