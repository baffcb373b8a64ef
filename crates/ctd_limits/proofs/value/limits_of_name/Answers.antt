use Rattle.ctd_limits.proofs.Valuing.{name_known, when_ok}
use Rattle.ctd_limits.proofs.value.limits_of_name.Goals as goal

pub returns-in-Some : goal.returns-in-Some
returns-in-Some c = when_ok c.of_index.result (λ l knows. name_known c.args.state c.in-Some.i c.args.name.now l c.in-Some.ensures.named knows) c.of_index.ensures
