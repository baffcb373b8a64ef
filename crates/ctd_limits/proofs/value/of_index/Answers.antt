use Rattle.ctd_limits.proofs.Valuing.{value_known, when_ok}
use Rattle.ctd_limits.proofs.value.of_index.Goals as goal

pub returns-in-Some : goal.returns-in-Some
returns-in-Some c = when_ok c.of_number_name.result (λ l knows. value_known c.args.state c.args.i c.in-Some.b l c.in-Some.ensures knows) c.of_number_name.ensures
