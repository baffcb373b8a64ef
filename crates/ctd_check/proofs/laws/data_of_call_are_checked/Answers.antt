use Rattle.ctd_check.proofs.CheckedData.{call_is_found, known_are_found}
use Rattle.ctd_check.proofs.laws.data_of_call_are_checked.Goals as goal

pub returns : goal.returns
returns g c = record { call = call_is_found; bytes = known_are_found }
