use Rattle.ctd_check.proofs.CheckedData.{taken_decides}
use Rattle.ctd_check.proofs.laws.taken_bytes_decide.Goals as goal

pub returns : goal.returns
returns g c = record { decide = taken_decides }
