use Rattle.std.proofs.Common.{rules}
use Rattle.ctd_token.proofs.scan.mark_at.Goals as goal

pub returns-clause-token : goal.returns-clause-token
returns-clause-token c = search rules
