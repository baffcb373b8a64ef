use Rattle.std.proofs.Common.{rules}
use Rattle.ctd_token.proofs.text.Bytes.overwrite.Goals as goal

pub returns-clause-done : goal.returns-clause-done
returns-clause-done g c = search rules
