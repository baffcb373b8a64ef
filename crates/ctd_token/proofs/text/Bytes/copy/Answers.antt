use Rattle.std.proofs.Common.{rules}
use Rattle.ctd_token.proofs.text.Bytes.copy.Goals as goal

pub returns : goal.returns
returns c = search rules
