use Rattle.std.proofs.Common.{rules}
use Rattle.ctd_token.proofs.text.Bytes.as_slice.Goals as goal

pub returns : goal.returns
returns c = search rules
