use Rattle.std.proofs.Common.{rules}
use Rattle.ctd_token.proofs.lex.token_with_span.Goals as goal

pub returns : goal.returns
returns c = search rules
