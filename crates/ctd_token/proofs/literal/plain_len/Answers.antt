use Rattle.std.proofs.Common.{◌∙◌}
use Rattle.ctd_token.proofs.PlainBytes.{plain_before}
use Rattle.ctd_token.proofs.literal.plain_len.Goals as goal

pub returns-clause-value : goal.returns-clause-value
returns-clause-value c = c.unwrap_or.ensures ∙ plain_before c.args.bytes.now c.memchr2.result c.memchr2.ensures
