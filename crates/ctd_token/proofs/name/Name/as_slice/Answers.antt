use Rattle.std.proofs.Common.{rules}
use Rattle.ctd_token.proofs.name.Name.as_slice.Goals as goal

pub returns-in-Short : goal.returns-in-Short
returns-in-Short c = search rules
