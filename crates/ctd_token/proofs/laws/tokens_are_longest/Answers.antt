use Rattle.ctd_token.proofs.Longest.{token_is_longest}
use Rattle.ctd_token.proofs.laws.tokens_are_longest.Goals as goal

pub returns : goal.returns
returns c bytes kind n found = token_is_longest bytes kind n found
