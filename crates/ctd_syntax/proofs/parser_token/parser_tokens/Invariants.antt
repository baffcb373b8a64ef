use Rattle.std.proofs.Common.{◌-◌, length}
use Rattle.std.specs.Prelude.{map}
use Rattle.ctd_syntax.specs.inner.Front.{lexeme}
use Rattle.ctd_syntax.proofs.TokensRead.{HasRead}
use Rattle.ctd_syntax.proofs.parser_token.parser_tokens.Given as goal

abbrev pub invariant-loop-seen : goal.invariant-loop-seen
invariant-loop-seen l = HasRead l.text (map lexeme l.seen.items) l.tokens

abbrev pub decreases-loop-seen : goal.decreases-loop-seen
decreases-loop-seen l = length l.text - l.tokens.at
