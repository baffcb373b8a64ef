use Rattle.std.proofs.Common.{◌-◌, length}
use Rattle.ctd_token.proofs.Cutting.{Cutting}
use Rattle.ctd_token.proofs.lex.tokens.Given as goal

abbrev pub invariant-loop-tokens : goal.invariant-loop-tokens
invariant-loop-tokens l = Cutting l.text l.tokens.items l.lexer

abbrev pub decreases-loop-tokens : goal.decreases-loop-tokens
decreases-loop-tokens l = length l.text - l.lexer.at
