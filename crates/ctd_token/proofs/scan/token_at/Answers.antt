use Rattle.std.proofs.Common.{rules, arith}
use Rattle.std.proofs.lemmas.Grind.{common_steps}
use Rattle.ctd_token.proofs.scan.token_at.Goals as goal

pub returns-then-is_ascii_lowercase-clause-token : goal.returns-then-is_ascii_lowercase-clause-token
returns-then-is_ascii_lowercase-clause-token c = search rules

pub returns-in_ok-word_at-clause-within : goal.returns-in_ok-word_at-clause-within
returns-in_ok-word_at-clause-within c = grind (arith, common_steps)

pub returns-then-is_ascii_lowercase-clause-within : goal.returns-then-is_ascii_lowercase-clause-within
returns-then-is_ascii_lowercase-clause-within c = grind (arith, common_steps)

pub returns-in_ok-numeral_at-clause-within : goal.returns-in_ok-numeral_at-clause-within
returns-in_ok-numeral_at-clause-within c = grind (arith, common_steps)
