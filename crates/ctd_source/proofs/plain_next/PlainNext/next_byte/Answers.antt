use Rattle.std.proofs.Common.{rules}
use Rattle.ctd_source.proofs.plain_next.PlainNext.next_byte.Goals as goal

pub returns-clause-answer : goal.returns-clause-answer
returns-clause-answer g c = search rules

pub returns-clause-known_answer : goal.returns-clause-known_answer
returns-clause-known_answer c = search rules

pub returns-clause-again : goal.returns-clause-again
returns-clause-again c = search rules
