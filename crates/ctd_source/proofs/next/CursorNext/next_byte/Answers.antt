use Rattle.std.proofs.Common.{rules}
use Rattle.ctd_source.specs.inner.ReadingOn.{GivesByte-Peeks}
use Rattle.ctd_source.proofs.next.CursorNext.next_byte.Goals as goal

pub returns-clause-answer : goal.returns-clause-answer
returns-clause-answer g c = search rules

pub returns-clause-known_answer : goal.returns-clause-known_answer
returns-clause-known_answer g c = search rules

pub returns-clause-again : goal.returns-clause-again
returns-clause-again g c = search rules

pub returns-clause-sound : goal.returns-clause-sound
returns-clause-sound g c = search rules

pub returns-clause-failed : goal.returns-clause-failed
returns-clause-failed g c = search rules

pub returns-clause-reads : goal.returns-clause-reads
returns-clause-reads g c = GivesByte-Peeks _ _ _ c.look.ensures
