use Rattle.ctd_traps.proofs.Common.{rules}
use Rattle.ctd_traps.proofs.Knowing.{may_lack_so, surely_so}
use Rattle.ctd_traps.proofs.known.known_alone.Goals as goal

pub returns-then-value : goal.returns-then-value
returns-then-value c = λ names n h stands. may_lack_so names c.args.i c.args.value n h stands

pub returns-else-value : goal.returns-else-value
returns-else-value c = λ names n h stands. surely_so names c.args.i c.args.value n h (search rules) stands
