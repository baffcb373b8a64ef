use Rattle.ctd_program.specs.Tree
use Rattle.ctd_traps.proofs.Common.{Turns, expr_tree, if_ok_more}
use Rattle.ctd_traps.proofs.Turning.{starts_times}
use Rattle.ctd_traps.specs.inner.Turns.{Counts, Starts}
use Rattle.ctd_traps.proofs.start.start.Goals as goal

pub returns-in-Times : goal.returns-in-Times
returns-in-Times c =
    let g = c.args.context in
    let st = c.args.state.now in
    let e = expr_tree c.in-Times.e.value in
    rw c.in-Times.is (if_ok_more (λ (t : Turns). Counts g st e t) (λ (t : Turns). Starts g st (Tree.turns e) t) c.count_turns.result (λ t so. starts_times g st e t so) (rw c.deref.ensures at c.count_turns.ensures))
