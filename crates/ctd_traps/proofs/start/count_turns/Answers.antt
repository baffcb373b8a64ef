use Rattle.ctd_traps.proofs.Common.{Turns, expr_tree, refl, val}
use Rattle.ctd_transfer.proofs.Evaluating.{possible_of}
use Rattle.ctd_traps.proofs.Turning.{turns_counted}
use Rattle.ctd_traps.proofs.start.count_turns.Goals as goal

pub returns : goal.returns
returns c = λ n h stands.
    let g = c.args.context in
    let count = c.in_ok-count.count in
    let r = val (expr_tree c.args.e.now) h in
    let is = c.in_ok-count.ensures n h stands in
    let turns : Turns = record { faults = c.count_faults.result; least = c.least_of.result; most = c.most_of.result; count = count.limits } in
    turns_counted g turns count n h r is refl (c.least_of.ensures n) (c.most_of.ensures n) (c.count_faults.ensures n r (possible_of g count n h r is))
