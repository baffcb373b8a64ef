use Rattle.ctd_traps.proofs.Common.{FitsSigned, pos, rules, to_z-of_z, w128}
use Rattle.ctd_traps.proofs.Turning.{before_count, in_counts}
use Rattle.ctd_traps.proofs.turn.below.Goals as goal

pub returns : goal.returns
returns c =
    let fits : FitsSigned w128 c.from.result = search rules in
    let refines = rw (to_z-of_z w128 c.from.result fits, c.from.ensures) at c.less.ensures.refines in
    λ n k m less most here. refines n (pos k) (pos m) (before_count k m less) here (in_counts c.args.most m n most)
