use Rattle.ctd_traps.proofs.Common.{AreCounted, Counting, guard_tree, out-Loop, pos}
use Rattle.ctd_store.specs.declared.value.Value.TheVariants as values
use Rattle.ctd_traps.proofs.Turning.{starts_kept}
use Rattle.ctd_traps.proofs.turn.begin.Goals as goal

pub returns : goal.returns
returns c =
    let g = c.args.context in
    let l = c.args.repeated.now in
    let started = c.in_ok-started.started in
    let count = c.in_ok-count.count in
    let counting : Counting = record { turns = record { faults = started.faults; least = started.least; most = started.most; count = count }; is_name = c.in_ok-is_name.is_name; is_kept = c.keeps_number.result } in
    let counted : AreCounted g l counting = record { lasts = λ h after m same known. c.in_ok-count.ensures.lasts h after (values.Int (pos m)) same known; is_name = c.in_ok-is_name.ensures; is_kept = c.keeps_number.ensures } in
    record { starts = starts_kept g c.args.states.now (guard_tree (out-Loop l).guard) started count c.in_ok-count.ensures.said c.in_ok-started.ensures; counted = counted; enters = c.in_ok-first.ensures counted }
