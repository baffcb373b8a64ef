use Rattle.ctd_element_changes.proofs.Common.{Filling, refl}
use Rattle.ctd_element_changes.proofs.Earlier.{filled_was}
use Rattle.ctd_element_changes.proofs.before.filling_before.Goals as goal

pub returns : goal.returns
returns c =
    let old : Filling = record { array = c.args.f.array; block = c.in_ok-block.block; most = c.in_ok-most.most } in
    filled_was c.args.names.now c.args.name.now c.args.exact c.args.f old refl c.in_ok-block.ensures c.in_ok-most.ensures
