use Rattle.ctd_element_changes.proofs.Common.{Block}
use Rattle.ctd_element_changes.proofs.Earlier.{block_was}
use Rattle.ctd_element_changes.proofs.before.block_before.Goals as goal

pub returns : goal.returns
returns c =
    let old : Block = record { first = c.in_ok-first.first; second = c.in_ok-second.second } in
    block_was c.args.names.now c.args.name.now c.args.exact c.args.b old c.in_ok-first.ensures c.in_ok-second.ensures
