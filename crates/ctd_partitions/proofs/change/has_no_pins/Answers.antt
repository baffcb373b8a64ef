use Rattle.ctd_partitions.proofs.Changing.{unpinned_element}
use Rattle.ctd_partitions.proofs.change.has_no_pins.Goals as goal

pub returns : goal.returns
returns c = λ yes i is. unpinned_element c.args.context c.args.name.now c.in_ok-pin.pin i is c.in_ok-pin.ensures (c.is_none.ensures yes)
