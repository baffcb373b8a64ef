use Rattle.ctd_element_changes.proofs.Common.{refl}
use Rattle.ctd_element_changes.proofs.KeyTests.{within_by}
use Rattle.ctd_element_changes.proofs.keys.are_keys_within.Goals as goal

pub returns : goal.returns
returns c = λ yes. within_by c.args.state c.args.array c.args.other c.all_keys.result (c.if-not-lacks_alone.ensures refl) c.all_keys.ensures (c.follows.ensures yes)
