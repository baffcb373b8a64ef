use Rattle.std.proofs.Common.{◌∙◌}
use Rattle.ctd_store.proofs.Listed.{looked_up}
use Rattle.ctd_store.proofs.array.value_in_rest.Goals as goal

pub returns : goal.returns
returns c = record { value = c.get.ensures.value ∙ looked_up c.args.indices.now c.args.rest.now.entries }
