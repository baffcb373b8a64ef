use Rattle.std.proofs.Common.{ap, ◌∙◌, slice_set}
use Rattle.std.proofs.lemmas.List.{set_split}
use Rattle.std.proofs.lemmas.Result.{on_ok_weaker}
use Rattle.ctd_store.specs.calls.ValueRef.{value_of_ref}
use Rattle.ctd_store.proofs.value_list.write_over.Goals as goal

pub returns-clause-ok : goal.returns-clause-ok
returns-clause-ok c = on_ok_weaker c.put_into.result (λ e. ap (slice_set c.args.values.now.items c.args.at) e ∙ set_split c.args.values.now.items c.args.at (value_of_ref c.args.value) c.requires) c.put_into.ensures.ok
