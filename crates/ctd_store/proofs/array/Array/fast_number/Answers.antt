use Rattle.std.proofs.Common.{◌∙◌}
use Rattle.std.proofs.lemmas.Option.{IfSome_then}
use Rattle.ctd_store.specs.calls.Places.{listed}
use Rattle.ctd_store.proofs.Listed.{scalar_found}
use Rattle.ctd_store.proofs.array.Array.fast_number.Goals as goal

pub returns : goal.returns
returns c = record {
  value = IfSome_then c.fast_number.result c.fast_number.ensures (λ n found. scalar_found c.self.inside.places (listed c.self.inside.rest.entries) c.args.self.now c.self.view_is c.self.invariant ∙ found);
}
