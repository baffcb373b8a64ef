use Rattle.std.proofs.Common.{[]}
use Rattle.std.proofs.lemmas.Option.{IfSome_then}
use Rattle.std.specs.Option.{unwrap_or}
use Rattle.ctd_store.specs.calls.Index.{indices_at}
use Rattle.ctd_store.proofs.Apart.{assigned_value}
use Rattle.ctd_store.proofs.slot.Slot.fast_value.Goals as goal

pub returns : goal.returns
returns c = record {
  value = IfSome_then c.fast_value.result c.fast_value.ensures.value (λ x found. assigned_value (unwrap_or c.args.self.now.pins []) c.args.self.now.values (indices_at c.args.index) x.now c.args.self.now.apart found);
}
