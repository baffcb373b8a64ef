use Rattle.std.proofs.Common.{[]}
use Rattle.std.proofs.lemmas.Option.{IfSome_then}
use Rattle.std.specs.Option.{unwrap_or}
use Rattle.ctd_store.specs.declared.value.Value.TheVariants as values
use Rattle.ctd_store.proofs.Apart.{assigned_value}
use Rattle.ctd_store.proofs.slot.Slot.fast_number.Goals as goal

pub returns : goal.returns
returns c = record {
  value = IfSome_then c.fast_number.result c.fast_number.ensures.value (λ n found. assigned_value (unwrap_or c.args.self.now.pins []) c.args.self.now.values [] (values.Int n) c.args.self.now.apart found);
}
