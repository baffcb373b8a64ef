use Rattle.std.proofs.Common.{rules}
use Rattle.ctd_store.proofs.value_ref.ValueRef.order.Goals as goal

pub returns-in-Int-Int : goal.returns-in-Int-Int
returns-in-Int-Int c = search rules
