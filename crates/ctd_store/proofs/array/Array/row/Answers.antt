use Rattle.std.proofs.Common.{[]}
use Rattle.ctd_store.specs.calls.Store.{numbered}
use Rattle.ctd_store.specs.calls.Places.{place_entries}
use Rattle.ctd_store.proofs.Lines.{row_in_order}
use Rattle.ctd_store.proofs.Listed.{alone}
use Rattle.ctd_store.proofs.array.Array.row.Goals as goal

pub returns-then-is_empty : goal.returns-then-is_empty
returns-then-is_empty c =
    let row = c.in_ok-row.row in
    record {
      value = alone (place_entries c.self.inside.places) (numbered [] row.base row.values.now) c.args.self.now c.self.inside.rest.entries c.self.view_is (c.is_empty.ensures.0 c.if-is_empty.true) c.in_ok-row.ensures.value (row_in_order row.base row.values.now);
    }
