use Rattle.std.proofs.Common.{[], ap, sym, ◌∙◌}
use Rattle.std.specs.FinMap.{put}
use Rattle.std.specs.Option.{is_some}
use Rattle.ctd_store.specs.calls.Places.{listed, place_entries}
use Rattle.ctd_store.specs.Order.{values_cmp}
use Rattle.std.proofs.Math.Facts.{to_z-of_z}
use Rattle.ctd_store.proofs.Placed.{found_scalar}
use Rattle.ctd_store.specs.declared.value.Value.TheVariants as values
use Rattle.ctd_store.proofs.Listed.{put_first, scalar_found}
use Rattle.ctd_store.proofs.array.Array.put_number.Goals as goal

pub returns-clause-done : goal.returns-clause-done
returns-clause-done c done =
    let written = ap (λ n. put values_cmp [] (values.Int n) c.args.self.now) (to_z-of_z c.ranges.n) in
    put_first [] (values.Int _) (place_entries c.put_number.new.self) (place_entries c.self.inside.places) (listed c.self.inside.rest.entries) c.args.self.now c.self.view_is (c.put_number.ensures.done done) ∙ written

pub returns-clause-there : goal.returns-clause-there
returns-clause-there c done =
    let found = scalar_found c.self.inside.places (listed c.self.inside.rest.entries) c.args.self.now c.self.view_is c.self.invariant in
    ap is_some (found ∙ sym (found_scalar c.self.inside.places)) ∙ c.put_number.ensures.there done
