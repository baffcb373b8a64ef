use Rattle.std.proofs.Common.{Ok, ap}
use Rattle.ctd_store.specs.calls.Index.{indices_at}
use Rattle.ctd_store.specs.calls.ValueRef.{value_of_ref}
use Rattle.ctd_store.specs.calls.Places.{listed, place_entries}
use Rattle.ctd_store.proofs.Listed.{put_first}
use Rattle.ctd_store.proofs.array.Array.insert.Goals as goal

pub returns-then-branch-clause-ok : goal.returns-then-branch-clause-ok
returns-then-branch-clause-ok c =
    put_first (indices_at c.args.index) (value_of_ref c.args.value) (place_entries c.write.new.self) (place_entries c.self.inside.places) (listed c.self.inside.rest.entries) c.args.self.now c.self.view_is (c.in_ok-write.ensures.done (ap Ok c.if-branch.true))
