use Rattle.std.proofs.Common.{◌≡◌, ◌+◌, ◌++◌, map, drop}
use Rattle.ctd_store.specs.calls.Showing.{entry}
use Rattle.ctd_store.specs.calls.Store.{numbered}
use Rattle.ctd_store.specs.calls.Places.{along}
use Rattle.ctd_store.specs.inner.Reading.{front_list}
use Rattle.ctd_store.proofs.line.Line.add_entries.Given as goal

abbrev pub invariant-loop-at : goal.invariant-loop-at
invariant-loop-at l =
    map entry l.entries.items ++ numbered (front_list l.front) (l.self.base + l.at) (drop l.at l.self.values.items)
    ≡ map entry l.fn.entries.items ++ along (front_list l.front) l.self
