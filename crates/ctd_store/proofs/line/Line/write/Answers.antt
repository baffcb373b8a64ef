use Rattle.std.proofs.Common.{◌++◌, ◌∙◌, ap, arith}
use Rattle.std.specs.FinMap.{find}
use Rattle.ctd_store.specs.calls.Store.{slot, numbered}
use Rattle.ctd_store.specs.calls.ValueRef.{value_of_ref}
use Rattle.ctd_store.specs.Order.{values_cmp}
use Rattle.ctd_store.proofs.Lines.{written_along}
use Rattle.ctd_store.proofs.line.Line.write.Goals as goal

pub returns-in_ok-write-in-Some-clause-done : goal.returns-in_ok-write-in-Some-clause-done
returns-in_ok-write-in-Some-clause-done c _ front q =
    ap (λ xs. find values_cmp q (numbered front c.args.self.now.base xs)) c.in_ok-write-in-Some.ensures.ok
    ∙ written_along (front ++ slot c.args.number) front c.args.self.now.base c.in-Some.at c.args.self.now.values.items (value_of_ref c.args.value) (ap (λ n. front ++ slot n) c.in-Some.ensures.found.1) (omega (arith, c.in-Some.ensures.found.0, c.len.ensures)) q
