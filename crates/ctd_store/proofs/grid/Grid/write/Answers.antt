use Rattle.std.proofs.Common.{ap, arith}
use Rattle.std.proofs.lemmas.Result.{on_err_weaker}
use Rattle.ctd_store.specs.calls.ValueRef.{value_of_ref}
use Rattle.ctd_store.proofs.Cells.{at_number, kept_in_grid, written_in_grid}
use Rattle.ctd_store.proofs.grid.Grid.write.Goals as goal

pub returns-in-Some-clause-done : goal.returns-in-Some-clause-done
returns-in-Some-clause-done c done =
    written_in_grid (at_number c.args.row) (at_number c.args.column) (value_of_ref c.args.value) c.args.self.now.base c.in-Some.at c.args.self.now.rows.items c.index_mut.result.now c.write.new.self (ap at_number c.in-Some.ensures.found.1) (omega (arith, c.in-Some.ensures.found.0, c.len.ensures)) c.index_mut.ensures.value
    (c.write.ensures.done done)

pub returns-in-Some-clause-stays : goal.returns-in-Some-clause-stays
returns-in-Some-clause-stays c stays = kept_in_grid c.args.self.now.base c.in-Some.at c.args.self.now.rows.items c.index_mut.result.now c.write.new.self c.index_mut.ensures.value (c.write.ensures.stays stays)

pub returns-in-Some-clause-err : goal.returns-in-Some-clause-err
returns-in-Some-clause-err c = on_err_weaker c.write.result (λ e. kept_in_grid c.args.self.now.base c.in-Some.at c.args.self.now.rows.items c.index_mut.result.now c.write.new.self c.index_mut.ensures.value e) c.write.ensures.err
