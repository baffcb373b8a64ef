use Rattle.std.proofs.Common.{◌+◌, ◌∙◌, arith}
use Rattle.std.proofs.lemmas.Result.{on_err_weaker}
use Rattle.ctd_store.specs.calls.Store.{slot}
use Rattle.ctd_store.specs.calls.ValueRef.{value_of_ref}
use Rattle.ctd_store.proofs.Cells.{found_in_grid, kept_in_grid, no_row, written_in_grid}
use Rattle.ctd_store.proofs.grid.Grid.insert.Goals as goal

pub returns-in-Some-clause-done : goal.returns-in-Some-clause-done
returns-in-Some-clause-done c done =
    written_in_grid c.args.row.now c.args.column.now (value_of_ref c.args.value) c.args.self.now.base c.in-Some.at c.args.self.now.rows.items c.index_mut.result.now c.insert.new.self c.in-Some.ensures.found.1 (omega (arith, c.in-Some.ensures.found.0, c.len.ensures)) c.index_mut.ensures.value
    (c.insert.ensures.done done)

pub returns-in-Some-clause-stays : goal.returns-in-Some-clause-stays
returns-in-Some-clause-stays c stays = kept_in_grid c.args.self.now.base c.in-Some.at c.args.self.now.rows.items c.index_mut.result.now c.insert.new.self c.index_mut.ensures.value (c.insert.ensures.stays stays)

pub returns-in-Some-clause-elsewhere : goal.returns-in-Some-clause-elsewhere
returns-in-Some-clause-elsewhere c stays =
    found_in_grid c.args.row.now c.args.column.now c.args.self.now.base c.in-Some.at c.args.self.now.rows.items c.index_mut.result.now c.in-Some.ensures.found.1 (omega (arith, c.in-Some.ensures.found.0, c.len.ensures)) c.index_mut.ensures.value
    ∙ c.insert.ensures.elsewhere stays (slot (c.args.self.now.base + c.in-Some.at))

pub returns-in-Some-clause-err : goal.returns-in-Some-clause-err
returns-in-Some-clause-err c = on_err_weaker c.insert.result (λ e. kept_in_grid c.args.self.now.base c.in-Some.at c.args.self.now.rows.items c.index_mut.result.now c.insert.new.self c.index_mut.ensures.value e) c.insert.ensures.err

pub returns-in-None-clause-elsewhere : goal.returns-in-None-clause-elsewhere
returns-in-None-clause-elsewhere c _ = no_row c.args.row.now c.args.column.now c.args.self.now.base c.args.self.now.rows.items (λ n below. c.in-None.ensures.none n (omega (arith, below, c.len.ensures)))
