use Rattle.std.proofs.Common.{[], ◌∷◌, ◌++◌, ◌∙◌, ap, sym, arith}
use Rattle.std.specs.FinMap.{find}
use Rattle.ctd_store.specs.calls.Store.{numbered}
use Rattle.ctd_store.specs.calls.ValueRef.{value_of_ref}
use Rattle.ctd_store.specs.Order.{values_cmp}
use Rattle.ctd_store.proofs.Lines.{begun, none_along, same_last, written_along}
use Rattle.ctd_store.proofs.line.Line.insert.Goals as goal

pub returns-in_ok-write-in-Some-clause-done : goal.returns-in_ok-write-in-Some-clause-done
returns-in_ok-write-in-Some-clause-done c _ front q =
    let k = front ++ c.args.index.now ∷ [] in
    let items = c.args.self.now.values.items in
    ap (λ xs. find values_cmp q (numbered front c.base_for-self.result xs)) c.in_ok-write-in-Some.ensures.ok
    ∙ written_along k front c.base_for-self.result c.in-Some.at items (value_of_ref c.args.value) (ap (λ x. front ++ x ∷ []) c.in-Some.ensures.found.1) (omega (arith, c.in-Some.ensures.found.0, c.len-2.ensures)) q
    ∙ ap (λ es. find values_cmp q ((k, value_of_ref c.args.value) ∷ es)) (begun front c.args.self.now.base c.base_for-self.result items (λ filled. c.base_for-self.ensures.kept (omega (arith, filled, c.len.ensures))))

pub returns-in-None-clause-elsewhere : goal.returns-in-None-clause-elsewhere
returns-in-None-clause-elsewhere c _ front =
    let k = front ++ c.args.index.now ∷ [] in
    let items = c.args.self.now.values.items in
    ap (find values_cmp k) (sym (begun front c.args.self.now.base c.base_for-self.result items (λ filled. c.base_for-self.ensures.kept (omega (arith, filled, c.len.ensures)))))
    ∙ none_along k front c.base_for-self.result items (λ n below e. c.in-None.ensures.none n (omega (arith, below, c.len-2.ensures)) (same_last front _ _ e))
