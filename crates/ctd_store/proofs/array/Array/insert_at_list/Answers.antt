use Rattle.std.proofs.Common.{[], ◌∷◌, ◌++◌, cond, Some, Ok, ap, sym, ◌∙◌}
use Rattle.std.specs.FinMap.{find}
use Rattle.ctd_store.specs.calls.Store.{by_indices}
use Rattle.ctd_store.specs.calls.ValueRef.{value_of_ref}
use Rattle.ctd_store.specs.calls.Places.{listed, place_entries}
use Rattle.ctd_store.specs.Order.{values_cmp}
use Rattle.ctd_store.specs.inner.OrderLaws.{exact_lists}
use Rattle.ctd_store.proofs.Reading.{differs}
use Rattle.ctd_store.proofs.Listed.{inserted, put_first, put_second}
use Rattle.ctd_store.proofs.array.Array.insert_at_list.Goals as goal

pub returns-then-branch-clause-ok : goal.returns-then-branch-clause-ok
returns-then-branch-clause-ok c =
    put_first c.args.indices.now (value_of_ref c.args.value) (place_entries c.insert.new.self) (place_entries c.self.inside.places) (listed c.self.inside.rest.entries) c.args.self.now c.self.view_is
    (c.in_ok-insert.ensures.done (ap Ok c.if-branch.true))

pub returns-clause-ok : goal.returns-clause-ok
returns-clause-ok c =
    let entries = c.self.inside.rest.entries in
    ap (λ a. by_indices (a ++ listed c.insert-2.new.self.entries)) (c.in_ok-insert.ensures.stays (ap Ok c.if-branch.false))
    ∙ put_second c.args.indices.now (value_of_ref c.args.value) (place_entries c.self.inside.places) (listed c.insert-2.new.self.entries) (listed entries) c.args.self.now c.self.view_is
    (c.in_ok-insert.ensures.elsewhere (ap Ok c.if-branch.false))
    (λ q.
    ap (λ es. find values_cmp q (listed es)) c.in_ok-insert-2.ensures.entries
    ∙ inserted entries c.in_ok-list.list c.in_ok-value.value q
    ∙ (λ i. find values_cmp q ((c.in_ok-list.ensures.same i, c.in_ok-value.ensures.same i) ∷ listed entries)))

pub invariant_of-self-2 : goal.invariant_of-self-2
invariant_of-self-2 c =
    let entries = c.self.inside.rest.entries in
    let list = c.in_ok-list.list.items in
    ap (λ es. find values_cmp [] (listed es)) c.in_ok-insert-2.ensures.entries
    ∙ inserted entries c.in_ok-list.list c.in_ok-value.value []
    ∙ ap (λ t. cond t (Some c.in_ok-value.value) (find values_cmp [] (listed entries))) (differs exact_lists [] list (λ e. c.in_ok-insert.ensures.indexed (ap Ok c.if-branch.false) (sym (e ∙ c.in_ok-list.ensures.same))))
    ∙ c.self.invariant
