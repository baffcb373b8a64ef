use Rattle.std.proofs.Common.{ap, refl, subst, sym, ◌++◌, ◌∙◌}
use Rattle.ctd_element_changes.specs.calls.Joins.{IsPartOf}
use Rattle.ctd_partitions.proofs.Changing.{part_behind}
use Rattle.ctd_partitions.proofs.change.tidied.Goals as goal

pub returns : goal.returns
returns c =
    let staying = c.args.facts.staying.items in
    let changed = c.args.facts.changed.items in
    let few = c.in_ok-few.few.items in
    let part : IsPartOf few changed = subst (λ l. IsPartOf few l) c.as_slice-3.ensures.value c.in_ok-few.ensures in
    (refl, subst (λ l. IsPartOf l (staying ++ changed)) (sym (c.in_ok-facts.ensures ∙ ap (λ l. staying ++ l) c.as_slice-4.ensures.value)) (part_behind staying few changed part))
