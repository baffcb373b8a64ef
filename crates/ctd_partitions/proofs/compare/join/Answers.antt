use Rattle.std.proofs.Common.{◌++◌}
use Rattle.ctd_partitions.proofs.Changing.{joined_tidied, when_ok}
use Rattle.ctd_partitions.proofs.compare.join.Goals as goal

pub returns-clause-left : goal.returns-clause-left
returns-clause-left c =
    let facts = c.in_ok-facts.facts in
    when_ok c.tidied.result (λ all is. joined_tidied c.args.context c.args.a.now all c.as_slice.result.now c.in_ok-entries.entries.items (facts.staying.items ++ facts.changed.items) c.as_slice.ensures.value c.in_ok-entries.ensures.left c.in_ok-facts.ensures.left is) c.tidied.ensures

pub returns-clause-right : goal.returns-clause-right
returns-clause-right c =
    let facts = c.in_ok-facts.facts in
    when_ok c.tidied.result (λ all is. joined_tidied c.args.context c.args.b.now all c.as_slice-2.result.now c.in_ok-entries.entries.items (facts.staying.items ++ facts.changed.items) c.as_slice-2.ensures.value c.in_ok-entries.ensures.right c.in_ok-facts.ensures.right is) c.tidied.ensures
