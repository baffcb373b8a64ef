use Rattle.ctd_transfer.proofs.Common.{IfSome, Tells, named_values, not, subst, ◌≡◌}
use Rattle.ctd_states.specs.calls.States.{name_at}
use Rattle.ctd_transfer.proofs.Indexing.{element_evaluates, is_true}
use Rattle.ctd_transfer.specs.inner.Indices.{KnowsElement}
use Rattle.ctd_transfer.proofs.expression.element_result.Goals as goal

pub returns : goal.returns
returns c =
    element_evaluates c.args.context c.args.state.now c.view_of-view.result c.args.name.now c.args.indices.now c.in_ok-value.value c.index_of-index.result (not c.is_sure_at-is_sure.result) c.of_element.result (record { found = c.with_faults.result; limits = c.in_ok-limits.limits })
    c.view_of-view.ensures
    (record {
      tells = subst (λ q. Tells (named_values c.args.context.names.now c.view_of-view.result.entries.now) q c.in_ok-value.value) c.as_slice-word.ensures.whole c.in_ok-value.ensures;
      named = subst (λ q. IfSome c.index_of-index.result (λ i. name_at c.args.context.names.now i ≡ q)) c.as_slice-word.ensures.whole c.index_of-index.ensures.named;
      sure = λ no. c.is_sure_at-is_sure.ensures (is_true c.is_sure_at-is_sure.result no);
      knows = subst (λ q. KnowsElement c.view_of-view.result q c.args.indices.now c.in_ok-limits.limits) c.as_slice-word.ensures.whole c.in_ok-limits.ensures;
      may = c.of_element.ensures.value;
      values = c.with_faults.ensures.values;
      own = c.with_faults.ensures.own;
      others = λ f is. c.with_faults.ensures.others f (c.faults_of.ensures f is);
    })
