use Rattle.ctd_partitions.proofs.Changing.{compared_tidied, when_ok}
use Rattle.ctd_partitions.proofs.question.with_comparison.Goals as goal

pub returns : goal.returns
returns c = when_ok c.with_changed.result (λ after is. compared_tidied c.args.context c.args.state.now after c.view_of-view.result c.args.by c.args.a c.args.b c.in_ok-changed.changed.items c.view_of-view.ensures c.in_ok-changed.ensures is) c.with_changed.ensures
