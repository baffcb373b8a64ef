use Rattle.ctd_transfer.proofs.Common.{expr_tree}
use Rattle.ctd_transfer.proofs.Deciding.{search_splits}
use Rattle.ctd_transfer.proofs.condition.split_search.Goals as goal

pub returns : goal.returns
returns c =
    search_splits c.args.context c.args.state.now c.in_ok-if_true.if_true c.expect_value.new.state c.in_ok-if_false.if_false c.expect_value-2.new.state (expr_tree c.args.e.now) c.args.name.now c.in_ok-wanted.wanted c.as_limits.result
    c.in_ok-wanted.ensures c.as_limits.ensures c.in_ok-if_true.ensures c.in_ok-if_false.ensures c.expect_value.ensures c.expect_value-2.ensures
