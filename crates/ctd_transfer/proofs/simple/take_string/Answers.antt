use Rattle.ctd_transfer.proofs.Common.{expr_tree}
use Rattle.ctd_transfer.proofs.Acting.{string_acts}
use Rattle.ctd_transfer.proofs.simple.take_string.Goals as goal

pub returns : goal.returns
returns c =
    string_acts c.args.context c.args.state.now c.in_ok-same.same.after (expr_tree c.args.e.now) c.in_ok-text.text c.text_alone.result c.text_faults.result c.in_ok-text.ensures c.text_faults.ensures c.text_alone.ensures c.in_ok-same.ensures
