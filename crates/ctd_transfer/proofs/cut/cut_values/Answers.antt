use Rattle.ctd_transfer.proofs.Comparing.{values_cut}
use Rattle.ctd_transfer.proofs.cut.cut_values.Goals as goal

pub returns : goal.returns
returns c = values_cut c.args.by c.args.a c.args.b (record { text = c.cut_texts.result; number = c.cut_numbers.result }) c.cut_texts.ensures c.cut_numbers.ensures
