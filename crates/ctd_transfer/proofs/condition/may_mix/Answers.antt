use Rattle.ctd_transfer.proofs.condition.may_mix.Goals as goal

pub returns : goal.returns
returns c = record {
  number = λ k x bytes l r. c.is_either.ensures.first (c.are_both-number_first.ensures (c.may_be_number.ensures k x l) (c.may_be_text.ensures k bytes r));
  text = λ k bytes x l r. c.is_either.ensures.second (c.are_both-text_first.ensures (c.may_be_text-2.ensures k bytes l) (c.may_be_number-2.ensures k x r));
}
