use Rattle.std.proofs.Common.{arith}
use Rattle.std.proofs.lemmas.Grind.{common_steps}
use Rattle.ctd_token.proofs.Numerals.{digits_alone}
use Rattle.ctd_token.proofs.scan.numeral_at.Goals as goal

pub digits_value-requires : goal.digits_value-requires
digits_value-requires c k d lt = digits_alone c.digits_len-n.result c.args.bytes.now c.digits_len-n.ensures.value k d lt

pub returns-then-fraction_begins-clause-token : goal.returns-then-fraction_begins-clause-token
returns-then-fraction_begins-clause-token c = grind (arith, common_steps)

pub returns-in-Some-clause-token : goal.returns-in-Some-clause-token
returns-in-Some-clause-token c = grind (arith, common_steps)

pub returns-in-None-clause-token : goal.returns-in-None-clause-token
returns-in-None-clause-token c = grind (arith, common_steps)
