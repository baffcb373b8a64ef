use Rattle.ctd_value.proofs.Powers.{power_is_product}
use Rattle.ctd_value.proofs.laws.powers_are_products.Goals as goal

pub returns : goal.returns
returns c = record { product = power_is_product }
