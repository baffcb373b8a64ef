use Rattle.ctd_transfer.proofs.Common.{None, false, refl}
use Rattle.ctd_transfer.proofs.Divisors.{others_stay}
use Rattle.ctd_transfer.proofs.division.without_zero.Goals as goal

pub returns : goal.returns
returns c =
    let f = c.args.faults in
    let b = f.blame in
    others_stay f (record {
      no_value = f.no_value;
      no_element = f.no_element;
      wrong_type = f.wrong_type;
      overflow = f.overflow;
      division_by_zero = false;
      exponent = f.exponent;
      count = f.count;
      shape = f.shape;
      blame = record { no_value = b.no_value; no_element = b.no_element; wrong_type = b.wrong_type; overflow = b.overflow; division_by_zero = None; exponent = b.exponent; count = b.count };
    }) refl
