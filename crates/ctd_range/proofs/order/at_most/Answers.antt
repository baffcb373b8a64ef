use Rattle.ctd_range.proofs.Common.{FitsSigned, arith, ints, rules, to_z-of_z, w128}
use Rattle.ctd_range.proofs.order.at_most.Goals as goal

pub returns-then-b-a : goal.returns-then-b-a
returns-then-b-a c =
    let fits_low : FitsSigned w128 c.args.a.low = search rules in
    let fits_high : FitsSigned w128 c.args.b.high = search rules in
    rw (to_z-of_z w128 c.args.a.low fits_low, to_z-of_z w128 c.args.b.high fits_high) (record {
      refines = λ n x y less inside other. let h = other.high in record { low = inside.low; high = omega (arith, ints, less, h) };
    })
