use Rattle.ctd_range.proofs.Common.{FitsSigned, ap, pos, rules, subst, sym, to_z, to_z-of_z, w128, ◌∙◌, ◌≡◌, ◌≤ℤ◌}
use Rattle.ctd_range.proofs.Quotients.{above_zero, from_low_end, quotients_no_further}
use Rattle.ctd_range.proofs.arithmetic.all_quotients.Goals as goal

pub returns-then-b-gt0 : goal.returns-then-b-gt0
returns-then-b-gt0 c =
    let fits : FitsSigned w128 c.args.b.low = search rules in
    let found = rw (to_z-of_z w128 c.args.b.low fits) at c.quotients.ensures in
    λ n x y inside divisor divides. found n x y inside (from_low_end c.args.b n y divisor)

pub returns-then-b-eq0 : goal.returns-then-b-eq0
returns-then-b-eq0 c =
    let fits : FitsSigned w128 c.args.b.low = search rules in
    let zero : c.args.b.low ≡ pos 0 = sym (to_z-of_z w128 c.args.b.low fits) ∙ ap (to_z w128) c.if-b-eq0.true in
    λ n x y inside divisor divides. c.quotients-then-b-eq0.ensures n x y inside (above_zero y (subst (λ l. l ≤ℤ y) zero (from_low_end c.args.b n y divisor)) divides)

pub returns-else-b-eq0 : goal.returns-else-b-eq0
returns-else-b-eq0 c = quotients_no_further c.args.a c.args.b c.no_further.result c.no_further.ensures
