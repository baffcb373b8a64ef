use Rattle.std.proofs.Common.{◌≡◌, ◌∙◌, sym}
use Rattle.ctd_program.specs.declared.tree.Expr.TheVariants.{Numeral}
use Rattle.ctd_program.specs.declared.tree.Test.TheVariants.{Compare}
use Rattle.ctd_value.proofs.condition.fast_test.Goals as goal

pub returns-in-Compare-clause-numerals : goal.returns-in-Compare-clause-numerals
returns-in-Compare-clause-numerals c by m n is =
    let same : Compare c.in-Compare.by c.in-Compare.a c.in-Compare.b ≡ Compare by (Numeral m) (Numeral n) = sym c.in-Compare.is ∙ is in
    let left : c.in-Compare.a ≡ Numeral m = cc in
    let right : c.in-Compare.b ≡ Numeral n = cc in
    c.fast_comparison.ensures.numerals m n left right
