use Rattle.std.proofs.Common.{IfSome, rules, subst, sym}
use Rattle.std.specs.Int.RustNames.{FitsSigned}
use Rattle.std.specs.Int.{w64}
use Rattle.std.proofs.lemmas.Int.{to_z-of_z}
use Rattle.ctd_limits.specs.inner.Numbers.{IsToNumber}
use Rattle.ctd_limits.proofs.NumberBounds.{to_number, one_of_both}
use Rattle.ctd_limits.proofs.numbers.greatest_number.Goals.{in-Some, in_default}
use Rattle.ctd_limits.proofs.numbers.greatest_number.Goals as goal

pub loop-b-preserved : goal.loop-b-preserved
loop-b-preserved c = elim c.match-number_alone.branch [
  | in-Some w ↦
      let fits : FitsSigned w64 w.in-Some.n = search rules in
      let result_fits : FitsSigned w64 w.lesser.result = search rules in
      subst (λ o. IfSome o (λ n. IsToNumber c.args.highs.now n)) (sym (rw (to_z-of_z w64 w.lesser.result result_fits) at w.most-is))
      (one_of_both (λ n. IsToNumber c.args.highs.now n) c.loop-b.most w.in-Some.n w.lesser.result c.loop-b.invariant
      (to_number c.args.highs.now c.loop-b.b-index _ w.in-Some.n c.loop-b-test.true w.in-Some.ensures) (rw (to_z-of_z w64 w.in-Some.n fits) at w.lesser.ensures))
  | in_default w ↦ subst (λ o. IfSome o (λ n. IsToNumber c.args.highs.now n)) (sym w.most-is) c.loop-b.invariant
]
