use Rattle.ctd_transfer.proofs.Common.{IsIn, refl, subst, sym, ◌∙◌}
use Rattle.ctd_transfer.proofs.Comparing.{some_same}
use Rattle.ctd_transfer.proofs.cut.cut_numbers.Goals as goal

pub returns-then-is_empty : goal.returns-then-is_empty
returns-then-is_empty c = λ k x y r s is_r is_s i j so.
    absurd (c.is_empty.ensures.empty c.if-is_empty.true k x (c.restrict-cut.ensures.refines k x y so
    (subst (λ q. IsIn q k x) (some_same r c.in-Some-Some.x (sym is_r ∙ c.in-Some-Some.is-0)) i) (subst (λ q. IsIn q k y) (some_same s c.in-Some-Some.y (sym is_s ∙ c.in-Some-Some.is-1)) j)))

pub returns-else-is_empty : goal.returns-else-is_empty
returns-else-is_empty c = λ k x y r s is_r is_s i j so. (
  c.restrict-cut.result,
  refl,
  c.restrict-cut.ensures.refines k x y so
      (subst (λ q. IsIn q k x) (some_same r c.in-Some-Some.x (sym is_r ∙ c.in-Some-Some.is-0)) i) (subst (λ q. IsIn q k y) (some_same s c.in-Some-Some.y (sym is_s ∙ c.in-Some-Some.is-1)) j),
)
