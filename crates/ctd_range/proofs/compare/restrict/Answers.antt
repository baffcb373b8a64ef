use Rattle.ctd_range.proofs.Common.{IsIn, Relates, subst, sym, ◌≡◌}
use Rattle.ctd_range.proofs.compare.restrict.Goals as goal

pub returns-in-Less : goal.returns-in-Less
returns-in-Less c = record { refines = λ k x y so i j. c.less.ensures.refines k x y (subst (λ by. Relates by x y) c.in-Less.is so) i j }

pub returns-in-AtMost : goal.returns-in-AtMost
returns-in-AtMost c = record { refines = λ k x y so i j. c.at_most.ensures.refines k x y (subst (λ by. Relates by x y) c.in-AtMost.is so) i j }

pub returns-in-Greater : goal.returns-in-Greater
returns-in-Greater c = record { refines = λ k x y so i j. c.greater.ensures.refines k x y (subst (λ by. Relates by x y) c.in-Greater.is so) i j }

pub returns-in-AtLeast : goal.returns-in-AtLeast
returns-in-AtLeast c = record { refines = λ k x y so i j. c.at_least.ensures.refines k x y (subst (λ by. Relates by x y) c.in-AtLeast.is so) i j }

pub returns-in-Equal : goal.returns-in-Equal
returns-in-Equal c = record { refines = λ k x y so i j. let same : x ≡ y = subst (λ by. Relates by x y) c.in-Equal.is so in c.same.ensures.refines k x i (subst (λ z. IsIn c.args.b k z) (sym same) j) }

pub returns-in-Unequal : goal.returns-in-Unequal
returns-in-Unequal c = record { refines = λ k x y so i j. c.other.ensures.refines k x y (subst (λ by. Relates by x y) c.in-Unequal.is so) i j }
