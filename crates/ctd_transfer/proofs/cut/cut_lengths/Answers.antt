use Rattle.ctd_transfer.proofs.Common.{IsIn, Lengths, pos, refl, subst, sym, ◌∙◌, ◌≤◌}
use Rattle.ctd_transfer.proofs.Comparing.{same_lengths, some_same}
use Rattle.ctd_transfer.proofs.cut.cut_lengths.Goals as goal

pub returns-then-is_empty : goal.returns-then-is_empty
returns-then-is_empty c = λ k n y l s is_l is_s least most i so.
    let same = same_lengths l c.in-Some-Some.lengths (sym is_l ∙ c.in-Some-Some.is-0) in
    absurd (c.is_empty.ensures.empty c.if-is_empty.true k (pos n) (c.restrict-cut.ensures.refines k (pos n) y so
    (c.range_of.ensures k n (subst (λ (q : Lengths). q.least ≤ n) same least) (subst (λ (q : Lengths). n ≤ q.most) same most)) (subst (λ q. IsIn q k y) (some_same s c.in-Some-Some.range (sym is_s ∙ c.in-Some-Some.is-1)) i)))

pub returns-else-is_empty : goal.returns-else-is_empty
returns-else-is_empty c = λ k n y l s is_l is_s least most i so.
    let same = same_lengths l c.in-Some-Some.lengths (sym is_l ∙ c.in-Some-Some.is-0) in
    let from = subst (λ (q : Lengths). q.least ≤ n) same least in
    let to = subst (λ (q : Lengths). n ≤ q.most) same most in
    let inside = c.restrict-cut.ensures.refines k (pos n) y so (c.range_of.ensures k n from to) (subst (λ q. IsIn q k y) (some_same s c.in-Some-Some.range (sym is_s ∙ c.in-Some-Some.is-1)) i) in
    (_, refl, c.least_length.ensures k n from inside, c.greatest_length.ensures k n to inside)
