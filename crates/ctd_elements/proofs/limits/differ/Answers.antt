use Rattle.ctd_elements.proofs.limits.differ.Goals as goal

pub returns-in-Some-number_by : goal.returns-in-Some-number_by
returns-in-Some-number_by c = λ yes n h x y it is_x is_y. c.follows.ensures yes n h it x y (c.in-Some.ensures n h x it is_x) (c.in-Some-number_by.ensures n h y it is_y)
