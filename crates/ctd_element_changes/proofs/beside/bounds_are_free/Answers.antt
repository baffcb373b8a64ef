use Rattle.ctd_element_changes.proofs.Common.{refl, ◌≢◌, ◌≤ℤ◌}
use Rattle.ctd_element_changes.proofs.Sparing.{numbers_stay}
use Rattle.ctd_element_changes.proofs.beside.bounds_are_free.Goals as goal

pub returns-clause-ordered : goal.returns-clause-ordered
returns-clause-ordered c = λ yes h after agree. numbers_stay (λ x y. x ≤ℤ y) c.args.names.now c.args.name.now c.args.a c.args.b h after (c.if-not-bound_is_free.ensures refl) (c.bound_is_free-2.ensures yes) agree

pub returns-clause-unequal : goal.returns-clause-unequal
returns-clause-unequal c = λ yes h after agree. numbers_stay (λ x y. x ≢ y) c.args.names.now c.args.name.now c.args.a c.args.b h after (c.if-not-bound_is_free.ensures refl) (c.bound_is_free-2.ensures yes) agree
