use Rattle.std.proofs.Common.{rules}
use Rattle.ctd_elements.proofs.Common.{None, refl, ◌≡◌}
use Rattle.ctd_elements.proofs.ElementsRead.{key_by}
use Rattle.ctd_elements.proofs.read.is_key_by.Goals as goal

pub returns-else-not-is_same_name : goal.returns-else-not-is_same_name
returns-else-not-is_same_name c =
    let none : c.args.k.except ≡ None = search rules in
    λ yes. key_by c.args.state c.args.k c.args.array c.in-Some.source c.args.limits c.in-Some.is none (c.if-not-is_same_name.ensures.same refl) (c.is_same_name-in-Some.ensures.same yes)
