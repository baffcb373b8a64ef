use Rattle.std.proofs.Common.{rules}
use Rattle.ctd_element_changes.proofs.Common.{None, refl, ◌≡◌}
use Rattle.ctd_element_changes.proofs.KeyTests.{hit_by}
use Rattle.ctd_element_changes.proofs.keys.is_hit.Goals as goal

pub returns : goal.returns
returns c =
    let loose : c.args.f.most ≡ None = search rules in
    let single : c.args.f.block.second ≡ None = search rules in
    λ yes. hit_by c.args.state c.args.f c.args.limits c.args.array loose single (c.if-not-is_exactly.ensures refl) (c.are_values_keys.ensures yes)
