use Rattle.ctd_elements.proofs.Common.{refl}
use Rattle.ctd_elements.proofs.Parts.{index_number}
use Rattle.ctd_elements.proofs.part.index_is_number.Goals as goal

pub returns-then-is_before : goal.returns-then-is_before
returns-then-is_before c = λ yes. index_number c.args.state c.args.a c.in-Some.number c.args.b c.in-Some.ensures (c.if-is_before.ensures refl) (c.is_behind.ensures yes)
