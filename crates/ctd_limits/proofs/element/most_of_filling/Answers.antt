use Rattle.std.proofs.Common.{refl}
use Rattle.ctd_limits.proofs.Valuing.{most_by}
use Rattle.ctd_limits.proofs.element.most_of_filling.Goals as goal

pub returns : goal.returns
returns c = most_by c.args.state c.args.f c.args.array c.args.first c.args.second c.in_ok-most.most c.in_ok-most.was (c.if-not-is_same_name.ensures.same refl) (c.if-not-are_in.ensures refl) (c.if-not-is_sure.ensures refl)
