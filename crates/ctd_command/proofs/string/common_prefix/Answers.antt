use Rattle.std.proofs.Common.{◌≡◌, take, rules}
use Rattle.std.proofs.lemmas.Bool.Decides.{Decides-eqb}
use Rattle.std.proofs.lemmas.Slice.Eq.{slice_eq-Decides}
use Rattle.ctd_command.proofs.Strings.{all_agree}
use Rattle.ctd_command.proofs.string.common_prefix.Goals as goal
use Rattle.ctd_command.proofs.string.common_prefix.Goals.{then-is_in_line-via-then-is_in_line, then-is_in_line-via-else-is_in_line+then-eq}

pub returns-then-is_in_line-clause-len : goal.returns-then-is_in_line-clause-len
returns-then-is_in_line-clause-len c =
    let same : take c.min-most.result c.args.wanted.now ≡ take c.min-most.result c.args.bytes.now =
    elim c.then-is_in_line.branch [
      | then-is_in_line-via-then-is_in_line w ↦ c.agree_in_line-is_in_line.ensures.same w.if-is_in_line.true
      | then-is_in_line-via-else-is_in_line+then-eq w ↦ (slice_eq-Decides Decides-eqb _ _ w.eq.result w.eq.ensures).0 w.if-eq.true
    ] in
    all_agree c.min-most.result c.args.wanted.now c.args.bytes.now c.min-most.ensures same

pub returns-clause-len : goal.returns-clause-len
returns-clause-len c = search rules
