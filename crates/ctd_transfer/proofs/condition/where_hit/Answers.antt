use Rattle.ctd_transfer.proofs.Common.{AbstractState, HitsArray, if_ok_more, ◌∙◌}
use Rattle.ctd_partitions.specs.calls.Tests.{HitsState}
use Rattle.ctd_transfer.proofs.Deciding.{array_hit}
use Rattle.ctd_transfer.proofs.condition.where_hit.Goals as goal

pub returns-in-Some : goal.returns-in-Some
returns-in-Some c =
    let g = c.args.context in
    let st = c.args.state.now in
    let limits = c.args.limits in
    let name = c.args.name.now in
    let array = c.in-Some.array in
    if_ok_more (λ (after : AbstractState). HitsState g st limits array after) (λ (after : AbstractState). HitsArray g st limits name after) c.hit.result
    (λ after so. array_hit g st after limits name array (c.in-Some.ensures.named ∙ c.as_slice-2.ensures.whole) so) c.hit.ensures
