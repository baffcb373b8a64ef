use Rattle.ctd_traps.proofs.Common.{AreWithin, IsAdded, subst, sym}
use Rattle.ctd_traps.proofs.Joining.{pushed_last, pushed_others}
use Rattle.ctd_traps.proofs.joined.push_state.Goals as goal

pub returns : goal.returns
returns c =
    let old = c.args.states.now.items in
    let all = c.in_ok-push.ensures.items in
    record {
      others = λ g. subst (λ l. AreWithin g old l) (sym all) (pushed_others g old c.args.more);
      added = λ g. subst (λ l. IsAdded g c.args.more l) (sym all) (pushed_last g old c.args.more);
    }
