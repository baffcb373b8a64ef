use Rattle.std.proofs.Common.{subst, sym}
use Rattle.ctd_guarantees.proofs.Following.{none_follow, one_more_follows}
use Rattle.ctd_guarantees.specs.inner.Parts.{FollowFrom}
use Rattle.ctd_guarantees.proofs.part.parts_of.Goals as goal
use Rattle.ctd_guarantees.proofs.part.parts_of.Goals.{then-pick-known+in_ok-push, else-pick-known}

pub loop-pick-init : goal.loop-pick-init
loop-pick-init c = none_follow c.args.known.now c.new-parts.result.items c.new-parts.ensures.items

pub loop-pick-preserved : goal.loop-pick-preserved
loop-pick-preserved c =
    let known = c.args.known.now in
    elim c.if-pick-known.branch [
      | then-pick-known+in_ok-push w ↦ subst (λ v. FollowFrom known v.items) (sym w.parts-is)
          (one_more_follows known c.loop-pick.parts.items w.push.new.self.items _ _ w.open_part.result w.if-pick-known.true w.in_ok-push.ensures.items w.open_part.ensures c.loop-pick.invariant)
      | else-pick-known w ↦ subst (λ v. FollowFrom known v.items) (sym w.parts-is) c.loop-pick.invariant
    ]
