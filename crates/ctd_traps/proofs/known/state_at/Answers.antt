use Rattle.ctd_traps.proofs.Common.{inl, subst, sym}
use Rattle.ctd_traps.proofs.Knowing.{state_done, state_next}
use Rattle.ctd_traps.specs.inner.Knowing.{SomeStands}
use Rattle.ctd_traps.proofs.known.state_at.Goals as goal
use Rattle.ctd_traps.proofs.known.state_at.Goals.{then-is_of+in_ok-both, else-is_of}

pub loop-joined-init : goal.loop-joined-init
loop-joined-init c = λ h one. inl one

pub loop-joined-preserved : goal.loop-joined-preserved
loop-joined-preserved c =
    let g = c.args.context in
    let place = c.args.place in
    let moment = c.args.moment in
    let old = c.loop-joined.all in
    let new = c.if-is_of.all in
    elim c.if-is_of.branch [
      | then-is_of+in_ok-both w ↦ state_next g c.args.states.now c.loop-joined.joined-index c.joined-item.result place moment old new c.loop-joined-test.true c.joined-item.is
          (λ h some. subst (λ o. SomeStands g o h) (sym w.all-is) (w.in_ok-both.ensures.first h some))
          (λ h describes. subst (λ o. SomeStands g o h) (sym w.all-is) (describes.left, w.in_ok-both.ensures.second describes.left h describes.stands)) c.loop-joined.invariant
      | else-is_of w ↦ state_next g c.args.states.now c.loop-joined.joined-index c.joined-item.result place moment old new c.loop-joined-test.true c.joined-item.is
          (λ h some. subst (λ o. SomeStands g o h) (sym w.all-is) some)
          (λ h describes. absurd (cc (c.is_of.ensures.no describes.here, w.if-is_of.false))) c.loop-joined.invariant
    ]

pub returns : goal.returns
returns c = state_done c.args.context c.args.states.now c.loop-joined.joined-index c.args.place c.args.moment c.loop-joined.all c.loop-joined-test.false c.loop-joined.invariant
