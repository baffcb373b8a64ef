use Rattle.std.proofs.Common.{arith, [], ◌∷◌, ◌++◌, List, length, ap, sym, ◌∙◌, subst}
use Rattle.ctd_check.specs.declared.frame.Frame.{Frame}
use Rattle.ctd_check.specs.inner.FrameTasks.{Fits, IsInHand, frame_tasks, all_to_do}
use Rattle.ctd_check.proofs.Stacks.{fits_push, to_do_push, pushed_done}
use Rattle.ctd_check.proofs.Turns.{refilled}
use Rattle.ctd_check.proofs.stack.FrameStack.open.Goals as goal

pub put_list_in-requires : goal.put_list_in-requires
put_list_in-requires c =
    let P : List Frame → Type 0 = λ fs. IsInHand c.args.list.now fs in
    record { in_hand = subst P (sym c.as_mut_slice.ensures.value) c.requires.in_hand; some = omega (arith, ap length c.as_mut_slice.ensures.value, c.requires.some) }

pub invariant_of-self : goal.invariant_of-self
invariant_of-self c =
    let left = c.args.self.now.left in
    let put = c.put_list_in.new.frames in
    let P : List Frame → Type 0 = λ fs. Fits left fs in
    let long = c.put_list_in.ensures.len ∙ ap length c.as_mut_slice.ensures.value in
    let pushed = c.push.ensures.items ∙ ap (λ fs. fs ++ c.args.frame ∷ []) (refilled _ c.args.self.now.frames.items put long) in
    record {
      fits = subst P (sym pushed)
          (fits_push left put c.args.frame (c.put_list_in.ensures.fits left (subst P (sym c.as_mut_slice.ensures.value) c.args.self.now.fits)) (omega (arith, long, c.requires.room)) c.requires.turn);
    }

pub returns-clause-to_do : goal.returns-clause-to_do
returns-clause-to_do c =
    let put = c.put_list_in.new.frames in
    let long = c.put_list_in.ensures.len ∙ ap length c.as_mut_slice.ensures.value in
    let pushed = c.push.ensures.items ∙ ap (λ fs. fs ++ c.args.frame ∷ []) (refilled _ c.args.self.now.frames.items put (c.put_list_in.ensures.len ∙ ap length c.as_mut_slice.ensures.value)) in
    to_do_push c.push.new.self.items put c.args.frame pushed
    ∙ ap (λ ts. frame_tasks c.args.frame ++ ts) (c.put_list_in.ensures.to_do ∙ ap (all_to_do c.args.list.now) c.as_mut_slice.ensures.value)

pub returns-clause-done : goal.returns-clause-done
returns-clause-done c none =
    let put = c.put_list_in.new.frames in
    let long = c.put_list_in.ensures.len ∙ ap length c.as_mut_slice.ensures.value in
    let pushed = c.push.ensures.items ∙ ap (λ fs. fs ++ c.args.frame ∷ []) (refilled _ c.args.self.now.frames.items put (c.put_list_in.ensures.len ∙ ap length c.as_mut_slice.ensures.value)) in
    pushed_done c.push.new.self.items put c.args.frame pushed none
