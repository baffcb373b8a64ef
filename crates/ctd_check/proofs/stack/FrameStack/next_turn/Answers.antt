use Rattle.std.proofs.Common.{refl, sym, ap, ◌∙◌, subst, List, length}
use Rattle.ctd_check.specs.declared.frame.Frame.{Frame}
use Rattle.ctd_check.specs.inner.FrameTasks.{Fits, IsListDone, all_to_do}
use Rattle.ctd_check.proofs.Turns.{turn_before_last, refilled}
use Rattle.ctd_check.proofs.stack.FrameStack.next_turn.Goals as goal

pub next_turn_in-requires : goal.next_turn_in-requires
next_turn_in-requires c =
    let P : List Frame → Type 0 = λ fs. Fits c.args.self.now.left fs in
    let Q : List Frame → Type 0 = λ fs. IsListDone fs in
    record {
      turn = turn_before_last c.args.self.now.left c.as_mut_slice.result.now _ c.requires.left refl (subst P (sym c.as_mut_slice.ensures.value) c.args.self.now.fits);
      done = subst Q (sym c.as_mut_slice.ensures.value) c.requires.done;
    }

pub returns-clause-to_do : goal.returns-clause-to_do
returns-clause-to_do c running_loop at =
    ap (all_to_do c.next_turn_in.result.now) (refilled _ c.args.self.now.frames.items c.next_turn_in.new.frames (c.next_turn_in.ensures.len ∙ ap length c.as_mut_slice.ensures.value))
    ∙ c.next_turn_in.ensures.to_do running_loop (record { below = at.below; frame = at.frame; is = c.as_mut_slice.ensures.value ∙ at.is; done = at.done; loop_is = at.loop_is })

pub returns-clause-done : goal.returns-clause-done
returns-clause-done c =
    let P : List Frame → Type 0 = λ fs. IsListDone fs in
    subst P (sym (refilled _ c.args.self.now.frames.items c.next_turn_in.new.frames (c.next_turn_in.ensures.len ∙ ap length c.as_mut_slice.ensures.value))) c.next_turn_in.ensures.done
