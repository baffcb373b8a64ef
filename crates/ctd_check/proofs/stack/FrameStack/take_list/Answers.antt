use Rattle.std.proofs.Common.{List, length, ap, sym, ◌∙◌, subst}
use Rattle.ctd_check.specs.declared.frame.Frame.{Frame}
use Rattle.ctd_check.specs.inner.FrameTasks.{Fits, IsInHand, to_do, all_to_do}
use Rattle.ctd_check.proofs.Turns.{refilled}
use Rattle.ctd_check.proofs.stack.FrameStack.take_list.Goals as goal

pub returns-clause-to_do : goal.returns-clause-to_do
returns-clause-to_do c =
    let same = refilled _ c.args.self.now.frames.items c.take_list_in.new.frames (c.take_list_in.ensures.len ∙ ap length c.as_mut_slice.ensures.value) in
    ap to_do (sym c.as_mut_slice.ensures.value) ∙ c.take_list_in.ensures.to_do ∙ ap (all_to_do c.take_list_in.result.now) (sym same)

pub returns-clause-in_hand : goal.returns-clause-in_hand
returns-clause-in_hand c =
    let same = refilled _ c.args.self.now.frames.items c.take_list_in.new.frames (c.take_list_in.ensures.len ∙ ap length c.as_mut_slice.ensures.value) in
    let P : List Frame → Type 0 = λ fs. Fits c.args.self.now.left fs in
    let Q : List Frame → Type 0 = λ fs. IsInHand c.take_list_in.result.now fs in
    subst Q (sym same) (c.take_list_in.ensures.in_hand c.args.self.now.left (subst P (sym c.as_mut_slice.ensures.value) c.args.self.now.fits))
