use Rattle.std.proofs.Common.{arith, slice_index_or, refl, []}
use Rattle.ctd_check.proofs.Stacks.{is_on_top, top_taken, fits_taken, taken_in_hand, nothing_in_hand}
use Rattle.ctd_check.proofs.stack.take_list_in.Goals as goal

pub returns-in-Some-clause-to_do : goal.returns-in-Some-clause-to_do
returns-in-Some-clause-to_do c =
    top_taken c.args.frames.now c.in-Some.last (slice_index_or c.args.frames.now c.in-Some.last c.index-frames-last.result) c.take_list.new.self c.take_list.result.now
    (is_on_top c.args.frames.now c.in-Some.last c.index-frames-last.result (omega (arith, c.in-Some.ensures))) c.take_list.ensures.running_loop c.take_list.ensures.list c.take_list.ensures.done

pub returns-in-Some-clause-fits : goal.returns-in-Some-clause-fits
returns-in-Some-clause-fits c left =
    fits_taken left c.args.frames.now c.in-Some.last (slice_index_or c.args.frames.now c.in-Some.last c.index-frames-last.result) c.take_list.new.self
    (is_on_top c.args.frames.now c.in-Some.last c.index-frames-last.result (omega (arith, c.in-Some.ensures))) c.take_list.ensures.running_loop c.take_list.ensures.done

pub returns-in-Some-clause-in_hand : goal.returns-in-Some-clause-in_hand
returns-in-Some-clause-in_hand c left =
    taken_in_hand left c.args.frames.now c.in-Some.last (slice_index_or c.args.frames.now c.in-Some.last c.index-frames-last.result) c.take_list.new.self c.take_list.result.now
    (is_on_top c.args.frames.now c.in-Some.last c.index-frames-last.result (omega (arith, c.in-Some.ensures))) c.take_list.ensures.list c.take_list.ensures.done

pub returns-in-None-clause-in_hand : goal.returns-in-None-clause-in_hand
returns-in-None-clause-in_hand c left fits = nothing_in_hand c.args.frames.now [] (omega (arith, c.in-None.ensures)) refl
