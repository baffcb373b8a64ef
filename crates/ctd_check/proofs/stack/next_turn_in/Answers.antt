use Rattle.std.proofs.Common.{arith, slice_index_or, sym}
use Rattle.ctd_check.proofs.Stacks.{is_on_top}
use Rattle.ctd_check.proofs.Turns.{top_at, turn_within, after_next_turn, done_at_turn, turn_fits}
use Rattle.ctd_check.proofs.stack.next_turn_in.Goals as goal

pub next_turn-requires : goal.next_turn-requires
next_turn-requires c =
    let f = (slice_index_or c.args.frames.now c.in-Some.last c.index-frames-last.result) in
    turn_within f.running_loop (rw (sym (top_at c.args.frames.now c.in-Some.last f (is_on_top c.args.frames.now c.in-Some.last c.index-frames-last.result (omega (arith, c.in-Some.ensures))))) c.requires.turn)

pub returns-in-Some-clause-to_do : goal.returns-in-Some-clause-to_do
returns-in-Some-clause-to_do c running_loop at =
    after_next_turn c.args.frames.now c.in-Some.last (slice_index_or c.args.frames.now c.in-Some.last c.index-frames-last.result) c.next_turn.new.self running_loop at c.next_turn.result.now
    (is_on_top c.args.frames.now c.in-Some.last c.index-frames-last.result (omega (arith, c.in-Some.ensures))) (record { running_loop = c.next_turn.ensures.running_loop; rest = c.next_turn.ensures.rest }) c.next_turn.ensures.body

pub returns-in-Some-clause-body : goal.returns-in-Some-clause-body
returns-in-Some-clause-body c = rw (top_at c.args.frames.now c.in-Some.last (slice_index_or c.args.frames.now c.in-Some.last c.index-frames-last.result) (is_on_top c.args.frames.now c.in-Some.last c.index-frames-last.result (omega (arith, c.in-Some.ensures)))) c.next_turn.ensures.body

pub returns-in-Some-clause-done : goal.returns-in-Some-clause-done
returns-in-Some-clause-done c =
    done_at_turn c.args.frames.now c.in-Some.last (slice_index_or c.args.frames.now c.in-Some.last c.index-frames-last.result) c.next_turn.new.self
    (is_on_top c.args.frames.now c.in-Some.last c.index-frames-last.result (omega (arith, c.in-Some.ensures))) (record { running_loop = c.next_turn.ensures.running_loop; rest = c.next_turn.ensures.rest }) c.requires.done

pub returns-in-Some-clause-fits : goal.returns-in-Some-clause-fits
returns-in-Some-clause-fits c left =
    turn_fits left c.args.frames.now c.in-Some.last (slice_index_or c.args.frames.now c.in-Some.last c.index-frames-last.result) c.next_turn.new.self
    (is_on_top c.args.frames.now c.in-Some.last c.index-frames-last.result (omega (arith, c.in-Some.ensures))) (record { running_loop = c.next_turn.ensures.running_loop; rest = c.next_turn.ensures.rest })
