use Rattle.std.proofs.Common.{arith, slice_index_or, refl}
use Rattle.ctd_check.proofs.Stacks.{is_on_top, top_put, fits_put}
use Rattle.ctd_check.proofs.stack.put_list_in.Goals as goal

pub returns-in-Some-clause-to_do : goal.returns-in-Some-clause-to_do
returns-in-Some-clause-to_do c =
    let f = (slice_index_or c.args.frames.now c.in-Some.last c.index-frames-last.result) in
    let top = (is_on_top c.args.frames.now c.in-Some.last c.index-frames-last.result (omega (arith, c.in-Some.ensures))) in
    top_put c.args.frames.now c.in-Some.last f (record f { rest = c.args.list }) c.args.list.now top refl (c.requires.in_hand.done top.below f top.is) refl

pub returns-in-Some-clause-fits : goal.returns-in-Some-clause-fits
returns-in-Some-clause-fits c left =
    let f = (slice_index_or c.args.frames.now c.in-Some.last c.index-frames-last.result) in
    let top = (is_on_top c.args.frames.now c.in-Some.last c.index-frames-last.result (omega (arith, c.in-Some.ensures))) in
    fits_put left c.args.frames.now c.in-Some.last f (record f { rest = c.args.list }) c.args.list.now top refl refl c.requires.in_hand

pub returns-in_default-clause-to_do : goal.returns-in_default-clause-to_do
returns-in_default-clause-to_do c = absurd (omega (arith, c.in_default.ensures, c.requires.some))
