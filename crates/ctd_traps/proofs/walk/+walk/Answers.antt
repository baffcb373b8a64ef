use Rattle.ctd_traps.proofs.Common.{AbstractState, AreBranches, Asks, Command, IfOk, IfSome, IsJoined, IsPart, Option, PartitionIsWithin, Passage, Passes, PassesOnceBegun, SeparatesAt, SeparatorKeeps, StepKeeps, Test, TurnKeeps, Vec, boxed_separator, choice_at}
use Rattle.ctd_traps.proofs.Common.{arith, command_list, command_tree, if_ok_more, list_commands, loop_at, nat_tests, out-Choice, out-Loop, subst, sym, test_tree}
use Rattle.ctd_program.specs.Tree
use Rattle.ctd_traps.specs.calls.Events.{goes_on}
use Rattle.ctd_traps.proofs.Noting.{begun_more, faults_more, noted_more, part_trans}
use Rattle.ctd_traps.proofs.Walking.{between_keeps, choice_steps, separator_more, wider_step}
use Rattle.ctd_traps.proofs.Steps.{begins_more, begun_passes, choice_step, later_passes, loop_step, one_passes, passed_keeps, same_or_none, search_passes, walk_done, walk_step}
use Rattle.ctd_traps.proofs.Unrolling.{begins_at_more, nothing_left, separates_later, separates_more, unroll_ends, unroll_goes_on, unroll_starts}
use Rattle.ctd_traps.proofs.walk.+walk.Goals as goal

pub walk-loop-command-preserved : goal.walk-loop-command-preserved
walk-loop-command-preserved t c = record {
  more = part_trans c.args.context c.args.noted.now c.loop-command.noted c.step.new.noted c.loop-command.invariant.more c.in_ok-after.ensures.more;
  leads = walk_step c.args.context c.args.states.items c.loop-command.after.items c.as_slice.result.now c.in_ok-after.after.items c.loop-command.noted c.step.new.noted c.args.commands.now c.loop-command.command-index c.command-item.result
      c.as_slice.ensures.value c.loop-command-test.true c.command-item.is c.in_ok-after.ensures.more c.in_ok-after.ensures.keeps c.loop-command.invariant.leads;
}

pub walk-returns-clause-keeps : goal.walk-returns-clause-keeps
walk-returns-clause-keeps t c = walk_done c.args.context c.args.states.items c.loop-command.after.items c.loop-command.noted c.args.commands.now c.loop-command.command-index c.loop-command-test.false c.loop-command.invariant.leads

pub act-returns-in-If-clause-keeps : goal.act-returns-in-If-clause-keeps
act-returns-in-If-clause-keeps t c =
    let g = c.args.context in
    let found = c.choose.new.noted in
    if_ok_more (λ (v : Vec AbstractState). StepKeeps g c.args.states.now v.items found (choice_at c.args.command.now.place c.deref-in-If.result.now)) (λ (v : Vec AbstractState). StepKeeps g c.args.states.now v.items found (command_tree c.args.command.now)) c.choose.result
    (λ v so. choice_step g c.args.states.now v.items found c.args.command.now.action c.in-If.choice c.deref-in-If.result.now c.args.command.now.place c.in-If.is c.deref-in-If.ensures so) c.choose.ensures.keeps

pub act-returns-in-Loop-clause-keeps : goal.act-returns-in-Loop-clause-keeps
act-returns-in-Loop-clause-keeps t c =
    let g = c.args.context in
    let found = c.repeat.new.noted in
    if_ok_more (λ (v : Vec AbstractState). StepKeeps g c.args.states.now v.items found (loop_at c.args.command.now.place c.deref-in-Loop.result.now)) (λ (v : Vec AbstractState). StepKeeps g c.args.states.now v.items found (command_tree c.args.command.now)) c.repeat.result
    (λ v so. loop_step g c.args.states.now v.items found c.args.command.now.action c.in-Loop.repeated c.deref-in-Loop.result.now c.args.command.now.place c.in-Loop.is c.deref-in-Loop.ensures so) c.repeat.ensures.keeps

pub separate-returns-in-Some-clause-keeps : goal.separate-returns-in-Some-clause-keeps
separate-returns-in-Some-clause-keeps t c =
    let g = c.args.context in
    let found = c.step.new.noted in
    let before = c.args.states.items in
    rw c.in-Some.is
    (if_ok_more (λ (v : Vec AbstractState). StepKeeps g c.as_slice.result.now v.items found (command_tree c.deref.result.now)) (λ (v : Vec AbstractState). SeparatorKeeps g before v.items found (Tree.between (command_tree c.in-Some.command.value))) c.step.result
    (λ v so. between_keeps g before v.items found (command_tree c.in-Some.command.value) (subst (λ (x : Command). StepKeeps g before v.items found (command_tree x)) c.deref.ensures
    (subst (λ l. StepKeeps g l v.items found (command_tree c.deref.result.now)) c.as_slice.ensures.value so))) c.step.ensures.keeps)

pub walk_block-returns-clause-keeps : goal.walk_block-returns-clause-keeps
walk_block-returns-clause-keeps t c = rw (list_commands c.args.block.now, sym c.as_slice.ensures) c.walk.ensures.keeps

pub act-returns-in-Assert-clause-keeps : goal.act-returns-in-Assert-clause-keeps
act-returns-in-Assert-clause-keeps t c =
    let found = c.assert.new.noted in
    let place = c.args.command.now.place in
    rw c.in-Assert.is
    (subst (λ (u : Test). IfOk c.assert.result (λ (v : Vec AbstractState). StepKeeps c.args.context c.args.states.now v.items found (Tree.assert place (test_tree u)))) c.deref.ensures c.assert.ensures.keeps)

pub go_round-returns-clause-keeps : goal.go_round-returns-clause-keeps
go_round-returns-clause-keeps t c =
    let g = c.args.context in
    let l = c.args.repeated.now in
    let begun = c.args.begun.now in
    let later = c.in_ok-later.later in
    let separated = c.in_ok-separated.separated.items in
    let before = c.in_ok-before.before.items in
    let reported = c.begin_later.new.noted in
    let second = c.separate.new.noted in
    let third = c.walk_block.new.noted in
    let part_two = c.in_ok-end.ensures.more in
    let part_one = part_trans g reported second third c.in_ok-separated.ensures.more part_two in
    record {
      later_inside = later.inside.items;
      later = later.faults;
      before = before;
      begun = begins_more g c.args.candidate.now begun.counting begun.first.inside.items begun.first.outside.items begun.first.faults later.inside.items later.outside.items later.faults reported third c.args.place l part_one c.in_ok-later.ensures.begins;
      separates = separator_more g later.inside.items separated before second third (boxed_separator (out-Loop l).between) c.in_ok-before.ensures.first part_two c.in_ok-separated.ensures.keeps;
      first_before = subst (λ k. PartitionIsWithin g k before) c.as_slice.ensures.value c.in_ok-before.ensures.second;
      body = c.in_ok-end.ensures.keeps;
    }

pub choose-returns-clause-more : goal.choose-returns-clause-more
choose-returns-clause-more t c =
    let new = c.walk_block-2.new.noted in
    if_ok_more (λ (v : Vec AbstractState). AreBranches c.args.context c.in_ok-yes.yes.items c.in_ok-no.no.items v.items) (λ (v : Vec AbstractState). IsPart c.args.context c.args.noted.now new) c.join_branches.result
    (λ v so x e is. c.in_ok-no.ensures.more x e (c.in_ok-yes.ensures.more x e (c.in_ok-asked.ensures.more x e is))) c.join_branches.ensures

pub choose-returns-clause-keeps : goal.choose-returns-clause-keeps
choose-returns-clause-keeps t c =
    let g = c.args.context in
    let place = c.args.place in
    let ch = c.args.choice.now in
    let asked = c.in_ok-asked.asked in
    let states = c.args.states.now in
    let if_true = asked.if_true.items in
    let if_false = asked.if_false.items in
    let yes = c.in_ok-yes.yes.items in
    let no = c.in_ok-no.no.items in
    let reported = c.ask_branches.new.noted in
    let first = c.walk_block.new.noted in
    let second = c.walk_block-2.new.noted in
    let part_first = c.in_ok-no.ensures.more in
    let part_reported = part_trans g reported first second c.in_ok-yes.ensures.more part_first in
    if_ok_more (λ (v : Vec AbstractState). AreBranches g yes no v.items) (λ (v : Vec AbstractState). StepKeeps g states v.items second (choice_at place ch)) c.join_branches.result
    (λ v so. choice_steps g states if_true if_false yes no v.items asked.faults place (test_tree (out-Choice ch).condition.value) (command_list (out-Choice ch).then_do) (command_list (out-Choice ch).else_do) reported first second
    (subst (λ u. Asks g states if_true if_false (test_tree u) asked.faults reported place) c.deref.ensures c.in_ok-asked.ensures.asks)
    c.in_ok-asked.ensures.on_true c.in_ok-asked.ensures.on_false part_reported part_first
    c.in_ok-yes.ensures.keeps c.in_ok-no.ensures.keeps so.yes_after so.no_after)
    c.join_branches.ensures

pub go_round-returns-clause-more : goal.go_round-returns-clause-more
go_round-returns-clause-more t c = λ x e is. c.in_ok-end.ensures.more x e (c.in_ok-separated.ensures.more x e (c.in_ok-later.ensures.more x e is))

pub walk-returns-clause-more : goal.walk-returns-clause-more
walk-returns-clause-more t c = c.loop-command.invariant.more

pub separate-returns-in-Some-clause-more : goal.separate-returns-in-Some-clause-more
separate-returns-in-Some-clause-more t c = c.step.ensures.more

pub walk_block-returns-clause-more : goal.walk_block-returns-clause-more
walk_block-returns-clause-more t c = c.walk.ensures.more

pub act-returns-in-Assert-clause-more : goal.act-returns-in-Assert-clause-more
act-returns-in-Assert-clause-more t c = c.assert.ensures.more

pub act-returns-in-Loop-clause-more : goal.act-returns-in-Loop-clause-more
act-returns-in-Loop-clause-more t c = c.repeat.ensures.more

pub act-returns-in-If-clause-more : goal.act-returns-in-If-clause-more
act-returns-in-If-clause-more t c = c.choose.ensures.more

pub act-returns-in-Space-clause-more : goal.act-returns-in-Space-clause-more
act-returns-in-Space-clause-more t c = c.take.ensures.more

pub act-returns-in-Space-clause-keeps : goal.act-returns-in-Space-clause-keeps
act-returns-in-Space-clause-keeps t c = c.take.ensures.keeps

pub take_turn-returns-clause-more : goal.take_turn-returns-clause-more
take_turn-returns-clause-more t c = λ x e is. c.in_ok-end.ensures.more x e (c.in_ok-before.ensures.more x e (c.in_ok-begun.ensures.more x e is))

pub take_turn-returns-clause-keeps : goal.take_turn-returns-clause-keeps
take_turn-returns-clause-keeps t c =
    let g = c.args.context in
    let l = c.args.repeated.now in
    let begun = c.in_ok-begun.begun in
    let before = c.in_ok-before.before.items in
    let first = c.begin_turn.new.noted in
    let second = c.separate_before.new.noted in
    let third = c.walk_block.new.noted in
    let part_two = c.in_ok-end.ensures.more in
    let part_one = part_trans g first second third c.in_ok-before.ensures.more part_two in
    record {
      inside = begun.inside.items;
      before = before;
      faults = begun.faults;
      begun = begins_at_more g c.args.states.now c.args.counting.now begun.inside.items begun.outside.items begun.faults first third c.args.place l c.args.k part_one c.in_ok-begun.ensures.begins;
      separates = separates_more g begun.inside.items before second third c.args.k (boxed_separator (out-Loop l).between) part_two c.in_ok-before.ensures.keeps;
      body = c.in_ok-end.ensures.keeps;
    }

pub separate_before-returns-clause-keeps : goal.separate_before-returns-clause-keeps
separate_before-returns-clause-keeps t c =
    let g = c.args.context in
    let found = c.separate.new.noted in
    let sep = boxed_separator c.args.between.now in
    let before = c.args.states.items in
    if_ok_more (λ (v : Vec AbstractState). SeparatorKeeps g before v.items found sep) (λ (v : Vec AbstractState). SeparatesAt g before v.items found c.args.k sep) c.separate.result
    (λ v so. separates_later g before v.items found c.args.k sep c.if-k-eq0.false so) c.separate.ensures.keeps

pub unroll-loop-k-init : goal.unroll-loop-k-init
unroll-loop-k-init t c = record {
  start = c.in_ok-note_faults.ensures.faults;
  leads = unroll_starts c.args.context c.args.states.now c.in_ok-before.before.items _ c.note_faults.new.noted c.args.place c.args.repeated.now c.args.counting.now c.in_ok-before.ensures.second;
}

pub unroll-loop-k-preserved : goal.unroll-loop-k-preserved
unroll-loop-k-preserved t c =
    let g = c.args.context in
    let l = c.args.repeated.now in
    let place = c.args.place in
    let counting = c.args.counting.now in
    let k = c.loop-k.k in
    let turn = c.in_ok-turn.turn in
    let outside = turn.outside.items in
    let end = turn.end.items in
    let old = c.loop-k.inside in
    let new = c.take_turn.new.noted in
    let wider = c.in_ok-after.after.items in
    let part = c.in_ok-turn.ensures.more in
    record {
      start = faults_more g old new place counting.turns.faults part c.loop-k.invariant.start;
      leads = unroll_goes_on g c.args.states.now c.loop-k.before.items c.loop-k.after.items outside end wider old new place l counting k
          (subst (λ b. TurnKeeps g b counting outside end new place l k) c.as_slice-in-loop-k.ensures.value c.in_ok-turn.ensures.keeps) part
          c.in_ok-after.ensures.first (subst (λ o. PartitionIsWithin g o wider) c.as_slice-in-loop-k-2.ensures.value c.in_ok-after.ensures.second) c.loop-k.invariant.leads;
    }

pub unroll-returns-then-is_empty : goal.unroll-returns-then-is_empty
unroll-returns-then-is_empty t c =
    unroll_ends c.args.context c.args.states.now c.loop-k.before.items c.args.place c.args.repeated.now c.args.counting.now c.loop-k.k (record { after = c.loop-k.after; inside = c.loop-k.inside })
    (nothing_left c.loop-k.before.items (grind (arith, nat_tests, c.loop-k.before.ok.0, c.if-is_empty.ensures))) c.loop-k.invariant.start c.loop-k.invariant.leads

pub step-returns-then-not-is_spent-clause-more : goal.step-returns-then-not-is_spent-clause-more
step-returns-then-not-is_spent-clause-more t c = c.act.ensures.more

pub step-returns-then-not-is_spent-clause-keeps : goal.step-returns-then-not-is_spent-clause-keeps
step-returns-then-not-is_spent-clause-keeps t c = c.act.ensures.keeps

pub step-returns-clause-more : goal.step-returns-clause-more
step-returns-clause-more t c = c.act-2.ensures.more

pub step-returns-clause-keeps : goal.step-returns-clause-keeps
step-returns-clause-keeps t c =
    let g = c.args.context in
    let found = c.act-2.new.noted in
    let tree = command_tree c.args.command.now in
    if_ok_more (λ (v : Vec AbstractState). StepKeeps g c.as_slice.result.now v.items found tree) (λ (v : Vec AbstractState). StepKeeps g c.args.states.now v.items found tree) c.act-2.result
    (λ v so. wider_step g c.args.states.now c.as_slice.result.now v.items found tree (subst (PartitionIsWithin g c.args.states.now) (sym c.as_slice.ensures.value) c.in_ok-wider.ensures) so) c.act-2.ensures.keeps

pub try_candidate-returns : goal.try_candidate-returns
try_candidate-returns t c =
    let g = c.args.context in
    let l = c.args.repeated.now in
    let place = c.args.place in
    let begun = c.args.begun.now in
    let counting = begun.counting in
    let candidate = c.args.candidate.now in
    let first = begun.first in
    let first_inside = first.inside.items in
    let first_outside = first.outside.items in
    let passed = c.in_ok-passed.passed in
    let inside = c.go_round.new.noted in
    λ states starts. search_passes g states candidate counting first_inside first_outside passed.outside.items passed.end.items first.faults place l inside c.in_ok-passage.passage starts
    c.in_ok-passed.ensures.keeps (c.is_inductive-is_found.ensures c.if-not-is_found.false)
    (subst (λ k. IsJoined g k passed.outside.items inside c.in_ok-passage.passage) c.as_slice.ensures.value c.in_ok-passage.ensures)

pub found_or_widest-returns-then-is_some : goal.found_or_widest-returns-then-is_some
found_or_widest-returns-then-is_some t c = λ so. so

pub found_or_widest-returns : goal.found_or_widest-returns
found_or_widest-returns t c = λ so. c.in_ok-tried.ensures

pub search-loop-round-init : goal.search-loop-round-init
search-loop-round-init t c = tt

pub search-loop-round-preserved : goal.search-loop-round-preserved
search-loop-round-preserved t c = later_passes c.loop-round.found c.in_ok-tried.tried.passage c.later_of-later.result (λ (p : Passage). PassesOnceBegun c.args.context c.args.begun.now c.args.place c.args.repeated.now p)
    c.later_of-later.ensures c.loop-round.invariant c.in_ok-tried.ensures

pub search-returns-then-is_enough : goal.search-returns-then-is_enough
search-returns-then-is_enough t c = c.in_ok-tried.ensures

pub search-returns-then-is_spent : goal.search-returns-then-is_spent
search-returns-then-is_spent t c =
    if_ok_more (λ (o : Option Passage). IfSome c.loop-round.found (λ (p : Passage). PassesOnceBegun c.args.context c.args.begun.now c.args.place c.args.repeated.now p) → IfSome o (λ (p : Passage). PassesOnceBegun c.args.context c.args.begun.now c.args.place c.args.repeated.now p)) (λ (o : Option Passage). IfSome o (λ (p : Passage). PassesOnceBegun c.args.context c.args.begun.now c.args.place c.args.repeated.now p)) c.found_or_widest.result
    (λ o so. so c.loop-round.invariant) c.found_or_widest.ensures

pub search-returns : goal.search-returns
search-returns t c =
    if_ok_more (λ (o : Option Passage). IfSome c.loop-round.found (λ (p : Passage). PassesOnceBegun c.args.context c.args.begun.now c.args.place c.args.repeated.now p) → IfSome o (λ (p : Passage). PassesOnceBegun c.args.context c.args.begun.now c.args.place c.args.repeated.now p)) (λ (o : Option Passage). IfSome o (λ (p : Passage). PassesOnceBegun c.args.context c.args.begun.now c.args.place c.args.repeated.now p)) c.found_or_widest-2.result
    (λ o so. so c.loop-round.invariant) c.found_or_widest-2.ensures

pub search_plainly-returns-in-Some : goal.search_plainly-returns-in-Some
search_plainly-returns-in-Some t c = subst (λ o. IfSome o (λ (p : Passage). PassesOnceBegun c.args.context c.args.begun.now c.args.place c.args.repeated.now p)) c.in-Some.is c.in_ok-found.ensures

pub try_turns-returns : goal.try_turns-returns
try_turns-returns t c = same_or_none c.unroll-found.result c.none_if_given_up.result (λ (p : Passage). Passes c.args.context c.args.states.now c.args.counting.now c.args.place c.args.repeated.now p) c.none_if_given_up.ensures c.unroll-found.ensures

pub try_inner-returns : goal.try_inner-returns
try_inner-returns t c = same_or_none c.search-found.result c.none_if_given_up.result (λ (p : Passage). PassesOnceBegun c.args.context c.args.begun.now c.args.place c.args.repeated.now p) c.none_if_given_up.ensures c.search-found.ensures

pub repeat-returns-clause-more : goal.repeat-returns-clause-more
repeat-returns-clause-more t c = part_trans c.args.context c.args.noted.now c.note_start.new.noted c.note_all.new.noted c.in_ok-note_start.ensures.more c.in_ok-note_all.ensures.more

pub repeat-returns-clause-keeps : goal.repeat-returns-clause-keeps
repeat-returns-clause-keeps t c =
    let g = c.args.context in
    let begun = c.in_ok-begun.begun in
    let started = c.note_start.new.noted in
    let new = c.note_all.new.noted in
    let start = c.in_ok-note_start.ensures in
    let part = c.in_ok-note_all.ensures.more in
    let starts = c.in_ok-begun.ensures in
    passed_keeps g c.args.states.now begun c.args.place c.args.repeated.now c.in_ok-after.field-0 new starts (c.in_ok-after.ensures starts) c.in_ok-note_all.ensures.all
    (begun_more g started new c.args.place c.args.states.now part start.begun) (λ h by is. noted_more g started new c.args.place goes_on c.args.states.now part (start.gone g h by is))

pub pass-returns-in-Some : goal.pass-returns-in-Some
pass-returns-in-Some t c = λ starts. subst (λ o. IfSome o (λ (p : Passage). Passes c.args.context c.args.states.now c.args.begun.now.counting c.args.place c.args.repeated.now p)) c.in-Some.is c.in_ok-passage.ensures

pub pass-returns-then-is_empty : goal.pass-returns-then-is_empty
pass-returns-then-is_empty t c = λ starts. c.in_ok-plain.ensures c.args.states.now starts

pub pass-returns-then-is_empty-2 : goal.pass-returns-then-is_empty-2
pass-returns-then-is_empty-2 t c = λ starts. one_passes c.in_ok-plain.plain c.in_ok-by_turns.by_turns c.with_fewer_traps-fewer.result (λ (p : Passage). Passes c.args.context c.args.states.now c.args.begun.now.counting c.args.place c.args.repeated.now p) c.with_fewer_traps-fewer.ensures
    (c.in_ok-plain.ensures c.args.states.now starts) c.in_ok-by_turns.ensures

pub pass-returns : goal.pass-returns
pass-returns t c = λ starts.
    let g = c.args.context in
    let states = c.args.states.now in
    let begun = c.args.begun.now in
    let place = c.args.place in
    let l = c.args.repeated.now in
    let by_inner = c.in_ok-by_inner.by_inner in
    one_passes c.with_fewer_traps-fewer.result by_inner c.with_fewer_traps.result (λ (p : Passage). Passes g states begun.counting place l p) c.with_fewer_traps.ensures
    (one_passes c.in_ok-plain.plain c.in_ok-by_turns.by_turns c.with_fewer_traps-fewer.result (λ (p : Passage). Passes g states begun.counting place l p) c.with_fewer_traps-fewer.ensures (c.in_ok-plain.ensures states starts) c.in_ok-by_turns.ensures)
    (begun_passes g states begun place l by_inner starts c.in_ok-by_inner.ensures)
