-- The commands of the code, one by one.
use Rattle.ctd_traps.proofs.Common.{AbstractState, Action, BeginsLater, BegunFrom, BegunIn, Box, Choice, Command, Context, Counting, Faults, Guard, IsBegun, IsGuard, IsJoined, IsPart, List, LoopStart, Noted, NotedIn, PartitionIsWithin}
use Rattle.ctd_traps.proofs.Common.{Passage, Passes, Place, RoundKeeps, Spares, SparesLoop, StepKeeps, WalkKeeps, action_tree, answers, ap, at_drop_more, Bindings, choice_at, choice_tree, command_tree, command_trees, drop, drop_all, false}
use Rattle.ctd_traps.proofs.Common.{get_or, guard_tree, IfOk, IfSome, inl, inr, IsEither, IsOneOf, IsSameOrNone, None, Option, PassesOnceBegun, Result, Some, Stop, length, loop_at, loop_tree, noted_in, out-Loop, started_of, subst, sym, true, ℕ, ◌+◌, ◌<◌, ◌∙◌, ◌≡◌, ◌≤◌}
use Rattle.ctd_program.specs.Tree
use Rattle.ctd_program.specs.declared.tree.Action.TheVariants as actions
use Rattle.ctd_program.specs.declared.tree.Loop.{Loop}
use Rattle.ctd_traps.specs.calls.Events.{goes_on}
use Rattle.ctd_traps.proofs.Framing.{beside_command}
use Rattle.ctd_traps.proofs.Looping.{is_post_fixpoint, loop_starts}
use Rattle.ctd_traps.proofs.Noting.{begun_more, faults_more, found_more, noted_more, part_refl, part_trans}
use Rattle.ctd_traps.proofs.PostFixpoint.{post_fixpoints_lead}
use Rattle.ctd_traps.proofs.Walking.{WalkLeads, nothing_walked, walk_leads_on}
use Rattle.ctd_traps.specs.declared.joined.Moment.TheVariants as moments

-- commands of states, by the code
abbrev Steps : (g : Context) (states after : List AbstractState) → Noted → Place → Action → Type 0
Steps g states after noted place a = StepKeeps g states after noted (action_tree a place)

-- a list of commands from its front
pub command_first : (cs : List Command) (i : ℕ) (c : Command) → i < length cs → c ≡ get_or cs i c → command_trees (drop i cs) ≡ Tree.then (command_tree c) (command_trees (drop (i + 1) cs))
command_first cs i c inside is = at_drop_more command_trees cs i c inside ∙ ap (λ (x : Command). Tree.then (command_tree x) (command_trees (drop (i + 1) cs))) (sym is)

pub walk_step : (g : Context) (states before slice after : List AbstractState) (old new : Noted) (cs : List Command) (i : ℕ) (c : Command) → slice ≡ before → i < length cs → c ≡ get_or cs i c → IsPart g old new → StepKeeps g slice after new (command_tree c)
    → WalkLeads g states before old (command_trees (drop i cs)) (command_trees cs) → WalkLeads g states after new (command_trees (drop (i + 1) cs)) (command_trees cs)
walk_step g states before slice after old new cs i c lent inside is part step leads =
    walk_leads_on g states before after old new (command_tree c) (command_trees (drop (i + 1) cs)) (command_trees cs) part (subst (λ b. StepKeeps g b after new (command_tree c)) lent step)
    (subst (λ l. WalkLeads g states before old l (command_trees cs)) (command_first cs i c inside is) leads)

pub walk_done : (g : Context) (states after : List AbstractState) (noted : Noted) (cs : List Command) (i : ℕ) → length cs ≤ i → WalkLeads g states after noted (command_trees (drop i cs)) (command_trees cs) → WalkKeeps g states after noted (command_trees cs)
walk_done g states after noted cs i all leads = leads after noted (part_refl g noted) (subst (λ l. WalkKeeps g after after noted (command_trees l)) (sym (drop_all i cs all)) (nothing_walked g after noted))

-- IF and loops, by what their boxes hold
pub choice_step : (g : Context) (states after : List AbstractState) (noted : Noted) (a : Action) (x : Box Choice) (ch : Choice) (place : Place) → a ≡ actions.If x → ch ≡ x.value → StepKeeps g states after noted (choice_at place ch) → Steps g states after noted place a
choice_step g states after noted a x ch place is held steps = subst (StepKeeps g states after noted) (sym (choice_tree a x ch place is held)) steps

pub loop_step : (g : Context) (states after : List AbstractState) (noted : Noted) (a : Action) (x : Box Loop) (l : Loop) (place : Place) → a ≡ actions.Loop x → l ≡ x.value → StepKeeps g states after noted (loop_at place l) → Steps g states after noted place a
loop_step g states after noted a x l place is held steps = subst (StepKeeps g states after noted) (sym (loop_tree a x l place is held)) steps

-- a passage by a candidate that is inductive
pub search_passes : (g : Context) (states candidate : List AbstractState) (counting : Counting) (first_inside first_outside outside end : List AbstractState) (first : Faults) (place : Place) (l : Loop) (inside : Noted) (p : Passage) →
    IsBegun g states l counting first_inside first_outside first → RoundKeeps g candidate counting first_inside first_outside first outside end inside place l →
    PartitionIsWithin g end candidate → IsJoined g first_outside outside inside p → Passes g states counting place l p
search_passes g states candidate counting first_inside first_outside outside end first place l inside p begun round again joined =
    let begins_later : BeginsLater g candidate counting first_inside first_outside first round.later_inside outside round.later inside place l = round.begun in
    let kept : IsPart g inside p.inside = subst (IsPart g inside) (sym joined.noted) (part_refl g inside) in
    record {
      start_noted = faults_more g inside p.inside place counting.turns.faults kept begins_later.start_noted;
      turns = λ counted pins d all h guard stand within is n ts s here next. let part : IsPart g inside all = part_trans g inside p.inside all kept within in
          post_fixpoints_lead d g pins (noted_in g all) l counting (started_of place l guard) h
          (record { first = states; later = candidate; first_inside = first_inside; later_inside = round.later_inside; before_body = round.before; after_body = end; after = p.after.items })
          (is_post_fixpoint {first = first} {later = round.later} {noted = all} (record {
            stand = stand;
            counted = counted;
            first_enters = begun.enters;
            later_enters = begins_later.enters counted;
            ended = found_more g inside all place moments.TurnEnded candidate part begins_later.ended;
            first_true = noted_more g inside all place (answers true) first_inside part begins_later.first_true;
            first_false = noted_more g inside all place (answers false) first_outside part begins_later.first_false;
            later_true = noted_more g inside all place (answers true) round.later_inside part begins_later.later_true;
            later_false = noted_more g inside all place (answers false) outside part begins_later.later_false;
            first_noted = faults_more g inside all place first part begins_later.first_noted;
            later_noted = faults_more g inside all place round.later part begins_later.later_noted;
            first_before = round.first_before;
            separator = λ k b. round.separates pins d all k b stand part;
            body_leads = λ b. round.body pins d all b stand part;
            again = again;
            first_after = joined.first_after;
            later_after = joined.later_after;
          }) h guard is) n ts s here next;
    }

-- a loop, by a passage through it
pub passed_keeps : (g : Context) (states : List AbstractState) (begun : LoopStart) (place : Place) (l : Loop) (p : Passage) (noted : Noted) → BegunFrom g states begun l → Passes g states begun.counting place l p → IsPart g p.inside noted → BegunIn g noted place states →
    ((h : Bindings) (started : Guard) → IsGuard g (guard_tree (out-Loop l).guard) begun.counting.turns h started → NotedIn g noted place goes_on states) → StepKeeps g states p.after.items noted (loop_at place l)
passed_keeps g states begun place l p noted starts passes part begins_noted gone pins d all h stand within =
    let kept : IsPart g p.inside all = part_trans g p.inside noted all part within in
    beside_command d (noted_in g all) g pins states p.after.items (loop_at place l) (λ name. SparesLoop name l) (λ name. Spares name (loop_at place l)) h (λ name spared. (spared.0, (spared.1, spared.2)))
    (λ b. loop_starts g states p.after.items place l begun.counting pins d all b
    (record {
      stand = stand;
      starts = starts.starts;
      begun = begun_more g noted all place states within begins_noted;
      gone = λ k started is. noted_more g noted all place goes_on states within (gone k started is);
      start_noted = faults_more g p.inside all place begun.counting.turns.faults kept passes.start_noted;
    })
    (λ k by is. passes.turns starts.counted pins d all k by stand kept is))

-- the begin of a turn, with more notes
pub begins_more : (g : Context) (candidate : List AbstractState) (counting : Counting) (first_inside first_outside : List AbstractState) (first : Faults) (inside outside : List AbstractState) (later : Faults) (old new : Noted) (place : Place) (l : Loop) → IsPart g old new →
    BeginsLater g candidate counting first_inside first_outside first inside outside later old place l → BeginsLater g candidate counting first_inside first_outside first inside outside later new place l
begins_more g candidate counting first_inside first_outside first inside outside later old new place l part begun = record {
  enters = begun.enters;
  ended = found_more g old new place moments.TurnEnded candidate part begun.ended;
  start_noted = faults_more g old new place counting.turns.faults part begun.start_noted;
  first_noted = faults_more g old new place first part begun.first_noted;
  later_noted = faults_more g old new place later part begun.later_noted;
  first_true = noted_more g old new place (answers true) first_inside part begun.first_true;
  first_false = noted_more g old new place (answers false) first_outside part begun.first_false;
  later_true = noted_more g old new place (answers true) inside part begun.later_true;
  later_false = noted_more g old new place (answers false) outside part begun.later_false;
}

-- one of two passages
pub one_passes : (one : Passage) (other : Option Passage) (p : Passage) (P : Passage → Type 0) → IsOneOf one other p → P one → IfSome other P → P p
one_passes one other p P (inl is) first second = subst P (sym is) first
one_passes one other p P (inr is) first second = subst (λ o. IfSome o P) is second

-- what was found, or none
pub same_or_none : (found answer : Result (Option Passage) Stop) (P : Passage → Type 0) → IsSameOrNone found answer → IfOk found (λ a. IfSome a P) → IfOk answer (λ a. IfSome a P)
same_or_none found answer P (inl is) so = subst (λ r. IfOk r (λ a. IfSome a P)) (sym is) so
same_or_none found answer P (inr is) so = subst (λ r. IfOk r (λ a. IfSome a P)) (sym is) tt

-- a passage, if there is one, once the loop has begun
pub begun_passes : (g : Context) (states : List AbstractState) (begun : LoopStart) (place : Place) (l : Loop) (o : Option Passage) → BegunFrom g states begun l → IfSome o (λ p. PassesOnceBegun g begun place l p) → IfSome o (λ p. Passes g states begun.counting place l p)
begun_passes g states begun place l None starts so = tt
begun_passes g states begun place l (Some p) starts so = so states starts

-- the later of two passages
pub later_passes : (one other later : Option Passage) (P : Passage → Type 0) → IsEither one other later → IfSome one P → IfSome other P → IfSome later P
later_passes one other later P (inl is) first second = subst (λ o. IfSome o P) (sym is) first
later_passes one other later P (inr is) first second = subst (λ o. IfSome o P) (sym is) second
