-- How a loop starts, how its turns begin, and what it keeps.
use Rattle.ctd_traps.proofs.Common.{AbstractState, AreCounted, AreNoted, BegunIn, Bindings, Bool, CommandLeads, Context, Counting, Effect, Enters, Faults, Fits, FoundIn, GoesOn, Guard, GuardTree, HasNumber}
use Rattle.ctd_traps.proofs.Common.{HasTurns, Holds, HoldsBeside, InTurn, IsFreeName, IsGuard, IsPostFixpoint, IsTurn, Lasts, Leads, Leaves, List, Noted, NotedIn, PartitionIsWithin, Phase}
use Rattle.ctd_traps.proofs.Common.{PinsStand, Place, Safe, SparesBetween, SparesEach, SparesLoop, SparesTarget, Splits, StartsIn, Task, TestData, Turns, Unchanged, Variables, answers}
use Rattle.ctd_traps.proofs.Common.{arith, boxed_separator, boxed_target, command_list, done, false, faulty, guard_of, guard_tree, ints, keep, loop_at}
use Rattle.ctd_traps.proofs.Common.{nat_lt, nat_tests, noted_in, out-Loop, pins_in, pos, proceed, refl, rejected, separator_before, started_of, subst, suc, sym, take_turn, times, true, turn, while_true}
use Rattle.ctd_traps.proofs.Common.{ℕ, ◌+◌, ◌<◌, ◌^◌, ◌∷◌, ◌≡◌}
use Rattle.ctd_program.specs.Tree
use Rattle.ctd_program.specs.declared.tree.Loop.{Loop}
use Rattle.ctd_check.specs.Loops.{Loop as Started, goes_on}
use Rattle.ctd_command.specs.State.{State}
use Rattle.ctd_store.specs.declared.value.Value.TheVariants as values
use Rattle.ctd_traps.specs.calls.Events as happenings
use Rattle.ctd_traps.specs.declared.turn.Phase.TheVariants as phases
use Rattle.ctd_traps.proofs.Framing.{fewer_same, same_names, splits_more, then_same}
use Rattle.ctd_traps.proofs.Holding.{answer_same, holds_fewer, splits_noted, tells_holds}
use Rattle.ctd_traps.proofs.Leading.{StartsSafe, start_leads}
use Rattle.ctd_traps.proofs.Noting.{begins_by}
use Rattle.ctd_traps.proofs.Sparing.{turn_spares}
use Rattle.ctd_traps.proofs.Turning.{number_given}
use Rattle.ctd_traps.specs.declared.joined.Moment.TheVariants as moments

-- an act that was done after another
record Came {A B : Type 0} (a : Effect A) (next : A → State → Effect B) (y : B) (t : State) : Type 0 where
  answer : A
  middle : State
  first : a ≡ done answer middle
  second : next answer middle ≡ done y t

came : {A B : Type 0} (a : Effect A) (next : A → State → Effect B) (y : B) (t : State) → proceed a next ≡ done y t → Came a next y t
came (done x u) next y t is = record { answer = x; middle = u; first = refl; second = is }
came (rejected reason consumed) next y t is = absurd (cc)
came (faulty fault consumed) next y t is = absurd (cc)

-- what is known of the number of turns lasts
guard_lasts : (g : Context) (of : GuardTree) (turns : Turns) (l : Loop) (h after : Bindings) (started : Guard) → Lasts g turns l → Unchanged (λ name. SparesLoop name l) h after → IsGuard g of turns h started → IsGuard g of turns after started
guard_lasts g (Tree.turns e) turns l h after (times m) lasts same is = (is.0, is.1, lasts h after m same is.2)
guard_lasts g (Tree.turns e) turns l h after (while_true t) lasts same is = absurd is
guard_lasts g (Tree.while t) turns l h after (times m) lasts same is = absurd is
guard_lasts g (Tree.while t) turns l h after (while_true u) lasts same is = is

-- whether a loop goes on changes no variable, and a loop that counts has the turn with which it does
going_same : (guard : Guard) (k : ℕ) (d : TestData) (u t : State) (b : Bool) → goes_on guard k d u ≡ done b t → u ≡ t
going_same (times m) k d u t b is = cc
going_same (while_true test) k d u t b is = answer_same test d u t b is

turns_left : (k m : ℕ) (u t : State) → done (nat_lt k m) u ≡ done true t → HasTurns (suc k) (times m)
turns_left k m u t is = let less : nat_lt k m ≡ true = cc in grind (arith, nat_tests, less)

more_turns : (guard : Guard) (k : ℕ) (d : TestData) (u t : State) → goes_on guard k d u ≡ done true t → HasTurns (suc k) guard
more_turns (times m) k d u t is = turns_left k m u t is
more_turns (while_true test) k d u t is = tt

has_turns : (loop : Started) (k : ℕ) (d : TestData) (s t : State) → take_turn loop k d s ≡ done true t → HasTurns (suc k) loop.guard
has_turns loop k d s t is =
    let c : Came (keep loop.counter (values.Int (pos k)) d s) (λ _ u. goes_on loop.guard k d u) true t = came (keep loop.counter (values.Int (pos k)) d s) (λ _ u. goes_on loop.guard k d u) true t is in
    more_turns loop.guard k d c.middle t c.second

-- a counter that is a name without indices, and that no preset pins, has the number of its turn
has_number : (g : Context) (loop : Started) (k : ℕ) (pins : Variables) (d : TestData) (s t : State) (b : Bool) → IsFreeName g loop.counter → PinsStand (pins_in g) pins → s.store.pins ≡ pins → take_turn loop k d s ≡ done b t → HasNumber loop.counter k t.store
has_number g loop k pins d s t b free stand pinned is =
    let c : Came (keep loop.counter (values.Int (pos k)) d s) (λ _ u. goes_on loop.guard k d u) b t = came (keep loop.counter (values.Int (pos k)) d s) (λ _ u. goes_on loop.guard k d u) b t is in
    subst (λ (u : State). HasNumber loop.counter k u.store) (going_same loop.guard k d c.middle t b c.second) (number_given g loop.counter k pins d s c.middle c.answer free stand pinned c.first)

-- the numbers of turns
pub later_in : (k n : ℕ) → suc k + suc n < 2 ^ 64 → IsTurn phases.Later n (suc k)
later_in k n less = record { low = omega (arith, ints); high = omega (arith, ints, less) }

-- what all begins of turns share
pub record TurnParts (g : Context) (l : Loop) (counting : Counting) (place : Place) (phase : Phase) (states inside outside after : List AbstractState) (f : Faults) (noted : Noted) : Type 0 where
  pub counted : AreCounted g l counting
  pub enters : Enters g states l counting phase inside outside f
  pub tells : PartitionIsWithin g outside after
  pub if_true : NotedIn g noted place (answers true) inside
  pub if_false : NotedIn g noted place (answers false) outside
  pub faults : AreNoted noted place f

-- a turn begins where one more step was left
pub begins_so : (g : Context) (l : Loop) (counting : Counting) (place : Place) (phase : Phase) (states inside outside after : List AbstractState) (f : Faults) (noted : Noted) → TurnParts g l counting place phase states inside outside after f noted → (pins : Variables) (d : TestData) (h : Bindings) (guard : Guard) (k n : ℕ) (s : State) →
    PinsStand (pins_in g) pins → IsGuard g (guard_tree (out-Loop l).guard) counting.turns h guard → IsTurn phase n k → InTurn g pins l counting (started_of place l guard) h states k (suc n) s →
    Splits (noted_in g noted) place (InTurn g pins l counting (started_of place l guard) h inside (suc k) n) (HoldsBeside g pins after (λ name. SparesLoop name l) h n) (take_turn (started_of place l guard) k d s)
begins_so g l counting place phase states inside outside after f noted p pins d h guard k n s stand is number here =
    let loop : Started = started_of place l guard in
    let S : List ℕ → Type 0 = λ name. SparesLoop name l in
    let paid : k + suc n < 2 ^ 64 = here.paid in
    let less : n < 2 ^ 64 = omega (arith, paid) in
    let now : IsGuard g (guard_tree (out-Loop l).guard) counting.turns s.store guard = guard_lasts g (guard_tree (out-Loop l).guard) counting.turns l h s.store guard p.counted.lasts here.same is in
    let same : (b : Bool) (t : State) → take_turn loop k d s ≡ done b t → Unchanged S h t.store = λ b t eq. then_same S h s.store t.store here.same (fewer_same (λ name. SparesTarget name loop.counter) S s.store t.store (λ name spared. spared.0) (turn_spares loop k d s t b eq)) in
    splits_more (noted_in g noted) place (Holds g pins inside n) (Holds g pins outside n) (InTurn g pins l counting loop h inside (suc k) n) (HoldsBeside g pins after S h n) (take_turn loop k d s)
    (λ t eq holds. record {
      paid = omega (arith, paid);
      holds = holds;
      same = same true t eq;
      behind = λ is_name is_kept. has_number g loop k pins d s t true (p.counted.is_name is_name) stand here.holds.pinned eq;
      turns = has_turns loop k d s t eq;
    })
    (λ t eq holds. (tells_holds g pins outside after p.tells n t holds, same false t eq))
    (splits_noted g noted place f pins inside outside n (take_turn loop k d s) less p.if_true p.if_false p.faults
    (p.enters pins d k n s loop now refl number here.behind here.turns stand (here.holds.pinned, here.holds.one)))

-- a loop with a candidate that is inductive
pub record LoopParts (g : Context) (states candidate first_inside first_outside later_inside later_outside before end after : List AbstractState) (place : Place) (l : Loop) (counting : Counting) (first later : Faults) (pins : Variables) (d : TestData) (noted : Noted) : Type 0 where
  pub stand : PinsStand (pins_in g) pins
  pub counted : AreCounted g l counting
  pub first_enters : Enters g states l counting (phases.At 0) first_inside first_outside first
  pub later_enters : Enters g candidate l counting phases.Later later_inside later_outside later
  pub ended : FoundIn g noted place moments.TurnEnded candidate
  pub first_true : NotedIn g noted place (answers true) first_inside
  pub first_false : NotedIn g noted place (answers false) first_outside
  pub later_true : NotedIn g noted place (answers true) later_inside
  pub later_false : NotedIn g noted place (answers false) later_outside
  pub first_noted : AreNoted noted place first
  pub later_noted : AreNoted noted place later
  pub first_before : PartitionIsWithin g first_inside before
  pub separator : (k : ℕ) (h : Bindings) → Leads d (noted_in g noted) (HoldsBeside g pins later_inside (λ name. SparesBetween name (boxed_separator (out-Loop l).between)) h) (separator_before (suc k) (boxed_separator (out-Loop l).between)) (HoldsBeside g pins before (λ name. SparesBetween name (boxed_separator (out-Loop l).between)) h)
  pub body_leads : (h : Bindings) → Leads d (noted_in g noted) (HoldsBeside g pins before (λ name. SparesEach name (command_list (out-Loop l).body)) h) (command_list (out-Loop l).body) (HoldsBeside g pins end (λ name. SparesEach name (command_list (out-Loop l).body)) h)
  pub again : PartitionIsWithin g end candidate
  pub first_after : PartitionIsWithin g first_outside after
  pub later_after : PartitionIsWithin g later_outside after

pub is_post_fixpoint : {g : Context} {states candidate first_inside first_outside later_inside later_outside before end after : List AbstractState} {place : Place} {l : Loop} {counting : Counting} {first later : Faults} {pins : Variables} {d : TestData} {noted : Noted} →
    LoopParts g states candidate first_inside first_outside later_inside later_outside before end after place l counting first later pins d noted → (h : Bindings) (guard : Guard) → IsGuard g (guard_tree (out-Loop l).guard) counting.turns h guard →
    IsPostFixpoint d g pins (noted_in g noted) l counting (started_of place l guard) h (record { first = states; later = candidate; first_inside = first_inside; later_inside = later_inside; before_body = before; after_body = end; after = after })
is_post_fixpoint {g} {states} {candidate} {first_inside} {first_outside} {later_inside} {later_outside} {before} {end} {after} {place} {l} {counting} {first} {later} {pins} {d} {noted} p h guard is = record {
  counted = p.counted;
  ended = λ n s here. p.ended n s.store here.one;
  first_begin = λ n s here. begins_so g l counting place (phases.At 0) states first_inside first_outside after first noted
      (record { counted = p.counted; enters = p.first_enters; tells = p.first_after; if_true = p.first_true; if_false = p.first_false; faults = p.first_noted }) pins d h guard 0 n s p.stand is refl here;
  later_begin = λ k n s here. begins_so g l counting place phases.Later candidate later_inside later_outside after later noted
      (record { counted = p.counted; enters = p.later_enters; tells = p.later_after; if_true = p.later_true; if_false = p.later_false; faults = p.later_noted }) pins d h guard (suc k) n s p.stand is (later_in k n here.paid) here;
  first_body = p.first_before;
  separator = p.separator;
  body = p.body_leads;
  again = p.again;
}

-- how the start of a loop ends
start_leaves : (g : Context) (noted : Noted) (place : Place) (guard : GuardTree) (turns : Turns) (P : Guard → State → Type 0) (s : State) (a : Effect Guard) → AreNoted noted place turns.faults → ((started : Guard) → IsGuard g guard turns s.store started → P started s) →
    Fits turns.faults (λ started t. IsGuard g guard turns s.store started × (t ≡ s)) a → Leaves (noted_in g noted) place P a
start_leaves g noted place guard turns P s (done started t) faults go fits = subst (P started) (sym fits.1) (go started fits.0)
start_leaves g noted place guard turns P s (rejected reason consumed) faults go fits = tt
start_leaves g noted place guard turns P s (faulty fault consumed) faults go fits = λ of_value. faults g fault of_value fits

-- a loop has no turn to begin with
no_turn : (guard : Guard) → HasTurns 0 guard
no_turn (times m) = omega arith
no_turn (while_true t) = tt

at_first : (g : Context) (pins : Variables) (l : Loop) (counting : Counting) (loop : Started) (states : List AbstractState) (n : ℕ) (s : State) → Holds g pins states n s → InTurn g pins l counting loop s.store states 0 n s
at_first g pins l counting loop states n s here = record {
  paid = let steps = here.steps in omega (arith, steps);
  holds = here;
  same = same_names (λ name. SparesLoop name l) s.store;
  behind = tt;
  turns = no_turn loop.guard;
}

-- how a loop starts, of which all is noted
pub record StartParts (g : Context) (states : List AbstractState) (place : Place) (l : Loop) (counting : Counting) (pins : Variables) (noted : Noted) : Type 0 where
  pub stand : PinsStand (pins_in g) pins
  pub starts : StartsIn g states (guard_tree (out-Loop l).guard) counting.turns
  pub begun : BegunIn g noted place states
  pub gone : (h : Bindings) (started : Guard) → IsGuard g (guard_tree (out-Loop l).guard) counting.turns h started → NotedIn g noted place happenings.goes_on states
  pub start_noted : AreNoted noted place counting.turns.faults

-- a loop leads to where its turns lead
pub loop_starts : (g : Context) (states after : List AbstractState) (place : Place) (l : Loop) (counting : Counting) (pins : Variables) (d : TestData) (noted : Noted) (h : Bindings) → StartParts g states place l counting pins noted →
    ((b : Bindings) (by : Guard) → IsGuard g (guard_tree (out-Loop l).guard) counting.turns b by → (n : ℕ) (ts : List Task) (s : State) → InTurn g pins l counting (started_of place l by) b states 0 n s →
    GoesOn d (noted_in g noted) n (HoldsBeside g pins after (λ name. SparesLoop name l) b) ts → Safe d (noted_in g noted) n (turn (started_of place l by) 0 ∷ ts) s) →
    CommandLeads d (noted_in g noted) (HoldsBeside g pins states (λ name. SparesLoop name l) h) (loop_at place l) (HoldsBeside g pins after (λ name. SparesLoop name l) h)
loop_starts g states after place l counting pins d noted h p turns =
    let S : List ℕ → Type 0 = λ name. SparesLoop name l in
    start_leads d (noted_in g noted) place (guard_tree (out-Loop l).guard) (boxed_target (out-Loop l).counter) (boxed_separator (out-Loop l).between) (command_list (out-Loop l).body) (HoldsBeside g pins states S h) (HoldsBeside g pins after S h)
    (λ n s here. begins_by g noted place states (suc n) s p.begun here.0.one)
    (λ n s here. let held : Holds g pins states n s = holds_fewer g pins states n s here.0 in
    start_leaves g noted place (guard_tree (out-Loop l).guard) counting.turns (λ started t. StartsSafe d (noted_in g noted) place n (HoldsBeside g pins after S h) (started_of place l started) t) s (guard_of (guard_tree (out-Loop l).guard) d s) p.start_noted
    (λ by is. record {
      gone = p.gone s.store by is n s.store held.one;
      safe = λ ts next. turns s.store by is n ts s (at_first g pins l counting (started_of place l by) states n s held)
          (λ m t less behind. next m t less (behind.0, then_same S h s.store t.store here.1 behind.1));
    })
    (p.starts d n s held.one))
