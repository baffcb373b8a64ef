-- Turns of a loop that are taken one by one.
use Rattle.ctd_traps.proofs.Common.{AbstractState, AreCounted, AreNoted, BeginsAt, Bindings, Context, Counting, Faults, Guard, Holds, HoldsBeside, InTurn, IsGuard, IsPart, List, Noted, PartitionIsWithin}
use Rattle.ctd_traps.proofs.Common.{Passage, Passes, PinsStand, Place, SeparatesAt, Separator, SeparatorKeeps, SparesBetween, SparesEach, SparesLoop, TestData, TurnKeeps, TurnLeads, TurnsKeep, Variables, [], answers, arith, boxed_separator, command_list, false}
use Rattle.ctd_traps.proofs.Common.{length, noted_in, out-Loop, pins_in, refl, separator_before, started_of, subst, suc, sym, true, guard_tree, zero, ℕ, ◌∷◌, ◌+◌, ◌≡◌}
use Rattle.ctd_program.specs.declared.tree.Loop.{Loop}
use Rattle.ctd_check.specs.Loops.{Loop as Started}
use Rattle.ctd_traps.specs.declared.turn.Phase.TheVariants as phases
use Rattle.ctd_traps.proofs.Framing.{framed_leads}
use Rattle.ctd_traps.proofs.Leading.{fewer_go_on, turn_leads}
use Rattle.ctd_traps.proofs.Looping.{begins_so}
use Rattle.ctd_traps.proofs.Noting.{faults_more, found_more, noted_more, part_refl, part_trans}
use Rattle.ctd_traps.proofs.PostFixpoint.{in_turn_kept, in_turn_tells}
use Rattle.ctd_traps.specs.declared.joined.Moment.TheVariants as moments

-- the parts of one turn
one_turn : (g : Context) (states last : List AbstractState) (counting : Counting) (outside end : List AbstractState) (noted all : Noted) (place : Place) (l : Loop) (k : ℕ) → AreCounted g l counting → (turn : TurnKeeps g states counting outside end noted place l k) →
    PartitionIsWithin g outside last → IsPart g noted all → (pins : Variables) (d : TestData) (h : Bindings) (guard : Guard) → PinsStand (pins_in g) pins → IsGuard g (guard_tree (out-Loop l).guard) counting.turns h guard →
    TurnLeads d (noted_in g all) (started_of place l guard) k (InTurn g pins l counting (started_of place l guard) h states k) (InTurn g pins l counting (started_of place l guard) h turn.inside (suc k)) (InTurn g pins l counting (started_of place l guard) h turn.before (suc k))
    (InTurn g pins l counting (started_of place l guard) h end (suc k)) (HoldsBeside g pins last (λ name. SparesLoop name l) h)
one_turn g states last counting outside end noted all place l k counted turn tells part pins d h guard stand is =
    let loop : Started = started_of place l guard in
    let between : List ℕ → Type 0 = λ name. SparesBetween name (boxed_separator (out-Loop l).between) in
    let each : List ℕ → Type 0 = λ name. SparesEach name (command_list (out-Loop l).body) in
    record {
      ended = λ j n s is here. found_more g noted all place moments.TurnEnded states part (turn.begun.ended j is) (suc n) s.store here.holds.one;
      begin = λ n s here. begins_so g l counting place (phases.At k) states turn.inside outside last turn.faults all
          (record {
            counted = counted;
            enters = turn.begun.enters counted;
            tells = tells;
            if_true = noted_more g noted all place (answers true) turn.inside part turn.begun.if_true;
            if_false = noted_more g noted all place (answers false) outside part turn.begun.if_false;
            faults = faults_more g noted all place turn.faults part turn.begun.faults;
          }) pins d h guard k n s stand is refl here;
      separator = framed_leads d (noted_in g all) (separator_before k loop.between) (Holds g pins turn.inside) (Holds g pins turn.before) (InTurn g pins l counting loop h turn.inside (suc k)) (InTurn g pins l counting loop h turn.before (suc k)) between
          (λ b. turn.separates pins d all b stand part) (λ n s here. here.holds)
          (λ n m s t less here end same. in_turn_kept g pins l counting loop h turn.inside turn.before between k n m s t counted (λ name spared. spared.0) less here end same);
      body = framed_leads d (noted_in g all) loop.body (Holds g pins turn.before) (Holds g pins end) (InTurn g pins l counting loop h turn.before (suc k)) (InTurn g pins l counting loop h end (suc k)) each
          (λ b. turn.body pins d all b stand part) (λ n s here. here.holds)
          (λ n m s t less here done same. in_turn_kept g pins l counting loop h turn.before end each k n m s t counted (λ name spared. spared.1) less here done same);
    }

-- the turns from one on lead to where those from the next one on lead, and to the states leaving the loop there
pub turn_keeps : (g : Context) (states last : List AbstractState) (counting : Counting) (outside end : List AbstractState) (noted more : Noted) (place : Place) (l : Loop) (k : ℕ) → AreCounted g l counting → TurnKeeps g states counting outside end noted place l k →
    PartitionIsWithin g outside last → IsPart g noted more → TurnsKeep g end last more place l counting (suc k) → TurnsKeep g states last more place l counting k
turn_keeps g states last counting outside end noted more place l k counted turn tells part later pins d all h guard stand within is n ts s here next =
    let loop : Started = started_of place l guard in
    let S : List ℕ → Type 0 = λ name. SparesLoop name l in
    turn_leads d (noted_in g all) loop k (InTurn g pins l counting loop h states k) (InTurn g pins l counting loop h turn.inside (suc k)) (InTurn g pins l counting loop h turn.before (suc k)) (InTurn g pins l counting loop h end (suc k)) (HoldsBeside g pins last S h)
    (one_turn g states last counting outside end noted all place l k counted turn tells (part_trans g noted more all part within) pins d h guard stand is) n ts s
    (λ m one j t few again. later pins d all h guard stand within is j ts t again (fewer_go_on d (noted_in g all) n j (HoldsBeside g pins last S h) ts (omega (arith, few, one)) next)) here next

-- more notes
pub begins_at_more : (g : Context) (states : List AbstractState) (counting : Counting) (inside outside : List AbstractState) (f : Faults) (old new : Noted) (place : Place) (l : Loop) (k : ℕ) → IsPart g old new → BeginsAt g states counting inside outside f old place l k → BeginsAt g states counting inside outside f new place l k
begins_at_more g states counting inside outside f old new place l k part begun = record {
  ended = λ j is. found_more g old new place moments.TurnEnded states part (begun.ended j is);
  enters = begun.enters;
  if_true = noted_more g old new place (answers true) inside part begun.if_true;
  if_false = noted_more g old new place (answers false) outside part begun.if_false;
  faults = faults_more g old new place f part begun.faults;
}

pub separates_more : (g : Context) (states after : List AbstractState) (old new : Noted) (k : ℕ) (sep : Separator) → IsPart g old new → SeparatesAt g states after old k sep → SeparatesAt g states after new k sep
separates_more g states after old new k sep part separates pins d all h stand within = separates pins d all h stand (part_trans g old new all part within)

-- the separator of a later turn
pub separates_later : (g : Context) (states after : List AbstractState) (noted : Noted) (k : ℕ) (sep : Separator) → (k ≡ 0 → ⊥) → SeparatorKeeps g states after noted sep → SeparatesAt g states after noted k sep
separates_later g states after noted zero sep later keeps = absurd (later refl)
separates_later g states after noted (suc k) sep later keeps = λ pins d all h stand part. keeps pins d all k h stand part

-- a list without elements
pub nothing_left : (states : List AbstractState) → length states ≡ 0 → states ≡ []
nothing_left [] none = refl
nothing_left (x ∷ xs) none = absurd (omega (arith, none))

-- no turn begins where there is no state
no_turns : (g : Context) (last : List AbstractState) (noted : Noted) (place : Place) (l : Loop) (counting : Counting) (k : ℕ) → TurnsKeep g [] last noted place l counting k
no_turns g last noted place l counting k pins d all h guard stand within is n ts s here next = absurd here.holds.one

-- turns one by one: if those from the next one on lead to some states, in which those are that left the loop before, all do
abbrev pub UnrollLeads : Context → (states before after : List AbstractState) → Noted → Place → Loop → Counting → ℕ → Type 0
UnrollLeads g states before after noted place l counting k = AreCounted g l counting → (last : List AbstractState) (more : Noted) → PartitionIsWithin g after last → IsPart g noted more → TurnsKeep g before last more place l counting k → TurnsKeep g states last more place l counting 0

pub unroll_starts : (g : Context) (states before after : List AbstractState) (noted : Noted) (place : Place) (l : Loop) (counting : Counting) → PartitionIsWithin g states before → UnrollLeads g states before after noted place l counting 0
unroll_starts g states before after noted place l counting tells counted last more within part keeps pins d all h guard stand parts is n ts s here =
    keeps pins d all h guard stand parts is n ts s (in_turn_tells g pins l counting (started_of place l guard) h states before 0 n s tells here)

pub unroll_goes_on : (g : Context) (states before after outside end wider : List AbstractState) (old new : Noted) (place : Place) (l : Loop) (counting : Counting) (k : ℕ) → TurnKeeps g before counting outside end new place l k → IsPart g old new → PartitionIsWithin g after wider → PartitionIsWithin g outside wider →
    UnrollLeads g states before after old place l counting k → UnrollLeads g states end wider new place l counting (k + 1)
unroll_goes_on g states before after outside end wider old new place l counting k turn parts more_after outside_after leads counted last more within part keeps =
    leads counted last more (λ n h one. within n h (more_after n h one)) (part_trans g old new more parts part)
    (turn_keeps g before last counting outside end new more place l k counted turn (λ n h one. within n h (outside_after n h one)) part (subst (TurnsKeep g end last more place l counting) (omega arith) keeps))

pub unroll_ends : (g : Context) (states before : List AbstractState) (place : Place) (l : Loop) (counting : Counting) (k : ℕ) (p : Passage) → before ≡ [] → AreNoted p.inside place counting.turns.faults → UnrollLeads g states before p.after.items p.inside place l counting k → Passes g states counting place l p
unroll_ends g states before place l counting k p none start leads = record {
  start_noted = start;
  turns = λ counted. leads counted p.after.items p.inside (λ n h one. one) (part_refl g p.inside) (subst (λ b. TurnsKeep g b p.after.items p.inside place l counting k) (sym none) (no_turns g p.after.items p.inside place l counting k));
}
