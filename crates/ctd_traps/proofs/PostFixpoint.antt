-- A candidate that is inductive is kept by the loop.
use Rattle.ctd_traps.proofs.Common.{AbstractState, AreCounted, Bindings, Candidate, Context, Counting, Events, GoesOn, HasNumber, Holds, HoldsBeside, InTurn, IsPostFixpoint}
use Rattle.ctd_traps.proofs.Common.{IsSpared, Leads, List, None, Option, PartitionIsWithin, Safe, Some, SparesBetween, SparesEach, SparesLoop, SparesTurns, Splits, Task, TestData, Unchanged, VarTree, Variables}
use Rattle.ctd_traps.proofs.Common.{arith, boxed_separator, boxed_target, command_list, finds, out-Loop, separator_before, suc, take_turn, turn, zero, ℕ, ◌∙◌, ◌∷◌, ◌≡◌, ◌≤◌}
use Rattle.ctd_program.specs.Tree
use Rattle.ctd_program.specs.declared.tree.Loop.{Loop}
use Rattle.ctd_command.specs.State.{State}
use Rattle.ctd_check.specs.Loops.{Loop as Started}
use Rattle.ctd_traps.proofs.Framing.{fewer_same, framed_leads, then_same}
use Rattle.ctd_traps.proofs.Holding.{tells_holds}
use Rattle.ctd_traps.proofs.Leading.{loop_leads, none_leads, weaker_leads}
use Rattle.ctd_traps.specs.declared.joined.Moment.TheVariants as moments

-- the states of turn 0, or of a later turn
abbrev by_turn : List AbstractState → List AbstractState → ℕ → List AbstractState
by_turn first later zero = first
by_turn first later (suc k) = later

-- a counter that is left alone still has its number
number_kept : (counter : Option VarTree) (l : Loop) (T : List ℕ → Type 0) (k : ℕ) (a b : Bindings) → ((name : List ℕ) → SparesTurns name l → T name) → IsSpared counter l → Unchanged T a b → HasNumber counter k a → HasNumber counter k b
number_kept None l T k a b fewer spared same has = has
number_kept (Some v) l T k a b fewer spared same has = same v.name (fewer v.name spared) ∙ has

-- what is done in a turn and leaves the names alone that the turns spare
pub in_turn_kept : (g : Context) (pins : Variables) (l : Loop) (counting : Counting) (loop : Started) (h : Bindings) (states others : List AbstractState) (T : List ℕ → Type 0) (k n m : ℕ) (s t : State) → AreCounted g l counting → ((name : List ℕ) → SparesTurns name l → T name) →
    m ≤ n → InTurn g pins l counting loop h states (suc k) n s → Holds g pins others m t → Unchanged T s.store t.store → InTurn g pins l counting loop h others (suc k) m t
in_turn_kept g pins l counting loop h states others T k n m s t counted fewer less here holds same = record {
  paid = let paid = here.paid in omega (arith, less, paid);
  holds = holds;
  same = then_same (λ name. SparesLoop name l) h s.store t.store here.same (fewer_same T (λ name. SparesLoop name l) s.store t.store (λ name spared. fewer name spared.1) same);
  behind = λ is_name is_kept. number_kept (boxed_target (out-Loop l).counter) l T k s.store t.store fewer (counted.is_kept is_kept) same (here.behind is_name is_kept);
  turns = here.turns;
}

pub in_turn_tells : (g : Context) (pins : Variables) (l : Loop) (counting : Counting) (loop : Started) (h : Bindings) (states others : List AbstractState) (k n : ℕ) (s : State) → PartitionIsWithin g states others → InTurn g pins l counting loop h states k n s → InTurn g pins l counting loop h others k n s
in_turn_tells g pins l counting loop h states others k n s tells here = record { paid = here.paid; holds = tells_holds g pins states others tells n s here.holds; same = here.same; behind = here.behind; turns = here.turns }

begins_turn : (d : TestData) (g : Context) (pins : Variables) (events : Events) (l : Loop) (counting : Counting) (loop : Started) (h : Bindings) (c : Candidate) → IsPostFixpoint d g pins events l counting loop h c → (k n : ℕ) (s : State) → InTurn g pins l counting loop h (by_turn c.first c.later k) k (suc n) s
    → Splits events loop.place (InTurn g pins l counting loop h (by_turn c.first_inside c.later_inside k) (suc k) n) (HoldsBeside g pins c.after (λ name. SparesLoop name l) h n) (take_turn loop k d s)
begins_turn d g pins events l counting loop h c keeps zero n s here = keeps.first_begin n s here
begins_turn d g pins events l counting loop h c keeps (suc k) n s here = keeps.later_begin k n s here

separates : (d : TestData) (g : Context) (pins : Variables) (events : Events) (l : Loop) (counting : Counting) (loop : Started) (h : Bindings) (c : Candidate) → IsPostFixpoint d g pins events l counting loop h c → (k : ℕ) →
    Leads d events (InTurn g pins l counting loop h (by_turn c.first_inside c.later_inside k) (suc k)) (separator_before k loop.between) (InTurn g pins l counting loop h c.before_body (suc k))
separates d g pins events l counting loop h c keeps zero =
    weaker_leads d events (InTurn g pins l counting loop h c.first_inside 1) (InTurn g pins l counting loop h c.first_inside 1) (InTurn g pins l counting loop h c.before_body 1) Tree.done
    (λ n s here. in_turn_tells g pins l counting loop h c.first_inside c.before_body 1 n s keeps.first_body here) (none_leads d events (InTurn g pins l counting loop h c.first_inside 1))
separates d g pins events l counting loop h c keeps (suc k) =
    framed_leads d events (separator_before (suc k) loop.between) (Holds g pins c.later_inside) (Holds g pins c.before_body) (InTurn g pins l counting loop h c.later_inside (suc (suc k))) (InTurn g pins l counting loop h c.before_body (suc (suc k)))
    (λ name. SparesBetween name (boxed_separator (out-Loop l).between)) (keeps.separator k) (λ n s here. here.holds)
    (λ n m s t less here end same. in_turn_kept g pins l counting loop h c.later_inside c.before_body (λ name. SparesBetween name (boxed_separator (out-Loop l).between)) (suc k) n m s t keeps.counted (λ name spared. spared.0) less here end same)

goes_round : (d : TestData) (g : Context) (pins : Variables) (events : Events) (l : Loop) (counting : Counting) (loop : Started) (h : Bindings) (c : Candidate) → IsPostFixpoint d g pins events l counting loop h c → (k : ℕ) →
    Leads d events (InTurn g pins l counting loop h c.before_body (suc k)) loop.body (InTurn g pins l counting loop h (by_turn c.first c.later (suc k)) (suc k))
goes_round d g pins events l counting loop h c keeps k =
    framed_leads d events loop.body (Holds g pins c.before_body) (Holds g pins c.after_body) (InTurn g pins l counting loop h c.before_body (suc k)) (InTurn g pins l counting loop h c.later (suc k))
    (λ name. SparesEach name (command_list (out-Loop l).body)) keeps.body (λ n s here. here.holds)
    (λ n m s t less here end same. in_turn_kept g pins l counting loop h c.before_body c.later (λ name. SparesEach name (command_list (out-Loop l).body)) k n m s t keeps.counted (λ name spared. spared.1) less here
    (tells_holds g pins c.after_body c.later keeps.again m t end) same)

ended_turn : (d : TestData) (g : Context) (pins : Variables) (events : Events) (l : Loop) (counting : Counting) (loop : Started) (h : Bindings) (c : Candidate) → IsPostFixpoint d g pins events l counting loop h c → (k j n : ℕ) (s : State) → k ≡ suc j →
    InTurn g pins l counting loop h (by_turn c.first c.later k) k (suc n) s → events loop.place (finds moments.TurnEnded s.store)
ended_turn d g pins events l counting loop h c keeps zero j n s is here = absurd (omega (arith, is))
ended_turn d g pins events l counting loop h c keeps (suc k) j n s is here = keeps.ended (suc n) s here.holds

-- then the loop keeps it, from its begin to its end
pub post_fixpoints_lead : (d : TestData) (g : Context) (pins : Variables) (events : Events) (l : Loop) (counting : Counting) (loop : Started) (h : Bindings) (c : Candidate) → IsPostFixpoint d g pins events l counting loop h c →
    (n : ℕ) (ts : List Task) (s : State) → InTurn g pins l counting loop h c.first 0 n s → GoesOn d events n (HoldsBeside g pins c.after (λ name. SparesLoop name l) h) ts → Safe d events n (turn loop 0 ∷ ts) s
post_fixpoints_lead d g pins events l counting loop h c keeps n ts s here next =
    loop_leads d events loop (λ k. InTurn g pins l counting loop h (by_turn c.first c.later k) k) (λ k. InTurn g pins l counting loop h (by_turn c.first_inside c.later_inside k) (suc k)) (λ k. InTurn g pins l counting loop h c.before_body (suc k))
    (HoldsBeside g pins c.after (λ name. SparesLoop name l) h)
    (λ k. record { ended = ended_turn d g pins events l counting loop h c keeps k; begin = begins_turn d g pins events l counting loop h c keeps k; separator = separates d g pins events l counting loop h c keeps k; body = goes_round d g pins events l counting loop h c keeps k }) 0 n ts s here next
