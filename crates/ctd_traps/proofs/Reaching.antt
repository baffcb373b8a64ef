-- From what commands lead to, to the events of a run and its traps; and that the relation of events is the run.
use Rattle.ctd_traps.proofs.Common.{Accepted, At, Before, Comes, ComesAsItRuns, CommandList, Contains, EachEndIsReached, Effect, EndsAt, Event, Events, Fault, Happens, HasEachEvent, HasEachTrap, IsAt}
use Rattle.ctd_traps.proofs.Common.{IsOfValue, Leads, List, Mode, Outcome, Place, PlacedFault, Preset, RunResult, Safe, Site, Spot, Start, StepLimit, Stopped, Task, TestData, [], all_done, ap}
use Rattle.ctd_traps.proofs.Common.{at_once, at_start, by_step, done, end, end_finds, fails, faulty, finds, finish, first_skip, perform, place_of, proceed, program_end, refl, rejected, resume, run, run_from, site_of, start}
use Rattle.ctd_traps.proofs.Common.{stopped, subst, suc, sym, task_fails, tasks, turn, with_steps, zero, ℕ, ⊤, ◌++◌, ◌<◌, ◌^◌, ◌∙◌, ◌∷◌, ◌≡◌}
use Rattle.ctd_command.specs.State.{State}
use Rattle.ctd_traps.proofs.Leading.{safe_at_end}
use Rattle.ctd_traps.specs.declared.joined.Moment.TheVariants as moments

-- the end of a program: variables are found there, and nothing else happens
end_is_safe : (d : TestData) (events : Events) (n : ℕ) (s : State) → events program_end (finds moments.Done s.store) → Safe d events n (finish ∷ []) s
end_is_safe d events n s found m task rest u place event (at_once) (task_fails site of_value is) = absurd (cc)
end_is_safe d events n s found m task rest u place event (at_once) (end_finds) = found
end_is_safe d events n s found m task rest u place event (by_step {n = i} {more} {t} is comes) happens =
    let none : more ≡ [] = left_none (end d s) more t is in
    safe_at_end d events i t m task rest u place event (subst (λ l. Comes d i (l ++ []) t (suc m) (task ∷ rest) u) none comes) happens
  where
    left_none : (a : Effect ⊤) (more : List Task) (t : State) → proceed a (λ _ v. done [] v) ≡ done more t → more ≡ []
    left_none (done x v) more t is = cc
    left_none (rejected reason consumed) more t is = absurd (cc)
    left_none (faulty fault consumed) more t is = absurd (cc)

-- the events of a program that its commands lead through
pub events_follow : (program : CommandList) (presets : List Preset) (events : Events) (before after : Before) →
    ((mode : Mode) (d : TestData) (n : ℕ) (s : State) → n < 2 ^ 64 → first_skip d (at_start mode presets) ≡ done tt s → before n s) →
    ((d : TestData) → Leads d events before program after) → ((n : ℕ) (s : State) → after n s → events program_end (finds moments.Done s.store)) → HasEachEvent program presets events
events_follow program presets events before after first leads ends mode d steps n s t task rest place event less skipped comes happens =
    leads d (finish ∷ []) steps s (first mode d steps s less skipped) (λ m u fewer here. end_is_safe d events m u (ends m u here)) n task rest t place event comes happens

-- a run comes to a task that fails
record ComesToFault (d : TestData) (n : ℕ) (ts : List Task) (s : State) (site : Site) (fault : Fault) : Type 0 where
  left : ℕ
  task : Task
  rest : List Task
  state : State
  consumed : ℕ
  comes : Comes d n ts s (suc left) (task ∷ rest) state
  at : site_of task ≡ site
  fails : perform task d state ≡ faulty fault consumed

one_more : (d : TestData) (n : ℕ) (task : Task) (more rest : List Task) (s t : State) (site : Site) (fault : Fault) → perform task d s ≡ done more t → ComesToFault d n (more ++ rest) t site fault → ComesToFault d (suc n) (task ∷ rest) s site fault
one_more d n task more rest s t site fault is f = record { left = f.left; task = f.task; rest = f.rest; state = f.state; consumed = f.consumed; comes = by_step is f.comes; at = f.at; fails = f.fails }

abbrev FaultsFrom : TestData → ℕ → Type 0
FaultsFrom d n = (ts : List Task) (s : State) (spot : Spot) (site : Site) (fault : Fault) (consumed left : ℕ) → IsOfValue fault → run d n ts s ≡ stopped (Stopped spot site fault) consumed left → ComesToFault d n ts s site fault

fault_by_case : (d : TestData) (n : ℕ) → FaultsFrom d n → (task : Task) (rest : List Task) (s : State) (spot : Spot) (site : Site) (fault : Fault) (consumed left : ℕ) → IsOfValue fault → (a : Effect (List Task)) → perform task d s ≡ a →
    resume d (site_of task) s.offset n a (λ more t. run d n (more ++ rest) t) ≡ stopped (Stopped spot site fault) consumed left → ComesToFault d (suc n) (task ∷ rest) s site fault
fault_by_case d n later task rest s spot site fault consumed left of_value (done more t) act is = one_more d n task more rest s t site fault act (later (more ++ rest) t spot site fault consumed left of_value is)
fault_by_case d n later task rest s spot site fault consumed left of_value (rejected reason c) act is = absurd (cc)
fault_by_case d n later task rest s spot site fault consumed left of_value (faulty other c) act is =
    let same : other ≡ fault = cc in
    record { left = n; task = task; rest = rest; state = s; consumed = c; comes = at_once; at = cc; fails = subst (λ f. perform task d s ≡ faulty f c) same act }

comes_to_fault : (d : TestData) (n : ℕ) → FaultsFrom d n
comes_to_fault d n [] s spot site fault consumed left of_value is = absurd (cc)
comes_to_fault d zero (task ∷ rest) s spot site fault consumed left of_value is = let same : fault ≡ StepLimit = cc in absurd (subst IsOfValue same of_value)
comes_to_fault d (suc n) (task ∷ rest) s spot site fault consumed left of_value is = fault_by_case d n (comes_to_fault d n) task rest s spot site fault consumed left of_value (perform task d s) refl is

-- The traps are events.
abbrev TrapFollows : List PlacedFault → (site : Site) → Fault → Type 0
TrapFollows traps site fault = (place : Place) × (site ≡ At place) × Contains traps (record { place = place; fault = fault })

abbrev outcome_of : RunResult → Outcome
outcome_of (all_done after left) = Accepted
outcome_of (stopped outcome consumed left) = outcome

outcome_is : (n : ℕ) (e : RunResult) → (with_steps n e).outcome ≡ outcome_of e
outcome_is n (all_done after left) = refl
outcome_is n (stopped outcome consumed left) = refl

-- a result with an outcome that is no acceptance
record IsStopped (e : RunResult) (o : Outcome) : Type 0 where
  consumed : ℕ
  left : ℕ
  is : e ≡ stopped o consumed left

is_stopped : (e : RunResult) (spot : Spot) (site : Site) (fault : Fault) → outcome_of e ≡ Stopped spot site fault → IsStopped e (Stopped spot site fault)
is_stopped (all_done after left) spot site fault is = absurd (cc)
is_stopped (stopped outcome consumed left) spot site fault is = record { consumed = consumed; left = left; is = ap (λ o. stopped o consumed left) is }

abbrev pub NoFault : {A : Type 0} → Effect A → Type 0
NoFault a = (fault : Fault) (consumed : ℕ) → IsOfValue fault → a ≡ faulty fault consumed → ⊥

end_fault : (fault : Fault) (consumed : ℕ) (a : Effect ⊤) → proceed {B = List Task} a (λ _ v. done [] v) ≡ faulty fault consumed → a ≡ faulty fault consumed
end_fault fault consumed (done x v) eq = absurd (cc)
end_fault fault consumed (rejected reason c) eq = absurd (cc)
end_fault fault consumed (faulty f c) eq = cc

-- a fault that is one of the events is listed as a trap
abbrev pub AreTraps : Events → List PlacedFault → Type 0
AreTraps events traps = (place : Place) (fault : Fault) → events place (fails fault) → Contains traps (record { place = place; fault = fault })

trap_at : (d : TestData) (events : Events) (traps : List PlacedFault) (task : Task) (t : State) (fault : Fault) (consumed : ℕ) → NoFault (end d t) → AreTraps events traps → ((place : Place) (event : Event) → Happens d task t place event → events place event) →
    IsOfValue fault → perform task d t ≡ faulty fault consumed → TrapFollows traps (site_of task) fault
trap_at d events traps (start c) t fault consumed no_end are all of_value is = (place_of c, refl, are (place_of c) fault (all (place_of c) (fails fault) (task_fails refl of_value is)))
trap_at d events traps (turn loop k) t fault consumed no_end are all of_value is = (loop.place, refl, are loop.place fault (all loop.place (fails fault) (task_fails refl of_value is)))
trap_at d events traps finish t fault consumed no_end are all of_value is = absurd (no_end fault consumed of_value (end_fault fault consumed (end d t) is))

-- behind the first skip
from_start : (d : TestData) (events : Events) (traps : List PlacedFault) (n : ℕ) (ts : List Task) (s : State) (spot : Spot) (site : Site) (fault : Fault) (consumed left : ℕ) (a : Effect ⊤) → NoFault a → ((t : State) → NoFault (end d t)) → AreTraps events traps →
    ((t : State) → a ≡ done tt t → Safe d events n ts t) → IsOfValue fault → resume d Start s.offset n a (λ _ t. run d n ts t) ≡ stopped (Stopped spot site fault) consumed left → TrapFollows traps site fault
from_start d events traps n ts s spot site fault consumed left (done tt t) no_skip no_end are safe of_value is =
    let f : ComesToFault d n ts t site fault = comes_to_fault d n ts t spot site fault consumed left of_value is in
    subst (λ x. TrapFollows traps x fault) f.at (trap_at d events traps f.task f.state fault f.consumed (no_end f.state) are (λ place event happens. safe t refl f.left f.task f.rest f.state place event f.comes happens) of_value f.fails)
from_start d events traps n ts s spot site fault consumed left (rejected reason c) no_skip no_end are safe of_value is = absurd (cc)
from_start d events traps n ts s spot site fault consumed left (faulty other c) no_skip no_end are safe of_value is =
    let same : other ≡ fault = cc in absurd (no_skip other c (subst IsOfValue (sym same) of_value) refl)

-- so each trap is listed, where each event is, as looks have no faults of values
pub traps_are_events : ((d : TestData) (s : State) → NoFault (first_skip d s)) → ((d : TestData) (s : State) → NoFault (end d s)) → (program : CommandList) (presets : List Preset) (events : Events) (traps : List PlacedFault) → AreTraps events traps → HasEachEvent program presets events → HasEachTrap program presets traps
traps_are_events no_skip no_end program presets events traps are each mode d steps spot site fault less of_value is =
    let s : State = at_start mode presets in
    let ts : List Task = tasks program ++ finish ∷ [] in
    let e : RunResult = run_from d steps ts s in
    let st : IsStopped e (Stopped spot site fault) = is_stopped e spot site fault (sym (outcome_is steps e) ∙ is) in
    from_start d events traps steps ts s spot site fault st.consumed st.left (first_skip d s) (no_skip d s) (no_end d) are
    (λ t skipped m task rest u place event comes happens. each mode d steps m t u task rest place event less skipped comes happens) of_value st.is

-- The relation is the run.
pub comes_as_it_runs : ComesAsItRuns
comes_as_it_runs d n m ts us s u (at_once) = refl
comes_as_it_runs d n m ts us s u (by_step {n = i} {task} {more} {rest} {t} is comes) =
    ap (λ a. resume d (site_of task) s.offset i a (λ l v. run d i (l ++ rest) v)) is ∙ comes_as_it_runs d i m (more ++ rest) us t u comes

-- Each early end is at a task to which the run comes.
abbrev EndsFrom : TestData → ℕ → Type 0
EndsFrom d n = (ts : List Task) (s : State) (o : Outcome) (consumed left : ℕ) → run d n ts s ≡ stopped o consumed left → EndsAt d n ts s o

same_outcome : {p o : Outcome} {c l e f : ℕ} → stopped p c l ≡ stopped o e f → p ≡ o
same_outcome is = cc

end_by_case : (d : TestData) (n : ℕ) → EndsFrom d n → (task : Task) (rest : List Task) (s : State) (o : Outcome) (consumed left : ℕ) → (a : Effect (List Task)) → perform task d s ≡ a →
    resume d (site_of task) s.offset n a (λ more t. run d n (more ++ rest) t) ≡ stopped o consumed left → EndsAt d (suc n) (task ∷ rest) s o
end_by_case d n later task rest s o consumed left (done more t) act is =
    let e : EndsAt d n (more ++ rest) t o = later (more ++ rest) t o consumed left is in record { left = e.left; task = e.task; rest = e.rest; state = e.state; comes = by_step act e.comes; at = e.at }
end_by_case d n later task rest s o consumed left (rejected reason c) act is = record { left = suc n; task = task; rest = rest; state = s; comes = at_once; at = subst (IsAt (site_of task)) (same_outcome is) refl }
end_by_case d n later task rest s o consumed left (faulty fault c) act is = record { left = suc n; task = task; rest = rest; state = s; comes = at_once; at = subst (IsAt (site_of task)) (same_outcome is) refl }

pub each_end_is_reached : EachEndIsReached
each_end_is_reached d n [] s o consumed left is = absurd (cc)
each_end_is_reached d zero (task ∷ rest) s o consumed left is = record { left = zero; task = task; rest = rest; state = s; comes = at_once; at = subst (IsAt (site_of task)) (same_outcome is) refl }
each_end_is_reached d (suc n) (task ∷ rest) s o consumed left is = end_by_case d n (each_end_is_reached d n) task rest s o consumed left (perform task d s) refl is
