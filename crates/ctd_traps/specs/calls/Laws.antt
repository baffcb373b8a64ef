-- The relation by which a run comes from one state to another is the run: it says neither too much nor too little.
use Rattle.std.specs.Prelude.{◌≡◌, ℕ, List, ◌∷◌}
use Rattle.ctd_traps.specs.Prelude.{Accepted, Outcome, Rejected, Site, State, Stopped, Task, TestData, run, site_of, stopped}
use Rattle.ctd_traps.specs.calls.Events.{Comes}

-- where a run comes to, it goes on from there with the same result
abbrev pub ComesAsItRuns : Type 0
ComesAsItRuns = (d : TestData) (n m : ℕ) (ts us : List Task) (s u : State) → Comes d n ts s m us u → run d n ts s ≡ run d m us u

-- an outcome names this site
abbrev pub IsAt : Site → Outcome → Type 0
IsAt here Accepted = ⊥
IsAt here (Rejected spot site reason) = here ≡ site
IsAt here (Stopped spot site fault) = here ≡ site

-- a run comes to a task at which it ends with this outcome
pub record EndsAt (d : TestData) (n : ℕ) (ts : List Task) (s : State) (o : Outcome) : Type 0 where
  pub left : ℕ
  pub task : Task
  pub rest : List Task
  pub state : State
  pub comes : Comes d n ts s left (task ∷ rest) state
  pub at : IsAt (site_of task) o

-- each early end of a run, also by the limit of steps, is at a task to which the run comes
abbrev pub EachEndIsReached : Type 0
EachEndIsReached = (d : TestData) (n : ℕ) (ts : List Task) (s : State) (o : Outcome) (consumed left : ℕ) →
    run d n ts s ≡ stopped o consumed left → EndsAt d n ts s o
