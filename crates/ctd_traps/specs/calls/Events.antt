-- What happens in the runs of a program, and what never does: the theorem.
use Rattle.ctd_program.specs.Tree
use Rattle.std.specs.Prelude.{◌≡◌, ◌<◌, ◌^◌, ℕ, suc, true, false, Bool, List, [], ◌∷◌, ◌++◌, map, Contains}
use Rattle.ctd_traps.specs.Prelude.{At, Bindings, CommandList, CommandTree, EventKind, Fault, Mode, Moment, Note, Place, Preset, State, Task, TestData, TestTree, answer, at_start, done, faulty, finish, first_skip}
use Rattle.ctd_traps.specs.Prelude.{perform, place_of, site_of, start, take_turn, tasks, turn}
use Rattle.ctd_check.specs.Loops.{Loop}
use Rattle.ctd_traps.specs.calls.Traps.{IsOfValue}
use Rattle.ctd_traps.specs.declared.joined.Moment.TheVariants as moments
use Rattle.ctd_traps.specs.declared.note.EventKind.TheVariants as kinds

-- over some data, a run comes from a state with tasks and steps left to another: at once, or by a task that is done
pub data Comes (d : TestData) : ℕ → List Task → State → ℕ → List Task → State → Type 0 where
  at_once : {n : ℕ} {ts : List Task} {s : State} → Comes d n ts s n ts s
  by_step : {n m : ℕ} {task : Task} {more rest us : List Task} {s t u : State} →
      perform task d s ≡ done more t → Comes d n (more ++ rest) t m us u → Comes d (suc n) (task ∷ rest) s m us u

-- a command begins; a run finds variables at a moment; a command is done, or leads to others; a test, or the begin of a turn, gives an answer; a
-- fault of a value stops the run
pub data Event : Type 0 where
  begins : Event
  finds : (moment : Moment) (h : Bindings) → Event
  goes_on : Event
  answers : (b : Bool) → Event
  fails : (fault : Fault) → Event

-- the place of the end of a program, where no command stands
abbrev pub program_end : Place
program_end = record { line = 0; column = 0 }

-- what happens, and at which place, where a run does a task
pub data Happens (d : TestData) : Task → State → Place → Event → Type 0 where
  command_begins : {c : CommandTree} {s : State} → Happens d (start c) s (place_of c) begins
  command_finds : {c : CommandTree} {s : State} → Happens d (start c) s (place_of c) (finds moments.Begins s.store)
  turn_finds : {loop : Loop} {k : ℕ} {s : State} → Happens d (turn loop (suc k)) s loop.place (finds moments.TurnEnded s.store)
  end_finds : {s : State} → Happens d finish s program_end (finds moments.Done s.store)
  command_goes_on : {c : CommandTree} {more : List Task} {s t : State} →
      perform (start c) d s ≡ done more t → Happens d (start c) s (place_of c) goes_on
  assert_answers : {place : Place} {test : TestTree} {b : Bool} {s t : State} →
      answer test d s ≡ done b t → Happens d (start (Tree.assert place test)) s place (answers b)
  if_answers : {place : Place} {test : TestTree} {then_do else_do : CommandList} {b : Bool} {s t : State} →
      answer test d s ≡ done b t → Happens d (start (Tree.choice place test then_do else_do)) s place (answers b)
  turn_answers : {loop : Loop} {k : ℕ} {b : Bool} {s t : State} →
      take_turn loop k d s ≡ done b t → Happens d (turn loop k) s loop.place (answers b)
  task_fails : {task : Task} {place : Place} {fault : Fault} {consumed : ℕ} {s : State} →
      site_of task ≡ At place → IsOfValue fault → perform task d s ≡ faulty fault consumed → Happens d task s place (fails fault)

-- which events may happen at which places
abbrev pub Events : Type 1
Events = Place → Event → Type 0

-- Whatever the mode, the data and the limit of steps are: all that happens in a run, once a step is there for it, is one of these events.
abbrev pub HasEachEvent : CommandList → List Preset → Events → Type 0
HasEachEvent program presets events = (mode : Mode) (d : TestData) (steps n : ℕ) (s t : State) (task : Task) (rest : List Task) (place : Place) (event : Event) →
    steps < 2 ^ 64 → first_skip d (at_start mode presets) ≡ done tt s →
    Comes d steps (tasks program ++ finish ∷ []) s (suc n) (task ∷ rest) t → Happens d task t place event → events place event

-- an event at a place
pub record PlacedEvent : Type 0 where
  pub place : Place
  pub event : Event

-- Nothing that is listed ever happens, whatever the mode, the data and the limit of steps are.
abbrev pub NeverHappens : CommandList → List Preset → List PlacedEvent → Type 0
NeverHappens program presets never = HasEachEvent program presets (λ place event. Contains never (record { place = place; event = event }) → ⊥)

-- the event of a kind
abbrev pub event_of_kind : EventKind → Event
event_of_kind kinds.Begins = begins
event_of_kind kinds.GoesOn = goes_on
event_of_kind kinds.IsTrue = answers true
event_of_kind kinds.IsFalse = answers false

-- the event of a note
abbrev pub event_of : Note → PlacedEvent
event_of note = record { place = note.place; event = event_of_kind note.kind }

-- the events of some notes
abbrev pub events_of : List Note → List PlacedEvent
events_of notes = map event_of notes
