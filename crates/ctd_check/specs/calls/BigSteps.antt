-- What a program does in big steps, as a textbook has it: one rule for each way in which a list of commands, a command or a turn of a loop goes on or ends.
use Rattle.ctd_program.specs.Tree
use Rattle.std.specs.Prelude.{◌≡◌, ℕ, zero, suc, true, false, ⊤, List, [], ◌∷◌, ◌++◌, Option}
use Rattle.ctd_source.specs.TestData.{TestData, spot_at}
use Rattle.ctd_token.specs.declared.text.Place.{Place}
use Rattle.ctd_program.specs.declared.mode.Mode.{Mode}
use Rattle.ctd_program.specs.declared.preset.Preset.{Preset}
use Rattle.ctd_program.specs.declared.tree.PatternLiteral.{PatternLiteral}
use Rattle.ctd_program.specs.Tree.{ExprTree, VarTree, TestTree, GuardTree, CommandTree, CommandList, Separator}
use Rattle.ctd_check.specs.calls.Run.{place_of}
use Rattle.ctd_outcome.specs.declared.reason.Reason.{Reason}
use Rattle.ctd_outcome.specs.declared.reason.Fault.{Fault}
use Rattle.ctd_outcome.specs.declared.reason.Fault.TheVariants.{StepLimit}
use Rattle.ctd_outcome.specs.declared.outcome.Site.{Site}
use Rattle.ctd_outcome.specs.declared.outcome.Site.TheVariants.{Start, At, Finish}
use Rattle.ctd_outcome.specs.declared.outcome.Outcome.{Outcome}
use Rattle.ctd_outcome.specs.declared.outcome.Outcome.TheVariants.{Rejected, Stopped}
use Rattle.ctd_command.specs.State.{State, Act, done, rejected, faulty}
use Rattle.ctd_command.specs.Commands.{int, string, answer, assert, set, unset_all}
use Rattle.ctd_command.specs.Blanks.{space, newline, end, first_skip}
use Rattle.ctd_command.specs.Regex.{regex}
use Rattle.ctd_check.specs.Loops.{Guard, Loop, finish, tasks, guard_of, take_turn}
use Rattle.ctd_check.specs.calls.Loops.{loop_of}
use Rattle.ctd_check.specs.Run.{RunResult, all_done, stopped, run_from, with_steps, at_start, meaning}

-- a command in which no other commands stand, and what it does
pub data IsSimple : CommandTree → Act ⊤ → Type 0 where
  is_space : {place : Place} → IsSimple (Tree.space place) space
  is_newline : {place : Place} → IsSimple (Tree.newline place) newline
  is_eof : {place : Place} → IsSimple (Tree.eof place) end
  is_int : {place : Place} {low high : ExprTree} {target : Option VarTree} → IsSimple (Tree.int place low high target) (int low high target)
  is_string : {place : Place} {e : ExprTree} → IsSimple (Tree.string place e) (string e)
  is_regex : {place : Place} {literal : PatternLiteral} {target : Option VarTree} → IsSimple (Tree.regex place literal target) (regex literal.bytes target)
  is_assert : {place : Place} {t : TestTree} → IsSimple (Tree.assert place t) (assert t)
  is_set : {place : Place} {assignments : List (VarTree × ExprTree)} → IsSimple (Tree.set place assignments) (set assignments)
  is_unset : {place : Place} {names : List (List ℕ)} → IsSimple (Tree.unset place names) (unset_all names)

-- the run ends at what began at this offset, once so many bytes are consumed and with so many steps left: the data are rejected
abbrev pub rejection : TestData → ℕ → Site → Reason → (consumed left : ℕ) → RunResult
rejection d p site reason consumed left = stopped (Rejected (spot_at d.bytes p) site reason) consumed left

-- the run ends so, with a fault in place of a verdict
abbrev pub failure : TestData → ℕ → Site → Fault → (consumed left : ℕ) → RunResult
failure d p site fault consumed left = stopped (Stopped (spot_at d.bytes p) site fault) consumed left

-- the separator before a turn, as a list of commands: there is none before turn 0
abbrev pub separator_before : ℕ → Separator → CommandList
separator_before zero sep = Tree.done
separator_before (suc k) Tree.nothing = Tree.done
separator_before (suc k) (Tree.between c) = Tree.then c Tree.done

-- Over some data, from a state and with so many steps left. A command or a turn pays one step first.
mutual
  -- a list of commands: it is done; its first command is done, and the rest goes on from there; its first command ends the run
  pub data ListEnds (d : TestData) : CommandList → ℕ → State → RunResult → Type 0 where
    list_is_done : {n : ℕ} {s : State} → ListEnds d Tree.done n s (all_done s n)
    list_goes_on : {c : CommandTree} {rest : CommandList} {n m : ℕ} {s t : State} {e : RunResult} → CommandEnds d c n s (all_done t m) → ListEnds d rest m t e → ListEnds d (Tree.then c rest) n s e
    list_stops : {c : CommandTree} {rest : CommandList} {n m consumed : ℕ} {s : State} {o : Outcome} → CommandEnds d c n s (stopped o consumed m) → ListEnds d (Tree.then c rest) n s (stopped o consumed m)

  -- a command
  pub data CommandEnds (d : TestData) : CommandTree → ℕ → State → RunResult → Type 0 where
    command_has_no_step : {c : CommandTree} {s : State} → CommandEnds d c 0 s (failure d s.offset (At (place_of c)) StepLimit s.offset 0)
    command_is_done : {c : CommandTree} {m : Act ⊤} {n : ℕ} {s t : State} → IsSimple c m → m d s ≡ done tt t → CommandEnds d c (suc n) s (all_done t n)
    command_rejects : {c : CommandTree} {m : Act ⊤} {n consumed : ℕ} {s : State} {reason : Reason} → IsSimple c m → m d s ≡ rejected reason consumed → CommandEnds d c (suc n) s (rejection d s.offset (At (place_of c)) reason consumed n)
    command_fails : {c : CommandTree} {m : Act ⊤} {n consumed : ℕ} {s : State} {fault : Fault} → IsSimple c m → m d s ≡ faulty fault consumed → CommandEnds d c (suc n) s (failure d s.offset (At (place_of c)) fault consumed n)
    if_is_true : {place : Place} {test : TestTree} {then_do else_do : CommandList} {n : ℕ} {s : State} {e : RunResult} → answer test d s ≡ done true s → ListEnds d then_do n s e → CommandEnds d (Tree.choice place test then_do else_do) (suc n) s e
    if_is_false : {place : Place} {test : TestTree} {then_do else_do : CommandList} {n : ℕ} {s : State} {e : RunResult} → answer test d s ≡ done false s → ListEnds d else_do n s e → CommandEnds d (Tree.choice place test then_do else_do) (suc n) s e
    if_fails : {place : Place} {test : TestTree} {then_do else_do : CommandList} {n consumed : ℕ} {s : State} {fault : Fault} → answer test d s ≡ faulty fault consumed
        → CommandEnds d (Tree.choice place test then_do else_do) (suc n) s (failure d s.offset (At place) fault consumed n)
    loop_starts : {place : Place} {of : GuardTree} {counter : Option VarTree} {sep : Separator} {body : CommandList} {n : ℕ} {s : State} {guard : Guard} {e : RunResult} → guard_of of d s ≡ done guard s
        → TurnEnds d (loop_of place guard counter sep body) 0 n s e → CommandEnds d (Tree.loop place of counter sep body) (suc n) s e
    loop_fails : {place : Place} {of : GuardTree} {counter : Option VarTree} {sep : Separator} {body : CommandList} {n consumed : ℕ} {s : State} {fault : Fault} → guard_of of d s ≡ faulty fault consumed
        → CommandEnds d (Tree.loop place of counter sep body) (suc n) s (failure d s.offset (At place) fault consumed n)

  -- a turn of a loop by its number, with all turns after it: the counter gets the number, the test is asked, and where it is true come the separator, the body and the next turn
  pub data TurnEnds (d : TestData) : Loop → ℕ → ℕ → State → RunResult → Type 0 where
    turn_has_no_step : {loop : Loop} {k : ℕ} {s : State} → TurnEnds d loop k 0 s (failure d s.offset (At loop.place) StepLimit s.offset 0)
    loop_is_over : {loop : Loop} {k n : ℕ} {s t : State} → take_turn loop k d s ≡ done false t → TurnEnds d loop k (suc n) s (all_done t n)
    turn_goes_on : {loop : Loop} {k n m l : ℕ} {s t u v : State} {e : RunResult} → take_turn loop k d s ≡ done true t → ListEnds d (separator_before k loop.between) n t (all_done u m) → ListEnds d loop.body m u (all_done v l) → TurnEnds d loop (suc k) l v e
        → TurnEnds d loop k (suc n) s e
    separator_stops : {loop : Loop} {k n m consumed : ℕ} {s t : State} {o : Outcome} → take_turn loop k d s ≡ done true t → ListEnds d (separator_before k loop.between) n t (stopped o consumed m) → TurnEnds d loop k (suc n) s (stopped o consumed m)
    body_stops : {loop : Loop} {k n m l consumed : ℕ} {s t u : State} {o : Outcome} → take_turn loop k d s ≡ done true t → ListEnds d (separator_before k loop.between) n t (all_done u m) → ListEnds d loop.body m u (stopped o consumed l)
        → TurnEnds d loop k (suc n) s (stopped o consumed l)
    turn_fails : {loop : Loop} {k n consumed : ℕ} {s : State} {fault : Fault} → take_turn loop k d s ≡ faulty fault consumed → TurnEnds d loop k (suc n) s (failure d s.offset (At loop.place) fault consumed n)

-- a program: what stands before its first command, which costs no step, its commands, and then the end of the data, which costs one
pub data ProgramEnds (d : TestData) : CommandList → ℕ → State → RunResult → Type 0 where
  start_fails : {program : CommandList} {n consumed : ℕ} {s : State} {fault : Fault} → first_skip d s ≡ faulty fault consumed → ProgramEnds d program n s (failure d s.offset Start fault consumed n)
  commands_stop : {program : CommandList} {n m consumed : ℕ} {s t : State} {o : Outcome} → first_skip d s ≡ done tt t → ListEnds d program n t (stopped o consumed m) → ProgramEnds d program n s (stopped o consumed m)
  end_has_no_step : {program : CommandList} {n : ℕ} {s t u : State} → first_skip d s ≡ done tt t → ListEnds d program n t (all_done u 0) → ProgramEnds d program n s (failure d u.offset Finish StepLimit u.offset 0)
  data_are_accepted : {program : CommandList} {n m : ℕ} {s t u v : State} → first_skip d s ≡ done tt t → ListEnds d program n t (all_done u (suc m)) → end d u ≡ done tt v → ProgramEnds d program n s (all_done v m)
  end_rejects : {program : CommandList} {n m consumed : ℕ} {s t u : State} {reason : Reason} → first_skip d s ≡ done tt t → ListEnds d program n t (all_done u (suc m)) → end d u ≡ rejected reason consumed
      → ProgramEnds d program n s (rejection d u.offset Finish reason consumed m)
  end_fails : {program : CommandList} {n m consumed : ℕ} {s t u : State} {fault : Fault} → first_skip d s ≡ done tt t → ListEnds d program n t (all_done u (suc m)) → end d u ≡ faulty fault consumed
      → ProgramEnds d program n s (failure d u.offset Finish fault consumed m)

-- Laws.
-- every program ends in big steps as it does step by step
abbrev pub BigStepsHold : Type 0
BigStepsHold = (d : TestData) (program : CommandList) (steps : ℕ) (s : State) → ProgramEnds d program steps s (run_from d steps (tasks program ++ finish ∷ []) s)

-- and in no other way
abbrev pub BigStepsHaveOneEnd : Type 0
BigStepsHaveOneEnd = (d : TestData) (program : CommandList) (steps : ℕ) (s : State) (e f : RunResult) → ProgramEnds d program steps s e → ProgramEnds d program steps s f → e ≡ f

-- so the meaning of a program is how it ends in big steps
abbrev pub MeaningIsBigSteps : Type 0
MeaningIsBigSteps = (mode : Mode) (program : CommandList) (presets : List Preset) (d : TestData) (steps : ℕ) (e : RunResult) → ProgramEnds d program steps (at_start mode presets) e → meaning mode program presets d steps ≡ with_steps steps e
