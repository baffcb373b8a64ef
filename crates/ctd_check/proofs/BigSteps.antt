-- The run of a program in big steps is its run step by step.
use Rattle.std.proofs.Common.{◌≡◌, ℕ, zero, suc, ◌+◌, ◌≤◌, Bool, true, false, List, [], ◌∷◌, ◌++◌, Option, Some, None, Result, Ok, Err, refl, ap, sym, ◌∙◌, subst, arith, le_refl, le_trans, append_assoc, append-nil}
use Rattle.std.specs.Prelude.{⊤, if◌then◌else◌, pos}
use Rattle.std.specs.List.{prefix_len}
use Rattle.ctd_source.specs.TestData.{TestData, visible, next_byte}
use Rattle.ctd_token.specs.declared.text.Place.{Place}
use Rattle.ctd_program.specs.declared.mode.Mode.{Mode}
use Rattle.ctd_program.specs.declared.mode.Mode.TheVariants.{Exact, BlanksOk}
use Rattle.ctd_program.specs.declared.preset.Preset.{Preset}
use Rattle.ctd_program.specs.Tree
use Rattle.ctd_program.specs.Tree.{ExprTree, VarTree, TestTree, GuardTree, CommandTree, CommandList, Separator}
use Rattle.ctd_check.specs.calls.Run.{place_of}
use Rattle.ctd_store.specs.declared.value.Value.TheVariants as values
use Rattle.ctd_value.specs.Fault.{with_fault, fault_of_look}
use Rattle.ctd_value.specs.Truth.{truth}
use Rattle.ctd_value.specs.Val.{key, count}
use Rattle.ctd_outcome.specs.declared.reason.Fault.{Fault}
use Rattle.ctd_outcome.specs.declared.outcome.Site.{Site}
use Rattle.ctd_outcome.specs.declared.outcome.Site.TheVariants.{Start, At, Finish}
use Rattle.ctd_command.specs.State.{State, Effect, done, rejected, faulty, Act, proceed, lift, evaluate, see_next}
use Rattle.ctd_command.specs.Commands.{answer, assign_key}
use Rattle.ctd_command.specs.Blanks.{is_blank, end, first_skip}
use Rattle.ctd_command.specs.inner.Blanks.{start_in}
use Rattle.ctd_check.specs.Loops.{Guard, times, while_true, Task, start, turn, finish, Loop, tasks, tasks_before_turn, turn_tasks, goes_on, take_turn}
use Rattle.ctd_check.specs.calls.Loops.{loop_of}
use Rattle.ctd_check.specs.inner.Loops.{count_turn}
use Rattle.ctd_check.specs.Run.{simple, RunResult, all_done, stopped, resume, run, run_from, with_steps, at_start, meaning}
use Rattle.ctd_check.specs.inner.Acts.{act_of}
use Rattle.ctd_check.specs.calls.Laws.{and_then}
use Rattle.ctd_check.specs.calls.BigSteps.{IsSimple, is_space, is_newline, is_eof, is_int, is_string, is_regex, is_assert, is_set, is_unset, separator_before, ListEnds, list_is_done, list_goes_on, list_stops, CommandEnds, command_has_no_step, command_is_done, command_rejects, command_fails, if_is_true, if_is_false, if_fails, loop_starts, loop_fails, TurnEnds, turn_has_no_step, loop_is_over, turn_goes_on, separator_stops, body_stops, turn_fails, ProgramEnds, start_fails, commands_stop, end_has_no_step, data_are_accepted, end_rejects, end_fails}
use Rattle.ctd_check.proofs.InTurn.{in_turn}
use Rattle.ctd_check.proofs.StepLimits.{left_of, left_within}

-- a simple command leaves no tasks
act_is : (c : CommandTree) (m : Act ⊤) → IsSimple c m → act_of c ≡ simple m
act_is c m is_space = refl
act_is c m is_newline = refl
act_is c m is_eof = refl
act_is c m is_int = refl
act_is c m is_string = refl
act_is c m is_regex = refl
act_is c m is_assert = refl
act_is c m is_set = refl
act_is c m is_unset = refl

-- the tasks of the separator before a turn
separator_tasks : (k : ℕ) (sep : Separator) → tasks (separator_before k sep) ≡ tasks_before_turn k sep
separator_tasks zero sep = refl
separator_tasks (suc k) Tree.nothing = refl
separator_tasks (suc k) (Tree.between c) = refl

-- Turns and the first skip reject no data.
abbrev NeverRejects : {A : Type 0} → Effect A → Type 0
NeverRejects (done x after) = Unit {0}
NeverRejects (rejected reason consumed) = ⊥
NeverRejects (faulty fault consumed) = Unit {0}

next_never : {A B : Type 0} (a : Effect A) (next : A → State → Effect B) → NeverRejects a → ((x : A) (u : State) → NeverRejects (next x u)) → NeverRejects (proceed a next)
next_never (done x after) next h second = second x after
next_never (rejected reason consumed) next h second = absurd h
next_never (faulty fault consumed) next h second = tt

lift_never : {A : Type 0} (r : Result A Fault) (s : State) → NeverRejects (lift r s)
lift_never (Ok x) s = tt
lift_never (Err fault) s = tt

count_never : (counter : Option VarTree) (k : ℕ) (d : TestData) (s : State) → NeverRejects (count_turn counter k d s)
count_never None k d s = tt
count_never (Some v) k d s = next_never (evaluate (key v) d s) (λ x u. assign_key x (values.Int (pos k)) d u) (lift_never (key v s.store) s) (λ x u. tt)

goes_on_never : (guard : Guard) (k : ℕ) (d : TestData) (s : State) → NeverRejects (goes_on guard k d s)
goes_on_never (times turns) k d s = tt
goes_on_never (while_true t) k d s = lift_never (truth t s.store d s.offset) s

turn_never : (loop : Loop) (k : ℕ) (d : TestData) (s : State) → NeverRejects (take_turn loop k d s)
turn_never loop k d s = next_never (count_turn loop.counter k d s) (λ _ u. goes_on loop.guard k d u) (count_never loop.counter k d s) (λ _ u. goes_on_never loop.guard k d u)

look_never : (d : TestData) (s : State) → NeverRejects (see_next d s)
look_never d s = lift_never (with_fault fault_of_look (next_byte d s.offset)) s

start_never : (mode : Mode) (d : TestData) (s : State) → NeverRejects (start_in mode d s)
start_never Exact d s = tt
start_never BlanksOk d s =
    let n : ℕ = prefix_len is_blank (visible d s.offset) in
    let t : State = record { offset = s.offset + n; store = s.store; mode = s.mode } in
    next_never (see_next d t) (λ _ u. done tt u) (look_never d t) (λ _ u. tt)

skip_never : (d : TestData) (s : State) → NeverRejects (first_skip d s)
skip_never d s = start_never s.mode d s

module _ (d : TestData) where
  -- how the run goes on behind a list of tasks
  abbrev behind : List Task → State → ℕ → RunResult
  behind ts after left = run d left ts after

  -- the run of a command whose act has this effect
  abbrev after_act : Site → ℕ → ℕ → Effect (List Task) → RunResult
  after_act site p n a = resume d site p n a (λ more t. run d n (more ++ []) t)

  simple_run : (c : CommandTree) (m : Act ⊤) (n : ℕ) (s : State) (a : Effect ⊤) → IsSimple c m → m d s ≡ a → run d (suc n) (start c ∷ []) s ≡ after_act (At (place_of c)) s.offset n (proceed a (λ _ t. done [] t))
  simple_run c m n s a h is = ap (λ f. after_act (At (place_of c)) s.offset n (f d s)) (act_is c m h) ∙ ap (λ x. after_act (At (place_of c)) s.offset n (proceed x (λ _ t. done [] t))) is

  -- a turn that goes on: the separator, the body and the next turn
  turn_run : (loop : Loop) (k n : ℕ) (t : State)
      → run d n (turn_tasks loop k ++ []) t ≡ and_then (run d n (tasks (separator_before k loop.between)) t) (behind (tasks loop.body ++ turn loop (suc k) ∷ []))
  turn_run loop k n t =
      let rest : List Task = tasks loop.body ++ turn loop (suc k) ∷ [] in
      let flat : turn_tasks loop k ++ [] ≡ tasks_before_turn k loop.between ++ rest = append-nil (turn_tasks loop k) ∙ append_assoc (tasks_before_turn k loop.between) (tasks loop.body) (turn loop (suc k) ∷ []) in
      let listed : tasks_before_turn k loop.between ++ rest ≡ tasks (separator_before k loop.between) ++ rest = ap (λ ts. ts ++ rest) (sym (separator_tasks k loop.between)) in
      ap (λ ts. run d n ts t) (flat ∙ listed) ∙ in_turn d n (tasks (separator_before k loop.between)) rest t

  -- Each end in big steps is that of the run.
  mutual
    list_is_run : (cs : CommandList) (n : ℕ) (s : State) (e : RunResult) → ListEnds d cs n s e → e ≡ run d n (tasks cs) s
    list_is_run cs n s e list_is_done = refl
    list_is_run cs n s e (list_goes_on {c} {rest} {n = i} {m} {s = x} {t} {e = end_of_rest} first second) =
        list_is_run rest m t e second ∙ ap (λ w. and_then w (behind (tasks rest))) (command_is_run c n s (all_done t m) first) ∙ sym (in_turn d n (start c ∷ []) (tasks rest) s)
    list_is_run cs n s e (list_stops {c} {rest} first) =
        ap (λ w. and_then w (behind (tasks rest))) (command_is_run c n s e first) ∙ sym (in_turn d n (start c ∷ []) (tasks rest) s)

    command_is_run : (c : CommandTree) (n : ℕ) (s : State) (e : RunResult) → CommandEnds d c n s e → e ≡ run d n (start c ∷ []) s
    command_is_run c n s e command_has_no_step = refl
    command_is_run c n s e (command_is_done {m} {n = i} {t} h is) = sym (simple_run c m i s (done tt t) h is)
    command_is_run c n s e (command_rejects {m} {n = i} {consumed} {reason} h is) = sym (simple_run c m i s (rejected reason consumed) h is)
    command_is_run c n s e (command_fails {m} {n = i} {consumed} {fault} h is) = sym (simple_run c m i s (faulty fault consumed) h is)
    command_is_run c n s e (if_is_true {place} {then_do} {else_do} {n = i} is list) =
        list_is_run then_do i s e list ∙ ap (λ ts. run d i ts s) (sym (append-nil (tasks then_do)))
        ∙ sym (ap (λ a. after_act (At place) s.offset i (proceed a (λ b t. done (tasks (if b then then_do else else_do)) t))) is)
    command_is_run c n s e (if_is_false {place} {then_do} {else_do} {n = i} is list) =
        list_is_run else_do i s e list ∙ ap (λ ts. run d i ts s) (sym (append-nil (tasks else_do)))
        ∙ sym (ap (λ a. after_act (At place) s.offset i (proceed a (λ b t. done (tasks (if b then then_do else else_do)) t))) is)
    command_is_run c n s e (if_fails {place} {then_do} {else_do} {n = i} is) = sym (ap (λ a. after_act (At place) s.offset i (proceed a (λ b t. done (tasks (if b then then_do else else_do)) t))) is)
    command_is_run c n s e (loop_starts {place} {counter} {sep} {body} {n = i} {guard} is turns) =
        turn_is_run (loop_of place guard counter sep body) 0 i s e turns ∙ sym (ap (λ a. after_act (At place) s.offset i (proceed a (λ g t. done (turn (loop_of place g counter sep body) 0 ∷ []) t))) is)
    command_is_run c n s e (loop_fails {place} {counter} {sep} {body} {n = i} is) = sym (ap (λ a. after_act (At place) s.offset i (proceed a (λ g t. done (turn (loop_of place g counter sep body) 0 ∷ []) t))) is)

    turn_is_run : (loop : Loop) (k n : ℕ) (s : State) (e : RunResult) → TurnEnds d loop k n s e → e ≡ run d n (turn loop k ∷ []) s
    turn_is_run loop k n s e turn_has_no_step = refl
    turn_is_run loop k n s e (loop_is_over {n = i} is) = sym (ap (λ a. after_act (At loop.place) s.offset i (proceed a (λ b t. done (if b then turn_tasks loop k else []) t))) is)
    turn_is_run loop k n s e (turn_goes_on {n = i} {m} {l} {t} {u} {v} is sep body turns) =
        turn_is_run loop (suc k) l v e turns ∙ ap (λ w. and_then w (behind (turn loop (suc k) ∷ []))) (list_is_run loop.body m u (all_done v l) body) ∙ sym (in_turn d m (tasks loop.body) (turn loop (suc k) ∷ []) u)
        ∙ ap (λ w. and_then w (behind (tasks loop.body ++ turn loop (suc k) ∷ []))) (list_is_run (separator_before k loop.between) i t (all_done u m) sep) ∙ sym (turn_run loop k i t)
        ∙ sym (ap (λ a. after_act (At loop.place) s.offset i (proceed a (λ b x. done (if b then turn_tasks loop k else []) x))) is)
    turn_is_run loop k n s e (separator_stops {n = i} {t} is sep) =
        ap (λ w. and_then w (behind (tasks loop.body ++ turn loop (suc k) ∷ []))) (list_is_run (separator_before k loop.between) i t e sep) ∙ sym (turn_run loop k i t)
        ∙ sym (ap (λ a. after_act (At loop.place) s.offset i (proceed a (λ b x. done (if b then turn_tasks loop k else []) x))) is)
    turn_is_run loop k n s e (body_stops {n = i} {m} {t} {u} is sep body) =
        ap (λ w. and_then w (behind (turn loop (suc k) ∷ []))) (list_is_run loop.body m u e body) ∙ sym (in_turn d m (tasks loop.body) (turn loop (suc k) ∷ []) u)
        ∙ ap (λ w. and_then w (behind (tasks loop.body ++ turn loop (suc k) ∷ []))) (list_is_run (separator_before k loop.between) i t (all_done u m) sep) ∙ sym (turn_run loop k i t)
        ∙ sym (ap (λ a. after_act (At loop.place) s.offset i (proceed a (λ b x. done (if b then turn_tasks loop k else []) x))) is)
    turn_is_run loop k n s e (turn_fails {n = i} is) = sym (ap (λ a. after_act (At loop.place) s.offset i (proceed a (λ b x. done (if b then turn_tasks loop k else []) x))) is)

  -- Each run is an end in big steps. For so many steps at most:
  abbrev CommandsEnd : ℕ → Type 0
  CommandsEnd most = (c : CommandTree) (n : ℕ) (s : State) → n ≤ most → CommandEnds d c n s (run d n (start c ∷ []) s)

  abbrev TurnsEnd : ℕ → Type 0
  TurnsEnd most = (loop : Loop) (k n : ℕ) (s : State) → n ≤ most → TurnEnds d loop k n s (run d n (turn loop k ∷ []) s)

  abbrev ListsEnd : ℕ → Type 0
  ListsEnd most = (cs : CommandList) (n : ℕ) (s : State) → n ≤ most → ListEnds d cs n s (run d n (tasks cs) s)

  list_by_case : (most : ℕ) (c : CommandTree) (rest : CommandList) (n : ℕ) (s : State) (w : RunResult) → CommandEnds d c n s w → left_of w ≤ most → ((m : ℕ) (t : State) → m ≤ most → ListEnds d rest m t (run d m (tasks rest) t))
      → ListEnds d (Tree.then c rest) n s (and_then w (behind (tasks rest)))
  list_by_case most c rest n s (all_done t m) first within go = list_goes_on first (go m t within)
  list_by_case most c rest n s (stopped outcome consumed m) first within go = list_stops first

  lists_end : (most : ℕ) → CommandsEnd most → ListsEnd most
  lists_end most commands Tree.done n s less = list_is_done
  lists_end most commands (Tree.then c rest) n s less =
      subst (λ e. ListEnds d (Tree.then c rest) n s e) (sym (in_turn d n (start c ∷ []) (tasks rest) s))
      (list_by_case most c rest n s (run d n (start c ∷ []) s) (commands c n s less) (le_trans (left_within d n (start c ∷ []) s) less) (λ m t within. lists_end most commands rest m t within))

  -- a command
  simple_ends : (c : CommandTree) (m : Act ⊤) (n : ℕ) (s : State) (a : Effect ⊤) → IsSimple c m → m d s ≡ a → CommandEnds d c (suc n) s (after_act (At (place_of c)) s.offset n (proceed a (λ _ t. done [] t)))
  simple_ends c m n s (done x t) h is = command_is_done h is
  simple_ends c m n s (rejected reason consumed) h is = command_rejects h is
  simple_ends c m n s (faulty fault consumed) h is = command_fails h is

  if_ends : (most : ℕ) (place : Place) (test : TestTree) (then_do else_do : CommandList) (n : ℕ) (s : State) (r : Result Bool Fault) → ListsEnd most → n ≤ most → answer test d s ≡ lift r s
      → CommandEnds d (Tree.choice place test then_do else_do) (suc n) s (after_act (At place) s.offset n (proceed (lift r s) (λ b t. done (tasks (if b then then_do else else_do)) t)))
  if_ends most place test then_do else_do n s (Ok true) lists less is = if_is_true is (subst (λ ts. ListEnds d then_do n s (run d n ts s)) (sym (append-nil (tasks then_do))) (lists then_do n s less))
  if_ends most place test then_do else_do n s (Ok false) lists less is = if_is_false is (subst (λ ts. ListEnds d else_do n s (run d n ts s)) (sym (append-nil (tasks else_do))) (lists else_do n s less))
  if_ends most place test then_do else_do n s (Err fault) lists less is = if_fails is

  repeat_ends : (most : ℕ) (place : Place) (e : ExprTree) (counter : Option VarTree) (sep : Separator) (body : CommandList) (n : ℕ) (s : State) (r : Result ℕ Fault) → TurnsEnd most → n ≤ most → count e s.store ≡ r
      → CommandEnds d (Tree.loop place (Tree.turns e) counter sep body) (suc n) s
      (after_act (At place) s.offset n (proceed (proceed (lift r s) (λ turns t. done (times turns) t)) (λ g t. done (turn (loop_of place g counter sep body) 0 ∷ []) t)))
  repeat_ends most place e counter sep body n s (Ok turns) all less is =
      loop_starts (ap (λ r. proceed (lift r s) (λ k t. done (times k) t)) is) (all (loop_of place (times turns) counter sep body) 0 n s less)
  repeat_ends most place e counter sep body n s (Err fault) all less is = loop_fails (ap (λ r. proceed (lift r s) (λ k t. done (times k) t)) is)

  loop_ends : (most : ℕ) (place : Place) (of : GuardTree) (counter : Option VarTree) (sep : Separator) (body : CommandList) (n : ℕ) (s : State) → TurnsEnd most → n ≤ most
      → CommandEnds d (Tree.loop place of counter sep body) (suc n) s (run d (suc n) (start (Tree.loop place of counter sep body) ∷ []) s)
  loop_ends most place (Tree.turns e) counter sep body n s all less = repeat_ends most place e counter sep body n s (count e s.store) all less refl
  loop_ends most place (Tree.while t) counter sep body n s all less = loop_starts refl (all (loop_of place (while_true t) counter sep body) 0 n s less)

  command_ends : (most : ℕ) → ListsEnd most → TurnsEnd most → (c : CommandTree) (n : ℕ) (s : State) → n ≤ most → CommandEnds d c (suc n) s (run d (suc n) (start c ∷ []) s)
  command_ends most lists turns (Tree.space place) n s less = simple_ends (Tree.space place) _ n s _ is_space refl
  command_ends most lists turns (Tree.newline place) n s less = simple_ends (Tree.newline place) _ n s _ is_newline refl
  command_ends most lists turns (Tree.eof place) n s less = simple_ends (Tree.eof place) _ n s _ is_eof refl
  command_ends most lists turns (Tree.int place low high target) n s less = simple_ends (Tree.int place low high target) _ n s _ is_int refl
  command_ends most lists turns (Tree.string place e) n s less = simple_ends (Tree.string place e) _ n s _ is_string refl
  command_ends most lists turns (Tree.regex place literal target) n s less = simple_ends (Tree.regex place literal target) _ n s _ is_regex refl
  command_ends most lists turns (Tree.assert place t) n s less = simple_ends (Tree.assert place t) _ n s _ is_assert refl
  command_ends most lists turns (Tree.set place assignments) n s less = simple_ends (Tree.set place assignments) _ n s _ is_set refl
  command_ends most lists turns (Tree.unset place names) n s less = simple_ends (Tree.unset place names) _ n s _ is_unset refl
  command_ends most lists turns (Tree.loop place guard counter sep body) n s less = loop_ends most place guard counter sep body n s turns less
  command_ends most lists turns (Tree.choice place t then_do else_do) n s less = if_ends most place t then_do else_do n s (truth t s.store d s.offset) lists less refl

  -- a turn
  body_ends : (most : ℕ) (loop : Loop) (k n m : ℕ) (s t u : State) (w : RunResult) → TurnsEnd most → take_turn loop k d s ≡ done true t → ListEnds d (separator_before k loop.between) n t (all_done u m) → ListEnds d loop.body m u w → left_of w ≤ most
      → TurnEnds d loop k (suc n) s (and_then w (behind (turn loop (suc k) ∷ [])))
  body_ends most loop k n m s t u (all_done v l) turns is sep body within = turn_goes_on is sep body (turns loop (suc k) l v within)
  body_ends most loop k n m s t u (stopped outcome consumed l) turns is sep body within = body_stops is sep body

  separator_ends : (most : ℕ) (loop : Loop) (k n : ℕ) (s t : State) (w : RunResult) → ListsEnd most → TurnsEnd most → take_turn loop k d s ≡ done true t → ListEnds d (separator_before k loop.between) n t w → left_of w ≤ most
      → TurnEnds d loop k (suc n) s (and_then w (behind (tasks loop.body ++ turn loop (suc k) ∷ [])))
  separator_ends most loop k n s t (all_done u m) lists turns is sep within =
      subst (λ e. TurnEnds d loop k (suc n) s e) (sym (in_turn d m (tasks loop.body) (turn loop (suc k) ∷ []) u))
      (body_ends most loop k n m s t u (run d m (tasks loop.body) u) turns is sep (lists loop.body m u within) (le_trans (left_within d m (tasks loop.body) u) within))
  separator_ends most loop k n s t (stopped outcome consumed m) lists turns is sep within = separator_stops is sep

  turn_ends : (most : ℕ) (loop : Loop) (k n : ℕ) (s : State) (a : Effect Bool) → ListsEnd most → TurnsEnd most → n ≤ most → take_turn loop k d s ≡ a → NeverRejects a
      → TurnEnds d loop k (suc n) s (after_act (At loop.place) s.offset n (proceed a (λ b t. done (if b then turn_tasks loop k else []) t)))
  turn_ends most loop k n s (done true t) lists turns less is never =
      let sep : CommandList = separator_before k loop.between in
      subst (λ e. TurnEnds d loop k (suc n) s e) (sym (turn_run loop k n t))
      (separator_ends most loop k n s t (run d n (tasks sep) t) lists turns is (lists sep n t less) (le_trans (left_within d n (tasks sep) t) less))
  turn_ends most loop k n s (done false t) lists turns less is never = loop_is_over is
  turn_ends most loop k n s (rejected reason consumed) lists turns less is never = absurd never
  turn_ends most loop k n s (faulty fault consumed) lists turns less is never = turn_fails is

  -- by induction on the most steps
  commands_from : (most : ℕ) → ListsEnd most → TurnsEnd most → CommandsEnd (suc most)
  commands_from most lists turns c zero s less = command_has_no_step
  commands_from most lists turns c (suc n) s less = command_ends most lists turns c n s (omega (arith, less))

  turns_from : (most : ℕ) → ListsEnd most → TurnsEnd most → TurnsEnd (suc most)
  turns_from most lists turns loop k zero s less = turn_has_no_step
  turns_from most lists turns loop k (suc n) s less = turn_ends most loop k n s (take_turn loop k d s) lists turns (omega (arith, less)) refl (turn_never loop k d s)

  commands_at_zero : CommandsEnd 0
  commands_at_zero c zero s less = command_has_no_step
  commands_at_zero c (suc n) s less = absurd (omega (arith, less))

  turns_at_zero : TurnsEnd 0
  turns_at_zero loop k zero s less = turn_has_no_step
  turns_at_zero loop k (suc n) s less = absurd (omega (arith, less))

  all_end : (most : ℕ) → CommandsEnd most × TurnsEnd most
  all_end zero = (commands_at_zero, turns_at_zero)
  all_end (suc most) =
      let before : CommandsEnd most × TurnsEnd most = all_end most in
      let lists : ListsEnd most = lists_end most before.0 in
      (commands_from most lists before.1, turns_from most lists before.1)

  list_ends : (cs : CommandList) (n : ℕ) (s : State) → ListEnds d cs n s (run d n (tasks cs) s)
  list_ends cs n s = lists_end n (all_end n).0 cs n s (le_refl n)

  -- The program.
  end_by_case : (program : CommandList) (n m : ℕ) (s t u : State) (a : Effect ⊤) → first_skip d s ≡ done tt t → ListEnds d program n t (all_done u (suc m)) → end d u ≡ a
      → ProgramEnds d program n s (after_act Finish u.offset m (proceed a (λ _ v. done [] v)))
  end_by_case program n m s t u (done x v) skipped list is = data_are_accepted skipped list is
  end_by_case program n m s t u (rejected reason consumed) skipped list is = end_rejects skipped list is
  end_by_case program n m s t u (faulty fault consumed) skipped list is = end_fails skipped list is

  program_by_case : (program : CommandList) (n : ℕ) (s t : State) (w : RunResult) → first_skip d s ≡ done tt t → ListEnds d program n t w → ProgramEnds d program n s (and_then w (behind (finish ∷ [])))
  program_by_case program n s t (all_done u zero) skipped list = end_has_no_step skipped list
  program_by_case program n s t (all_done u (suc m)) skipped list = end_by_case program n m s t u (end d u) skipped list refl
  program_by_case program n s t (stopped outcome consumed m) skipped list = commands_stop skipped list

  from_by_case : (program : CommandList) (n : ℕ) (s : State) (a : Effect ⊤) → first_skip d s ≡ a → NeverRejects a → ProgramEnds d program n s (resume d Start s.offset n a (λ _ t. run d n (tasks program ++ finish ∷ []) t))
  from_by_case program n s (done x t) is never =
      subst (λ e. ProgramEnds d program n s e) (sym (in_turn d n (tasks program) (finish ∷ []) t)) (program_by_case program n s t (run d n (tasks program) t) is (list_ends program n t))
  from_by_case program n s (rejected reason consumed) is never = absurd never
  from_by_case program n s (faulty fault consumed) is never = start_fails is

  pub big_steps_hold : (program : CommandList) (n : ℕ) (s : State) → ProgramEnds d program n s (run_from d n (tasks program ++ finish ∷ []) s)
  big_steps_hold program n s = from_by_case program n s (first_skip d s) refl (skip_never d s)

  -- behind the first skip, with all commands done or not
  abbrev after_skip : (program : CommandList) (n : ℕ) (s : State) → Effect ⊤ → RunResult
  after_skip program n s a = resume d Start s.offset n a (λ _ t. run d n (tasks program ++ finish ∷ []) t)

  behind_list : (program : CommandList) (n : ℕ) (s t : State) (w : RunResult) → first_skip d s ≡ done tt t → ListEnds d program n t w → run_from d n (tasks program ++ finish ∷ []) s ≡ and_then w (behind (finish ∷ []))
  behind_list program n s t w is list =
      ap (after_skip program n s) is ∙ in_turn d n (tasks program) (finish ∷ []) t ∙ ap (λ x. and_then x (behind (finish ∷ []))) (sym (list_is_run program n t w list))

  end_is : (m : ℕ) (u : State) (a : Effect ⊤) → end d u ≡ a → behind (finish ∷ []) u (suc m) ≡ after_act Finish u.offset m (proceed a (λ _ v. done [] v))
  end_is m u a is = ap (λ x. after_act Finish u.offset m (proceed x (λ _ v. done [] v))) is

  program_is_run : (program : CommandList) (n : ℕ) (s : State) (e : RunResult) → ProgramEnds d program n s e → e ≡ run_from d n (tasks program ++ finish ∷ []) s
  program_is_run program n s e (start_fails is) = sym (ap (after_skip program n s) is)
  program_is_run program n s e (commands_stop {t} skipped list) = sym (behind_list program n s t e skipped list)
  program_is_run program n s e (end_has_no_step {t} {u} skipped list) = sym (behind_list program n s t (all_done u 0) skipped list)
  program_is_run program n s e (data_are_accepted {m} {t} {u} {v} skipped list is) = sym (behind_list program n s t (all_done u (suc m)) skipped list ∙ end_is m u (done tt v) is)
  program_is_run program n s e (end_rejects {m} {consumed} {t} {u} {reason} skipped list is) = sym (behind_list program n s t (all_done u (suc m)) skipped list ∙ end_is m u (rejected reason consumed) is)
  program_is_run program n s e (end_fails {m} {consumed} {t} {u} {fault} skipped list is) = sym (behind_list program n s t (all_done u (suc m)) skipped list ∙ end_is m u (faulty fault consumed) is)

  pub one_end : (program : CommandList) (n : ℕ) (s : State) (e f : RunResult) → ProgramEnds d program n s e → ProgramEnds d program n s f → e ≡ f
  one_end program n s e f h k = program_is_run program n s e h ∙ sym (program_is_run program n s f k)

  pub meaning_is_end : (mode : Mode) (program : CommandList) (presets : List Preset) (n : ℕ) (e : RunResult) → ProgramEnds d program n (at_start mode presets) e → meaning mode program presets d n ≡ with_steps n e
  meaning_is_end mode program presets n e h = ap (with_steps n) (sym (program_is_run program n (at_start mode presets) e h))
