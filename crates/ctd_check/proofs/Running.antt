-- Tasks one after the other.
use Rattle.std.proofs.Common.{arith, ◌≡◌, ℕ, suc, ◌+◌, ◌-◌, List, [], ◌∷◌, ◌++◌, refl, ap, sym, ◌∙◌, subst, append_assoc, Result, Ok, Err, true, false}
use Rattle.std.specs.Result.{IsErr, IsErrAnd}
use Rattle.std.specs.Prelude.{⊤}
use Rattle.ctd_source.specs.declared.source.Source.{Ghosts}
use Rattle.ctd_source.specs.declared.spot.Spot.{Spot}
use Rattle.ctd_source.specs.TestData.{TestData, spot_at}
use Rattle.ctd_source.proofs.AdvanceLemmas.{advances_so, advances_both, advances_nowhere}
use Rattle.ctd_source.specs.calls.Received.{AdvancesSuchThat}
use Rattle.ctd_token.specs.declared.text.Place.{Place}
use Rattle.ctd_program.specs.declared.tree.Action.{Action}
use Rattle.ctd_program.specs.declared.tree.Action.TheVariants.{Space, Newline, Eof, Int, String, Regex, Assert, Set, Unset, If'}
use Rattle.ctd_program.specs.declared.tree.Action.TheVariants as actions
use Rattle.ctd_program.specs.declared.tree.Loop.{Loop'}
use Rattle.ctd_program.specs.declared.tree.Choice.{Choice'}
use Rattle.ctd_program.specs.declared.tree.Command.{Command}
use Rattle.ctd_program.specs.Tree.{CommandList, CommandTree}
use Rattle.ctd_check.specs.calls.Run.{place_of, Finds}
use Rattle.ctd_program.specs.calls.View.{action_tree, command_tree}
use Rattle.ctd_program.specs.declared.preset.Preset.{Preset}
use Rattle.ctd_command.proofs.Acts.{answers_as}
use Rattle.ctd_command.specs.declared.machine.Run.{Run}
use Rattle.ctd_command.specs.declared.failure.CommandFailure.{CommandFailure}
use Rattle.ctd_command.specs.declared.failure.Failure.TheVariants.{Rejected, Stopped, Memory}
use Rattle.ctd_outcome.specs.declared.reason.Fault.TheVariants.{StepLimit}
use Rattle.ctd_command.specs.State.{State, Effect}
use Rattle.ctd_command.specs.Blanks.{first_skip}
use Rattle.ctd_program.specs.declared.mode.Mode.{Mode}
use Rattle.ctd_command.specs.calls.Performs.{Does, state, Performs}
use Rattle.ctd_value.specs.calls.Lending.{map_ok}
use Rattle.ctd_outcome.specs.declared.outcome.Site.{Site}
use Rattle.ctd_outcome.specs.declared.outcome.Site.TheVariants.{Start, At}
use Rattle.ctd_check.specs.declared.halt.Halt.{Halt}
use Rattle.ctd_check.specs.declared.halt.Halt.TheVariants as halts
use Rattle.ctd_outcome.specs.declared.outcome.Outcome.TheVariants as outcomes
use Rattle.ctd_check.specs.Loops.{Loop, Task, start, turn, finish, tasks, run_turn}
use Rattle.ctd_check.specs.Run.{RunResult, stopped, site_of, perform, resume, run, run_from, with_steps, meaning, at_start}
use Rattle.ctd_check.proofs.Staying.{ends_at, turn_stays}
use Rattle.ctd_check.specs.inner.Acts.{act_of}
use Rattle.ctd_outcome.specs.declared.outcome.Checked.{Checked}
use Rattle.ctd_check.specs.inner.Halts.{halt_of, at_limit, Concludes}
use Rattle.ctd_check.specs.inner.Opening.{halt_result, Opens}
use Rattle.ctd_check.specs.inner.Advances.{ContinuesWith, Advances, RunsTo}

-- a command has its own place
pub place_is : (a : Action) (place : Place) → place_of (action_tree a place) ≡ place
place_is Space place = refl
place_is Newline place = refl
place_is Eof place = refl
place_is (Int int) place = refl
place_is (String e) place = refl
place_is (Regex regex) place = refl
place_is (Assert t) place = refl
place_is (Set assignments) place = refl
place_is (Unset names) place = refl
place_is (actions.Loop' p (Loop' guard counter between body)) place = refl
place_is (If' p (Choice' t a b)) place = refl

pub site_is : (c : Command) → At c.place ≡ site_of (start (command_tree c))
site_is c = ap At (sym (place_is c.action c.place))

one_left : (left left' : ℕ) → left ≡ left' + 1 → left ≡ suc left'
one_left left left' e = omega arith

-- a task whose step is paid
paid : (d : TestData) (t : Task) (left left' : ℕ) (s : State) (rest : List Task) → left ≡ left' + 1
    → run d left (t ∷ rest) s ≡ resume d (site_of t) s.offset left' (perform t d s) (λ more u. run d left' (more ++ rest) u)
paid d t left left' s rest e = ap (λ n. run d n (t ∷ rest) s) (one_left left left' e)

failed_by : {A : Type 0} (d : TestData) (site : Site) (p left' : ℕ) (spot : Spot) (failure : CommandFailure) (now : State) (e : Effect A) (k : A → State → RunResult) (after : List Task) → spot ≡ spot_at d.bytes p
    → Does {A = A} (Err failure) now e → ContinuesWith {A = Unit {0}} d (Err (halt_of spot site failure)) left' after now (resume d site p left' e k)
failed_by d site p left' spot (Rejected reason) now e k after is does =
    ap (λ x. resume d site p left' x k) does ∙ ap (λ x. stopped (outcomes.Rejected x site reason) now.offset left') (sym is)
failed_by d site p left' spot (Stopped fault) now e k after is does =
    ap (λ x. resume d site p left' x k) does ∙ ap (λ x. stopped (outcomes.Stopped x site fault) now.offset left') (sym is)
failed_by d site p left' spot Memory now e k after is does = tt

-- a turn that fails ends where it began
turn_failed_by : (d : TestData) (site : Site) (loop : Loop) (k left' : ℕ) (spot : Spot) (failure : CommandFailure) (before now : State) (next : List Task → State → RunResult) (after : List Task) → spot ≡ spot_at d.bytes now.offset
    → Does {A = List Task} (Err failure) now (run_turn loop k d before) → ContinuesWith {A = Unit {0}} d (Err (halt_of spot site failure)) left' after now (resume d site before.offset left' (run_turn loop k d before) next)
turn_failed_by d site loop k left' spot (Rejected reason) before now next after is does =
    failed_by d site before.offset left' spot (Rejected reason) now _ next after (is ∙ ap (spot_at d.bytes) (sym (ap ends_at does) ∙ turn_stays loop k d before)) does
turn_failed_by d site loop k left' spot (Stopped fault) before now next after is does =
    failed_by d site before.offset left' spot (Stopped fault) now _ next after (is ∙ ap (spot_at d.bytes) (sym (ap ends_at does) ∙ turn_stays loop k d before)) does
turn_failed_by d site loop k left' spot Memory before now next after is does = tt

-- what follows a run follows each name of it
pub follows_as : {A : Type 0} (d : TestData) (r : Result A Halt) (left : ℕ) (after : List Task) (s : State) (whole other : RunResult) → other ≡ whole → ContinuesWith d r left after s whole → ContinuesWith d r left after s other
follows_as d (Ok x) left after s whole other same f = same ∙ f
follows_as d (Err (halts.Outcome outcome)) left after s whole other same f = same ∙ f
follows_as d (Err halts.Memory) left after s whole other same f = tt

-- an end does not depend on what was still to be done
pub halted : (d : TestData) (halt : Halt) (left : ℕ) (after other : List Task) (s : State) (whole there : RunResult) → whole ≡ there → ContinuesWith {A = Unit {0}} d (Err halt) left after s there → ContinuesWith {A = Unit {0}} d (Err halt) left other s whole
halted d (halts.Outcome outcome) left after other s whole there same f = same ∙ f
halted d halts.Memory left after other s whole there same f = tt

module _ {R : Type 0} {G : Ghosts R} where
  -- what a task means that is done: the rest of the run
  done_goes : (old new : Run R G) (t : Task) (left left' : ℕ) (more rest all : List Task) → left ≡ left' + 1 → all ≡ more ++ rest → Performs old new (Ok more) (perform t)
      → AdvancesSuchThat old.cursor new.cursor (λ d. run d left (t ∷ rest) (state old) ≡ run d left' all (state new))
  done_goes old new t left left' more rest all one is p =
      advances_so p.goes (λ d _ e. paid d t left left' (state old) rest one ∙ ap (λ x. resume d (site_of t) old.cursor.spot.offset left' x (λ more u. run d left' (more ++ rest) u)) e ∙ ap (λ ts. run d left' ts (state new)) (sym is))

  -- a task that is done leaves its tasks and the rest
  pub task_done : (old new : Run R G) (t : Task) (left left' : ℕ) (more rest after : List Task) → left ≡ left' + 1 → after ≡ more ++ rest → Performs old new (Ok more) (perform t)
      → Advances {A = Unit {0}} old new left (t ∷ rest) left' after (Ok tt)
  task_done old new t left left' more rest after one is p = record { sound = p.sound; goes = done_goes old new t left left' more rest after one is p }

  -- the same under another name of what was to be done
  pub advances_as : {old new : Run R G} {left left' : ℕ} {before named after : List Task} {r : Result (Unit {0}) Halt} → named ≡ before → Advances old new left before left' after r → Advances old new left named left' after r
  advances_as {old = old} {new = new} {left = left} {left' = left'} {after = after} {r = r} same p = let P : List Task → Type 0 = λ ts. Advances old new left ts left' after r in subst P (sym same) p

  -- a task that is rejected ends the run
  failed_goes : (old new : Run R G) (t : Task) (left left' : ℕ) (spot : Spot) (halt : Halt) (failure : CommandFailure) (rest after : List Task) → left ≡ left' + 1 → spot ≡ old.cursor.spot → halt ≡ halt_of spot (site_of t) failure → Performs {A = List Task} old new (Err failure) (perform t)
      → AdvancesSuchThat old.cursor new.cursor (λ d. ContinuesWith {A = Unit {0}} d (Err halt) left' after (state new) (run d left (t ∷ rest) (state old)))
  failed_goes old new t left left' spot halt failure rest after one there is p =
      advances_so p.goes (λ d stand e.
      let P : Halt → Type 0 = λ h. ContinuesWith {A = Unit {0}} d (Err h) left' after (state new) (run d left (t ∷ rest) (state old)) in
      subst P (sym is) (follows_as {A = Unit {0}} d (Err (halt_of spot (site_of t) failure)) left' after (state new) _ _ (paid d t left left' (state old) rest one)
      (failed_by d (site_of t) old.cursor.spot.offset left' spot failure (state new) (perform t d (state old)) (λ more u. run d left' (more ++ rest) u) after (there ∙ stand.before.spot) e)))

  pub task_failed : (old new : Run R G) (t : Task) (left left' : ℕ) (spot : Spot) (halt : Halt) (failure : CommandFailure) (rest after : List Task) → left ≡ left' + 1 → spot ≡ old.cursor.spot → halt ≡ halt_of spot (site_of t) failure → Performs {A = List Task} old new (Err failure) (perform t)
      → Advances {A = Unit {0}} old new left (t ∷ rest) left' after (Err halt)
  task_failed old new t left left' spot halt failure rest after one there is p = record { sound = tt; goes = failed_goes old new t left left' spot halt failure rest after one there is p }

  -- so does a turn, which passes nothing: it began where it ends
  pub turn_failed : (old new : Run R G) (loop : Loop) (k left left' : ℕ) (spot : Spot) (halt : Halt) (failure : CommandFailure) (rest after : List Task) → left ≡ left' + 1 → spot ≡ new.cursor.spot → halt ≡ halt_of spot (At loop.place) failure → Performs {A = List Task} old new (Err failure) (run_turn loop k)
      → Advances {A = Unit {0}} old new left (turn loop k ∷ rest) left' after (Err halt)
  turn_failed old new loop k left left' spot halt failure rest after one there is p = record {
    sound = tt;
    goes = advances_so p.goes (λ d stand e.
        let P : Halt → Type 0 = λ h. ContinuesWith {A = Unit {0}} d (Err h) left' after (state new) (run d left (turn loop k ∷ rest) (state old)) in
        subst P (sym is) (follows_as {A = Unit {0}} d (Err (halt_of spot (At loop.place) failure)) left' after (state new) _ _ (paid d (turn loop k) left left' (state old) rest one)
        (turn_failed_by d (At loop.place) loop k left' spot failure (state old) (state new) (λ more u. run d left' (more ++ rest) u) after (there ∙ stand.after.spot) e)));
  }

  -- a task with no step left ends the run
  unpaid_goes : (old : Run R G) (t : Task) (left left' : ℕ) (spot : Spot) (halt : Halt) (rest after : List Task) → left ≡ 0 → left' ≡ 0 → spot ≡ old.cursor.spot → halt ≡ halts.Outcome (at_limit spot (site_of t))
      → AdvancesSuchThat old.cursor old.cursor (λ d. ContinuesWith {A = Unit {0}} d (Err halt) left' after (state old) (run d left (t ∷ rest) (state old)))
  unpaid_goes old t left left' spot halt rest after none none' there is =
      advances_so (advances_nowhere old.cursor) (λ d stand _.
      let P : Halt → Type 0 = λ h. ContinuesWith {A = Unit {0}} d (Err h) left' after (state old) (run d left (t ∷ rest) (state old)) in
      let at : spot ≡ spot_at d.bytes old.cursor.spot.offset = there ∙ stand.before.spot in
      subst P (sym is) (ap (λ n. run d n (t ∷ rest) (state old)) none ∙ (λ i. stopped (at_limit (sym at i) (site_of t)) old.cursor.spot.offset (sym none' i))))

  pub task_unpaid : (old : Run R G) (t : Task) (left left' : ℕ) (spot : Spot) (halt : Halt) (rest after : List Task) (q : Result (Unit {0}) Halt) → IsErr q × IsErrAnd q (λ e. e ≡ halt) → left ≡ 0 → left' ≡ 0 → spot ≡ old.cursor.spot → halt ≡ halts.Outcome (at_limit spot (site_of t))
      → Advances {A = Unit {0}} old old left (t ∷ rest) left' after q
  task_unpaid old t left left' spot halt rest after (Ok x) q none none' there is = let e : true ≡ false = sym q.0 in cc
  task_unpaid old t left left' spot halt rest after (Err e) q none none' there is = record { sound = tt; goes = unpaid_goes old t left left' spot e rest after none none' there (q.1 ∙ is) }

  -- a command that stands in no other, by its answer
  pub task_does : (old new : Run R G) (t : Task) (left left' : ℕ) (rest after : List Task) (spot : Spot) (site : Site) (r : Result (Unit {0}) CommandFailure) → left ≡ left' + 1 → after ≡ rest → spot ≡ old.cursor.spot → site ≡ site_of t → Performs {A = List Task} old new (map_ok (λ _. []) r) (perform t)
      → Advances {A = Unit {0}} old new left (t ∷ rest) left' after (halt_result spot site r)
  task_does old new t left left' rest after spot site (Ok x) one is there at p = task_done old new t left left' [] rest after one is p
  task_does old new t left left' rest after spot site (Err failure) one is there at p =
      task_failed old new t left left' spot (halt_of spot site failure) failure rest after one there (ap (λ s. halt_of spot s failure) at) p

  -- a command that was started with this answer
  pub task_opens : (old new : Run R G) (c : CommandTree) (left left' : ℕ) (rest after : List Task) (spot : Spot) (site : Site) (r : Result (Unit {0}) CommandFailure) → left ≡ left' + 1 → spot ≡ old.cursor.spot → site ≡ site_of (start c)
      → Opens old new rest after c r → Advances {A = Unit {0}} old new left (start c ∷ rest) left' after (halt_result spot site r)
  task_opens old new c left left' rest after spot site (Ok x) one there at opens = task_done old new (start c) left left' opens.more rest after one opens.comes_first opens.performs
  task_opens old new c left left' rest after spot site (Err failure) one there at opens =
      task_failed old new (start c) left left' spot (halt_of spot site failure) failure rest after one there (ap (λ s. halt_of spot s failure) at) opens.performs

  -- what fails leaves nothing
  pub opens_none : (old new : Run R G) (rest after : List Task) (c : CommandTree) (failure : CommandFailure) (q : Result (Unit {0}) CommandFailure) → IsErr q × IsErrAnd q (λ e. e ≡ failure)
      → Performs {A = List Task} old new (Err failure) (act_of c) → Opens old new rest after c q
  opens_none old new rest after c failure (Ok x) is p = let e : true ≡ false = sym is.0 in cc
  opens_none old new rest after c failure (Err e) is p = record { more = []; performs = answers_as (ap Err is.1) p; comes_first = tt }

  -- under the names of the command, of the state before it and of what comes behind it
  pub opens_as : {old before new : Run R G} {rest named after : List Task} {c d : CommandTree} {r : Result (Unit {0}) CommandFailure} → before ≡ old → c ≡ d → named ≡ rest → Opens before new named after d r → Opens old new rest after c r
  opens_as {old = old} {before = before} {new = new} {named = named} {after = after} {c = c} {r = r} stays is same opens =
      let P : Run R G → Type 0 = λ run. Opens run new named after c r in
      let Q : CommandTree → Type 0 = λ t. Opens before new named after t r in
      let S : List Task → Type 0 = λ ts. Opens old new ts after c r in
      subst S same (subst P stays (subst Q (sym is) opens))

  -- the same with no step left
  pub task_not_paid : (old : Run R G) (t : Task) (left left' : ℕ) (spot : Spot) (site : Site) (failure : CommandFailure) (rest after : List Task) (q : Result (Unit {0}) CommandFailure) → IsErr q × IsErrAnd q (λ e. e ≡ failure) → failure ≡ Stopped StepLimit → left ≡ 0 → left' ≡ 0 → spot ≡ old.cursor.spot → site ≡ site_of t
      → Advances {A = Unit {0}} old old left (t ∷ rest) left' after (halt_result spot site q)
  task_not_paid old t left left' spot site failure rest after (Ok x) q limit none none' there at = let e : true ≡ false = sym q.0 in cc
  task_not_paid old t left left' spot site failure rest after (Err e) q limit none none' there at =
      task_unpaid old t left left' spot (halt_of spot site e) rest after (Err (halt_of spot site e)) (refl, refl) none none' there (ap (halt_of spot site) (q.1 ∙ limit) ∙ ap (λ s. halts.Outcome (at_limit spot s)) at)

  -- under its name the halt of a failure
  pub halted_as : {old new : Run R G} {left left' : ℕ} {before after : List Task} {halt : Halt} (spot there : Spot) (site : Site) (failure : CommandFailure) → halt ≡ halt_of spot site failure → spot ≡ there → Advances {A = Unit {0}} old new left before left' after (Err (halt_of there site failure)) → Advances {A = Unit {0}} old new left before left' after (Err halt)
  halted_as {old = old} {new = new} {left = left} {left' = left'} {before = before} {after = after} spot there site failure is same p = let P : Halt → Type 0 = λ h. Advances {A = Unit {0}} old new left before left' after (Err h) in subst P (sym (is ∙ ap (λ s. halt_of s site failure) same)) p

  -- the same at the end of the program
  pub ends_done : (old new : Run R G) (t : Task) (left left' : ℕ) (before : List Task) → left ≡ left' + 1 → before ≡ t ∷ [] → Performs old new (Ok []) (perform t) → RunsTo {A = Unit {0}} old new (λ d. run d left before (state old)) left' (Ok tt)
  ends_done old new t left left' before one is p = record { sound = p.sound; goes = advances_so (done_goes old new t left left' [] [] [] one refl p) (λ d _ e. ap (λ ts. run d left ts (state old)) is ∙ e) }

  pub ends_failed : (old new : Run R G) (t : Task) (left left' : ℕ) (before : List Task) (spot : Spot) (halt : Halt) (failure : CommandFailure) → left ≡ left' + 1 → before ≡ t ∷ [] → spot ≡ old.cursor.spot → halt ≡ halt_of spot (site_of t) failure → Performs {A = List Task} old new (Err failure) (perform t)
      → RunsTo {A = Unit {0}} old new (λ d. run d left before (state old)) left' (Err halt)
  ends_failed old new t left left' before spot halt failure one is there same p = record { sound = tt; goes = advances_so (failed_goes old new t left left' spot halt failure [] [] one there same p) (λ d _ e. follows_as {A = Unit {0}} d (Err halt) left' [] (state new) _ _ (ap (λ ts. run d left ts (state old)) is) e) }

  pub ends_unpaid : (old : Run R G) (t : Task) (left left' : ℕ) (before : List Task) (spot : Spot) (halt : Halt) (q : Result (Unit {0}) Halt) → IsErr q × IsErrAnd q (λ e. e ≡ halt) → left ≡ 0 → left' ≡ 0 → before ≡ t ∷ [] → spot ≡ old.cursor.spot → halt ≡ halts.Outcome (at_limit spot (site_of t))
      → RunsTo {A = Unit {0}} old old (λ d. run d left before (state old)) left' q
  ends_unpaid old t left left' before spot halt (Ok x) q none none' is there same = let e : true ≡ false = sym q.0 in cc
  ends_unpaid old t left left' before spot halt (Err e) q none none' is there same = record { sound = tt; goes = advances_so (unpaid_goes old t left left' spot e [] [] none none' there (q.1 ∙ same)) (λ d _ f. follows_as {A = Unit {0}} d (Err e) left' [] (state old) _ _ (ap (λ ts. run d left ts (state old)) is) f) }

  -- a task that is done, and then the first of its tasks
  pub task_then : (a b c : Run R G) (t : Task) (left left' now : ℕ) (more rest all after : List Task) (r : Result (Unit {0}) Halt) → left ≡ left' + 1 → all ≡ more ++ rest → Performs a b (Ok more) (perform t) → Advances b c left' all now after r → Advances a c left (t ∷ rest) now after r
  task_then a b c t left left' now more rest all after r one is p q = record {
    sound = q.sound;
    goes = advances_so (advances_both (done_goes a b t left left' more rest all one is p) q.goes) (λ d _ e. follows_as d r now after (state c) _ _ e.0 e.1);
  }

  -- what was done so far, and then the end
  pub ends_early : (a b c : Run R G) (left left' now : ℕ) (before all after : List Task) (halt : Halt) (q : Result (Unit {0}) Halt) → IsErr q × IsErrAnd q (λ e. e ≡ halt) → AdvancesSuchThat a.cursor b.cursor (λ d. run d left before (state a) ≡ run d left' all (state b))
      → Advances {A = Unit {0}} b c left' all now after (Err halt) → RunsTo {A = Unit {0}} a c (λ d. run d left before (state a)) now q
  ends_early a b c left left' now before all after halt (Ok x) q goes p = let e : true ≡ false = sym q.0 in cc
  ends_early a b c left left' now before all after halt (Err e) q goes p =
      let P : Halt → Type 0 = λ h. RunsTo {A = Unit {0}} a c (λ d. run d left before (state a)) now (Err h) in
      subst P (sym q.1) (record { sound = tt; goes = advances_so (advances_both goes p.goes) (λ d _ f. halted d halt now after [] (state c) _ _ f.0 f.1) })

  -- what stands before the first command, and then the tasks
  pub start_done : (a b c : Run R G) (n left' : ℕ) (ts : List Task) (r : Result (Unit {0}) Halt) → Performs {A = ⊤} a b (Ok tt) first_skip → RunsTo b c (λ d. run d n ts (state b)) left' r → RunsTo a c (λ d. run_from d n ts (state a)) left' r
  start_done a b c n left' ts r p q = record {
    sound = q.sound;
    goes = advances_so (advances_both p.goes q.goes) (λ d _ e. follows_as d r left' [] (state c) _ _ (ap (λ x. resume d Start a.cursor.spot.offset n x (λ _ t. run d n ts t)) e.0) e.1);
  }

  pub start_failed : (a b : Run R G) (n : ℕ) (ts : List Task) (spot : Spot) (halt : Halt) (failure : CommandFailure) → spot ≡ a.cursor.spot → halt ≡ halt_of spot Start failure → Performs {A = ⊤} a b (Err failure) first_skip
      → RunsTo {A = Unit {0}} a b (λ d. run_from d n ts (state a)) n (Err halt)
  start_failed a b n ts spot halt failure there is p = record {
    sound = tt;
    goes = advances_so p.goes (λ d stand e.
        let P : Halt → Type 0 = λ h. ContinuesWith {A = Unit {0}} d (Err h) n [] (state b) (run_from d n ts (state a)) in
        subst P (sym is) (failed_by d Start a.cursor.spot.offset n spot failure (state b) (first_skip d (state a)) (λ _ t. run d n ts t) [] (there ∙ stand.before.spot) e));
  }

-- what a turn that goes on leaves
pub turn_left : (separator body : List Task) (t u : Task) (rest all : List Task) → t ≡ u → all ≡ (body ++ t ∷ []) ++ rest → separator ++ all ≡ (separator ++ body ++ u ∷ []) ++ rest
turn_left separator body t u rest all same is = ap (λ xs. separator ++ xs) (is ∙ ap (λ x. (body ++ x ∷ []) ++ rest) same) ∙ simp append_assoc refl

-- a run that ended has its meaning
pub finds : (mode : Mode) (d : TestData) (r : Result (Unit {0}) Halt) (checked : Checked) (program : CommandList) (presets : List Preset) (limit left : ℕ) (s : State) → Concludes r checked.outcome → checked.steps ≡ limit - left → checked.consumed ≡ s.offset
    → ContinuesWith d r left [] s (run_from d limit (tasks program ++ finish ∷ []) (at_start mode presets)) → Finds checked (meaning mode program presets d limit)
finds mode d (Ok x) checked program presets limit left s by steps there f =
    record { outcome = by ∙ sym (ap (λ e. (with_steps limit e).outcome) f); steps = steps ∙ sym (ap (λ e. (with_steps limit e).steps) f); consumed = there ∙ sym (ap (λ e. (with_steps limit e).consumed) f) }
finds mode d (Err (halts.Outcome o)) checked program presets limit left s by steps there f =
    record { outcome = by ∙ sym (ap (λ e. (with_steps limit e).outcome) f); steps = steps ∙ sym (ap (λ e. (with_steps limit e).steps) f); consumed = there ∙ sym (ap (λ e. (with_steps limit e).consumed) f) }
finds mode d (Err halts.Memory) checked program presets limit left s by steps there f = absurd by
