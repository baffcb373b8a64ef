-- How a run depends on its limit of steps.
use Rattle.std.proofs.Common.{◌≡◌, ℕ, zero, suc, ◌+◌, ◌-◌, ◌<◌, ◌≤◌, List, [], ◌∷◌, ◌++◌, ◌⊎◌, inl, inr, refl, ap, sym, ◌∙◌, subst, arith, le_refl, le_trans, eq-or-lt_of_le}
use Rattle.ctd_source.specs.TestData.{TestData, spot_at}
use Rattle.ctd_program.specs.declared.mode.Mode.{Mode}
use Rattle.ctd_program.specs.declared.preset.Preset.{Preset}
use Rattle.ctd_program.specs.Tree.{CommandList}
use Rattle.ctd_outcome.specs.declared.outcome.Site.{Site}
use Rattle.ctd_outcome.specs.declared.outcome.Site.TheVariants.{Start}
use Rattle.ctd_outcome.specs.declared.outcome.Outcome.{Outcome}
use Rattle.ctd_outcome.specs.declared.outcome.Outcome.TheVariants.{Accepted, Rejected, Stopped}
use Rattle.ctd_command.specs.State.{State, Effect, done, rejected, faulty}
use Rattle.ctd_command.specs.Blanks.{first_skip}
use Rattle.ctd_check.specs.Loops.{Task, finish, tasks}
use Rattle.ctd_check.specs.Run.{site_of, perform, RunResult, all_done, stopped, resume, run, run_from, Meaning, with_steps, at_start, meaning}
use Rattle.ctd_check.specs.calls.Laws.{IsStepLimit, StopsAtLimit}
use Rattle.ctd_check.proofs.ActLocality.{Forward}
use Rattle.ctd_check.proofs.CommandLocality.{task_is_local, first_skip_is_local}

-- the parts of an end
abbrev pub outcome_of : RunResult → Outcome
outcome_of (all_done after left) = Accepted
outcome_of (stopped outcome consumed left) = outcome

abbrev pub consumed_of : RunResult → ℕ
consumed_of (all_done after left) = after.offset
consumed_of (stopped outcome consumed left) = consumed

abbrev pub left_of : RunResult → ℕ
left_of (all_done after left) = left
left_of (stopped outcome consumed left) = left

-- the same end with other steps left
abbrev pub leaving : ℕ → RunResult → RunResult
leaving k (all_done after left) = all_done after k
leaving k (stopped outcome consumed left) = stopped outcome consumed k

-- an end at the limit, once at most so many bytes are consumed
record Short (most : ℕ) (e : RunResult) : Type 0 where
  outcome : IsStepLimit (outcome_of e)
  left : left_of e ≡ 0
  consumed : consumed_of e ≤ most

-- No more steps are left than there were.
resumed_within : {A : Type 0} (d : TestData) (site : Site) (p n : ℕ) (e : Effect A) (rest : A → State → RunResult) → ((x : A) (t : State) → left_of (rest x t) ≤ n) → left_of (resume d site p n e rest) ≤ n
resumed_within d site p n (done x after) rest within = within x after
resumed_within d site p n (rejected reason consumed) rest within = le_refl n
resumed_within d site p n (faulty fault consumed) rest within = le_refl n

pub left_within : (d : TestData) (n : ℕ) (ts : List Task) (s : State) → left_of (run d n ts s) ≤ n
left_within d n [] s = le_refl n
left_within d zero (t ∷ ts) s = le_refl 0
left_within d (suc n) (t ∷ ts) s =
    let up : n ≤ suc n = omega arith in
    le_trans (resumed_within d (site_of t) s.offset n (perform t d s) (λ more u. run d n (more ++ ts) u) (λ more u. left_within d n (more ++ ts) u)) up

-- Nothing is given back of what was consumed.
resumed_forward : {A : Type 0} (d : TestData) (site : Site) (p n : ℕ) (e : Effect A) (rest : A → State → RunResult) → Forward p e → ((x : A) (t : State) → t.offset ≤ consumed_of (rest x t)) → p ≤ consumed_of (resume d site p n e rest)
resumed_forward d site p n (done x after) rest forward later = le_trans forward (later x after)
resumed_forward d site p n (rejected reason consumed) rest forward later = forward
resumed_forward d site p n (faulty fault consumed) rest forward later = forward.0

pub run_forward : (d : TestData) (n : ℕ) (ts : List Task) (s : State) → s.offset ≤ consumed_of (run d n ts s)
run_forward d n [] s = le_refl s.offset
run_forward d zero (t ∷ ts) s = le_refl s.offset
run_forward d (suc n) (t ∷ ts) s = resumed_forward d (site_of t) s.offset n (perform t d s) (λ more u. run d n (more ++ ts) u) ((task_is_local t).forward d s) (λ more u. run_forward d n (more ++ ts) u)

-- At its limit a run has paid all.
resumed_at_limit : {A : Type 0} (d : TestData) (site : Site) (p n : ℕ) (e : Effect A) (rest : A → State → RunResult) → Forward p e → ((x : A) (t : State) → IsStepLimit (outcome_of (rest x t)) → left_of (rest x t) ≡ 0)
    → IsStepLimit (outcome_of (resume d site p n e rest)) → left_of (resume d site p n e rest) ≡ 0
resumed_at_limit d site p n (done x after) rest forward later h = later x after h
resumed_at_limit d site p n (rejected reason consumed) rest forward later h = absurd h
resumed_at_limit d site p n (faulty fault consumed) rest forward later h = absurd (forward.1 h)

at_limit : (d : TestData) (n : ℕ) (ts : List Task) (s : State) → IsStepLimit (outcome_of (run d n ts s)) → left_of (run d n ts s) ≡ 0
at_limit d n [] s h = absurd h
at_limit d zero (t ∷ ts) s h = refl
at_limit d (suc n) (t ∷ ts) s h = resumed_at_limit d (site_of t) s.offset n (perform t d s) (λ more u. run d n (more ++ ts) u) ((task_is_local t).forward d s) (λ more u. at_limit d n (more ++ ts) u) h

-- With enough steps a run ends as it did, and leaves as many more as there were more.
resumed_enough : {A : Type 0} (d : TestData) (site : Site) (p n m k : ℕ) (e : Effect A) (rest other : A → State → RunResult)
    → ((x : A) (t : State) → (IsStepLimit (outcome_of (rest x t)) → ⊥) → n + k ≡ m + left_of (rest x t) → other x t ≡ leaving k (rest x t))
    → (IsStepLimit (outcome_of (resume d site p n e rest)) → ⊥) → n + k ≡ m + left_of (resume d site p n e rest) → resume d site p m e other ≡ leaving k (resume d site p n e rest)
resumed_enough d site p n m k (done x after) rest other enough before same = enough x after before same
resumed_enough d site p n m k (rejected reason consumed) rest other enough before same =
    let is : m ≡ k = omega arith in ap (stopped (Rejected (spot_at d.bytes p) site reason) consumed) is
resumed_enough d site p n m k (faulty fault consumed) rest other enough before same =
    let is : m ≡ k = omega arith in ap (stopped (Stopped (spot_at d.bytes p) site fault) consumed) is

run_enough : (d : TestData) (n m k : ℕ) (ts : List Task) (s : State) → (IsStepLimit (outcome_of (run d n ts s)) → ⊥) → n + k ≡ m + left_of (run d n ts s) → run d m ts s ≡ leaving k (run d n ts s)
run_enough d n m k [] s before same = let is : m ≡ k = omega arith in ap (all_done s) is
run_enough d zero m k (t ∷ ts) s before same = absurd (before refl)
run_enough d (suc n) zero k (t ∷ ts) s before same =
    let within : left_of (run d (suc n) (t ∷ ts) s) ≤ n = resumed_within d (site_of t) s.offset n (perform t d s) (λ more u. run d n (more ++ ts) u) (λ more u. left_within d n (more ++ ts) u) in
    absurd (omega arith)
run_enough d (suc n) (suc m) k (t ∷ ts) s before same =
    let one_less : n + k ≡ m + left_of (run d (suc n) (t ∷ ts) s) = omega arith in
    resumed_enough d (site_of t) s.offset n m k (perform t d s) (λ more u. run d n (more ++ ts) u) (λ more u. run d m (more ++ ts) u) (λ more u. run_enough d n m k (more ++ ts) u) before one_less

-- With fewer steps than it paid a run ends at its limit.
resumed_short : {A : Type 0} (d : TestData) (site : Site) (p n m : ℕ) (e : Effect A) (rest other : A → State → RunResult)
    → ((x : A) (t : State) → m + left_of (rest x t) < n → Short (consumed_of (rest x t)) (other x t))
    → m + left_of (resume d site p n e rest) < n → Short (consumed_of (resume d site p n e rest)) (resume d site p m e other)
resumed_short d site p n m (done x after) rest other short fewer = short x after fewer
resumed_short d site p n m (rejected reason consumed) rest other short fewer = absurd (omega arith)
resumed_short d site p n m (faulty fault consumed) rest other short fewer = absurd (omega arith)

run_short : (d : TestData) (n m : ℕ) (ts : List Task) (s : State) → m + left_of (run d n ts s) < n → Short (consumed_of (run d n ts s)) (run d m ts s)
run_short d n m [] s fewer = absurd (omega arith)
run_short d zero m (t ∷ ts) s fewer = absurd (omega arith)
run_short d (suc n) zero (t ∷ ts) s fewer = record { outcome = refl; left = refl; consumed = run_forward d (suc n) (t ∷ ts) s }
run_short d (suc n) (suc m) (t ∷ ts) s fewer =
    let one_less : m + left_of (run d (suc n) (t ∷ ts) s) < n = omega arith in
    resumed_short d (site_of t) s.offset n m (perform t d s) (λ more u. run d n (more ++ ts) u) (λ more u. run d m (more ++ ts) u) (λ more u. run_short d n m (more ++ ts) u) one_less

-- With more steps a run consumes no less.
resumed_more : {A : Type 0} (d : TestData) (site : Site) (p n m : ℕ) (e : Effect A) (rest other : A → State → RunResult) → ((x : A) (t : State) → consumed_of (rest x t) ≤ consumed_of (other x t))
    → consumed_of (resume d site p n e rest) ≤ consumed_of (resume d site p m e other)
resumed_more d site p n m (done x after) rest other more = more x after
resumed_more d site p n m (rejected reason consumed) rest other more = le_refl consumed
resumed_more d site p n m (faulty fault consumed) rest other more = le_refl consumed

run_more : (d : TestData) (n m : ℕ) (ts : List Task) (s : State) → n ≤ m → consumed_of (run d n ts s) ≤ consumed_of (run d m ts s)
run_more d n m [] s less = le_refl s.offset
run_more d zero m (t ∷ ts) s less = run_forward d m (t ∷ ts) s
run_more d (suc n) zero (t ∷ ts) s less = absurd (omega arith)
run_more d (suc n) (suc m) (t ∷ ts) s less =
    let one_less : n ≤ m = omega arith in
    resumed_more d (site_of t) s.offset n m (perform t d s) (λ more u. run d n (more ++ ts) u) (λ more u. run d m (more ++ ts) u) (λ more u. run_more d n m (more ++ ts) u one_less)

-- What a meaning tells of an end.
steps_enough : (n m : ℕ) (e f : RunResult) → left_of e ≤ n → ((IsStepLimit (outcome_of e) → ⊥) → (k : ℕ) → n + k ≡ m + left_of e → f ≡ leaving k e)
    → (IsStepLimit (with_steps n e).outcome → ⊥) → (with_steps n e).steps ≤ m → with_steps m f ≡ with_steps n e
steps_enough n m (all_done after left) f within enough before paid =
    let k : ℕ = m - (n - left) in
    let same : n + k ≡ m + left = omega arith in
    let steps : m - k ≡ n - left = omega arith in
    let meaning_of : ℕ → Meaning = λ j. record { outcome = Accepted; steps = j; consumed = after.offset } in
    ap (with_steps m) (enough before k same) ∙ ap meaning_of steps
steps_enough n m (stopped outcome consumed left) f within enough before paid =
    let k : ℕ = m - (n - left) in
    let same : n + k ≡ m + left = omega arith in
    let steps : m - k ≡ n - left = omega arith in
    let meaning_of : ℕ → Meaning = λ j. record { outcome = outcome; steps = j; consumed = consumed } in
    ap (with_steps m) (enough before k same) ∙ ap meaning_of steps

steps_short : (m most : ℕ) (f : RunResult) → Short most f → StopsAtLimit m most (with_steps m f)
steps_short m most (all_done after left) short = absurd short.outcome
steps_short m most (stopped outcome consumed left) short = record { outcome = short.outcome; steps = omega (arith, short.left); consumed = short.consumed }

steps_fewer : (n m : ℕ) (e f : RunResult) → left_of e ≤ n → (m + left_of e < n → Short (consumed_of e) f) → m < (with_steps n e).steps → StopsAtLimit m (with_steps n e).consumed (with_steps m f)
steps_fewer n m (all_done after left) f within short fewer = steps_short m after.offset f (short (omega arith))
steps_fewer n m (stopped outcome consumed left) f within short fewer = steps_short m consumed f (short (omega arith))

lower_is_short : (n m : ℕ) (e f : RunResult) → IsStepLimit (outcome_of e) → left_of e ≡ 0 → (m + left_of e < n → Short (consumed_of e) f) → (m ≡ n → f ≡ e) → (m ≡ n) ⊎ (m < n) → Short (consumed_of e) f
lower_is_short n m e f limit none short same (inl is) =
    let P : RunResult → Type 0 = λ x. Short (consumed_of e) x in
    let itself : Short (consumed_of e) e = record { outcome = limit; left = none; consumed = le_refl (consumed_of e) } in
    subst P (sym (same is)) itself
lower_is_short n m e f limit none short same (inr less) = short (omega arith)

steps_lower : (n m : ℕ) (e f : RunResult) → (IsStepLimit (outcome_of e) → left_of e ≡ 0) → (m + left_of e < n → Short (consumed_of e) f) → (m ≡ n → f ≡ e) → IsStepLimit (with_steps n e).outcome → m ≤ n
    → StopsAtLimit m (with_steps n e).consumed (with_steps m f)
steps_lower n m (all_done after left) f none short same limit less = absurd limit
steps_lower n m (stopped outcome consumed left) f none short same limit less =
    steps_short m consumed f (lower_is_short n m (stopped outcome consumed left) f limit (none limit) short same (eq-or-lt_of_le less))

paid_within : (n : ℕ) (e : RunResult) → (with_steps n e).steps ≤ n
paid_within n (all_done after left) = omega arith
paid_within n (stopped outcome consumed left) = omega arith

pub steps_consumed : (n : ℕ) (e : RunResult) → (with_steps n e).consumed ≡ consumed_of e
steps_consumed n (all_done after left) = refl
steps_consumed n (stopped outcome consumed left) = refl

-- The meaning of a program.
module _ (mode : Mode) (program : CommandList) (presets : List Preset) (d : TestData) where
  abbrev todo : List Task
  todo = tasks program ++ finish ∷ []

  abbrev begin : State
  begin = at_start mode presets

  abbrev whole : ℕ → RunResult
  whole n = run_from d n todo begin

  whole_within : (n : ℕ) → left_of (whole n) ≤ n
  whole_within n = resumed_within d Start 0 n (first_skip d begin) (λ _ t. run d n todo t) (λ _ t. left_within d n todo t)

  whole_fewer : (n m : ℕ) → m + left_of (whole n) < n → Short (consumed_of (whole n)) (whole m)
  whole_fewer n m = resumed_short d Start 0 n m (first_skip d begin) (λ _ t. run d n todo t) (λ _ t. run d m todo t) (λ _ t. run_short d n m todo t)

  pub steps_within : (n : ℕ) → (meaning mode program presets d n).steps ≤ n
  steps_within n = paid_within n (whole n)

  pub enough_steps : (n m : ℕ) → (IsStepLimit (meaning mode program presets d n).outcome → ⊥) → (meaning mode program presets d n).steps ≤ m → meaning mode program presets d m ≡ meaning mode program presets d n
  enough_steps n m = steps_enough n m (whole n) (whole m) (whole_within n)
      (λ before k same. resumed_enough d Start 0 n m k (first_skip d begin) (λ _ t. run d n todo t) (λ _ t. run d m todo t) (λ _ t. run_enough d n m k todo t) before same)

  pub too_few_steps : (n m : ℕ) → m < (meaning mode program presets d n).steps → StopsAtLimit m (meaning mode program presets d n).consumed (meaning mode program presets d m)
  too_few_steps n m = steps_fewer n m (whole n) (whole m) (whole_within n) (whole_fewer n m)

  pub lower_limits : (n m : ℕ) → IsStepLimit (meaning mode program presets d n).outcome → m ≤ n → StopsAtLimit m (meaning mode program presets d n).consumed (meaning mode program presets d m)
  lower_limits n m = steps_lower n m (whole n) (whole m)
      (resumed_at_limit d Start 0 n (first_skip d begin) (λ _ t. run d n todo t) (first_skip_is_local.forward d begin) (λ _ t. at_limit d n todo t))
      (whole_fewer n m) (λ is. ap whole is)

  pub more_steps : (n m : ℕ) → n ≤ m → (meaning mode program presets d n).consumed ≤ (meaning mode program presets d m).consumed
  more_steps n m less =
      let more : consumed_of (whole n) ≤ consumed_of (whole m) = resumed_more d Start 0 n m (first_skip d begin) (λ _ t. run d n todo t) (λ _ t. run d m todo t) (λ _ t. run_more d n m todo t less) in
      omega (arith, steps_consumed n (whole n), steps_consumed m (whole m), more)

-- Tasks that were all done cost the same under every limit that allows it.
pub same_cost : (d : TestData) (cost left other : ℕ) (ts : List Task) (s after : State) → run d (cost + left) ts s ≡ all_done after left → run d (cost + other) ts s ≡ all_done after other
same_cost d cost left other ts s after is =
    let before : IsStepLimit (outcome_of (run d (cost + left) ts s)) → ⊥ = λ h. (let P : RunResult → Type 0 = λ e. IsStepLimit (outcome_of e) in subst P is h) in
    let same : (cost + left) + other ≡ (cost + other) + left_of (run d (cost + left) ts s) = omega (arith, ap left_of is) in
    run_enough d (cost + left) (cost + other) other ts s before same ∙ ap (leaving other) is
