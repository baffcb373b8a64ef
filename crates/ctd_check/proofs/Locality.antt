-- The run over data that broke off, and over longer data: it is the same, or it is stopped by the failed read.
use Rattle.std.proofs.Common.{◌≡◌, ℕ, zero, suc, ◌+◌, ◌<◌, ◌≤◌, Bool, List, [], ◌∷◌, ◌++◌, ◌⊎◌, inl, inr, length, take, refl, ap, sym, ◌∙◌, subst, arith, le_refl, le_trans, length-take, take_all}
use Rattle.std.proofs.lemmas.Bool.{cases_lt}
use Rattle.ctd_source.specs.declared.limits.TheConstants.{WINDOW}
use Rattle.ctd_source.specs.declared.spot.Spot.{Spot}
use Rattle.ctd_source.specs.declared.source.Seen.TheVariants.{Going, Broken}
use Rattle.ctd_source.specs.TestData.{TestData, spot_at}
use Rattle.ctd_source.specs.Agreement.{Agrees}
use Rattle.ctd_source.specs.calls.Agreement.{known}
use Rattle.ctd_program.specs.declared.mode.Mode.{Mode}
use Rattle.ctd_program.specs.declared.preset.Preset.{Preset}
use Rattle.ctd_program.specs.Tree.{CommandList}
use Rattle.ctd_outcome.specs.declared.reason.Fault.TheVariants.{StepLimit, Read}
use Rattle.ctd_outcome.specs.declared.outcome.Site.{Site}
use Rattle.ctd_outcome.specs.declared.outcome.Site.TheVariants.{Start}
use Rattle.ctd_outcome.specs.declared.outcome.Outcome.TheVariants.{Rejected, Stopped}
use Rattle.ctd_command.specs.State.{State, Effect, done, rejected, faulty}
use Rattle.ctd_command.specs.Blanks.{first_skip}
use Rattle.ctd_check.specs.Loops.{Task, finish, tasks}
use Rattle.ctd_check.specs.Run.{site_of, perform, RunResult, stopped, resume, run, run_from, with_steps, at_start, meaning}
use Rattle.ctd_check.specs.calls.Laws.{AgreeUpTo, IsReadFault}
use Rattle.ctd_check.proofs.LongerData.{Extends, same_spot}
use Rattle.ctd_check.proofs.ActLocality.{Inside, end_of, SameOrCut, same, cut}
use Rattle.ctd_check.proofs.CommandLocality.{task_is_local, first_skip_is_local}
use Rattle.ctd_check.proofs.StepLimits.{consumed_of, run_forward, steps_consumed}

-- an end over data of this size that broke off, and one over longer data: they are the same, or the failed read stopped the first, no further on than the second, and the data end within a window of there
data SameEndOrCut (size : ℕ) (short long : RunResult) : Type 0 where
  same_end : long ≡ short → SameEndOrCut size short long
  cut_end : (spot : Spot) (site : Site) (consumed left : ℕ) → short ≡ stopped (Stopped spot site Read) consumed left → consumed ≤ consumed_of long → size < consumed + WINDOW → SameEndOrCut size short long

-- what is done first ends no later than the run
resumed_end : {A : Type 0} (d : TestData) (site : Site) (p n : ℕ) (a : Effect A) (rest : A → State → RunResult) → ((x : A) (u : State) → u.offset ≤ consumed_of (rest x u)) → end_of a ≤ consumed_of (resume d site p n a rest)
resumed_end d site p n (done x after) rest later = later x after
resumed_end d site p n (rejected reason consumed) rest later = le_refl consumed
resumed_end d site p n (faulty fault consumed) rest later = le_refl consumed

instead : (size : ℕ) (short long other : RunResult) → other ≡ long → SameEndOrCut size short long → SameEndOrCut size short other
instead size short long other is (same_end h) = same_end (is ∙ h)
instead size short long other is (cut_end spot site consumed left h later early) =
    let behind : consumed ≤ consumed_of other = omega (arith, later, ap consumed_of is) in cut_end spot site consumed left h behind early

resumed_same : {A : Type 0} (d e : TestData) (site : Site) (p n : ℕ) (a : Effect A) (rest other : A → State → RunResult) → spot_at e.bytes p ≡ spot_at d.bytes p → Inside (length d.bytes) a
    → ((x : A) (u : State) → u.offset ≤ length d.bytes → SameEndOrCut (length d.bytes) (rest x u) (other x u)) → SameEndOrCut (length d.bytes) (resume d site p n a rest) (resume e site p n a other)
resumed_same d e site p n (done x after) rest other spots inside next = next x after inside
resumed_same d e site p n (rejected reason consumed) rest other spots inside next = same_end (ap (λ spot. stopped (Rejected spot site reason) consumed n) spots)
resumed_same d e site p n (faulty fault consumed) rest other spots inside next = same_end (ap (λ spot. stopped (Stopped spot site fault) consumed n) spots)

resumed_longer : {A : Type 0} (d e : TestData) (site : Site) (p n : ℕ) (a b : Effect A) (rest other : A → State → RunResult) → spot_at e.bytes p ≡ spot_at d.bytes p → Inside (length d.bytes) a
    → ((x : A) (u : State) → u.offset ≤ consumed_of (other x u)) → ((x : A) (u : State) → u.offset ≤ length d.bytes → SameEndOrCut (length d.bytes) (rest x u) (other x u))
    → SameOrCut (length d.bytes) a b → SameEndOrCut (length d.bytes) (resume d site p n a rest) (resume e site p n b other)
resumed_longer d e site p n a b rest other spots inside later next (same is) =
    instead (length d.bytes) (resume d site p n a rest) (resume e site p n a other) (resume e site p n b other) (ap (λ c. resume e site p n c other) is) (resumed_same d e site p n a rest other spots inside next)
resumed_longer d e site p n a b rest other spots inside later next (cut consumed is behind early) =
    cut_end (spot_at d.bytes p) site consumed n (ap (λ c. resume d site p n c rest) is) (le_trans behind (resumed_end e site p n b other later)) early

run_longer : (d e : TestData) → Extends d e → (n : ℕ) (ts : List Task) (s : State) → s.offset ≤ length d.bytes → SameEndOrCut (length d.bytes) (run d n ts s) (run e n ts s)
run_longer d e x n [] s within = same_end refl
run_longer d e x zero (task ∷ ts) s within = same_end (ap (λ spot. stopped (Stopped spot (site_of task) StepLimit) s.offset 0) (same_spot d e s.offset x within))
run_longer d e x (suc n) (task ∷ ts) s within =
    resumed_longer d e (site_of task) s.offset n (perform task d s) (perform task e s) (λ more u. run d n (more ++ ts) u) (λ more u. run e n (more ++ ts) u) (same_spot d e s.offset x within) ((task_is_local task).inside d s within)
    (λ more u. run_forward e n (more ++ ts) u) (λ more u inside. run_longer d e x n (more ++ ts) u inside) ((task_is_local task).longer d e s x within)

from_longer : (d e : TestData) → Extends d e → (n : ℕ) (ts : List Task) (s : State) → s.offset ≤ length d.bytes → SameEndOrCut (length d.bytes) (run_from d n ts s) (run_from e n ts s)
from_longer d e x n ts s within =
    resumed_longer d e Start s.offset n (first_skip d s) (first_skip e s) (λ _ u. run d n ts u) (λ _ u. run e n ts u) (same_spot d e s.offset x within) (first_skip_is_local.inside d s within)
    (λ _ u. run_forward e n ts u) (λ _ u inside. run_longer d e x n ts u inside) (first_skip_is_local.longer d e s x within)

-- The meaning of a program.
module _ (mode : Mode) (program : CommandList) (presets : List Preset) (steps : ℕ) where
  abbrev whole : TestData → RunResult
  whole d = run_from d steps (tasks program ++ finish ∷ []) (at_start mode presets)

  longer : (d e : TestData) → Extends d e → SameEndOrCut (length d.bytes) (whole d) (whole e)
  longer d e x =
      let first : 0 ≤ length d.bytes = omega arith in
      from_longer d e x steps (tasks program ++ finish ∷ []) (at_start mode presets) first

  -- Bytes that are not looked at.
  unless_read : (size : ℕ) (short long : RunResult) → (IsReadFault (with_steps steps short).outcome → ⊥) → SameEndOrCut size short long → long ≡ short
  unless_read size short long other (same_end is) = is
  unless_read size short long other (cut_end spot site consumed left is later early) = absurd (other (subst (λ w. IsReadFault (with_steps steps w).outcome) (sym is) refl))

  pub unread_do_not_count : (given : List ℕ) (d : TestData) → Agrees given Going d → (IsReadFault (meaning mode program presets (known given Broken d.limit) steps).outcome → ⊥) → meaning mode program presets d steps ≡ meaning mode program presets (known given Broken d.limit) steps
  unread_do_not_count given d begins other =
      let short : TestData = known given Broken d.limit in
      let x : Extends short d = record { broken = refl; limit = refl; bytes = begins } in
      ap (with_steps steps) (unless_read (length given) (whole short) (whole d) other (longer short d x))

  -- A window past what is consumed.
  first_bytes : TestData → ℕ → TestData
  first_bytes d t = known (take t d.bytes) Broken d.limit

  extends_first : (d e : TestData) (t : ℕ) → t ≤ length d.bytes → e.limit ≡ d.limit → take t e.bytes ≡ take t d.bytes → Extends (first_bytes d t) e
  unfolding first_bytes
  extends_first d e t long limit bytes =
      let size : length (take t d.bytes) ≡ t = omega (arith, long, length-take t d.bytes) in
      record { broken = refl; limit = limit; bytes = ap (λ k. take k e.bytes) size ∙ bytes }

  not_cut : (size : ℕ) (short long : RunResult) → consumed_of long + WINDOW ≤ size → SameEndOrCut size short long → long ≡ short
  not_cut size short long far (same_end is) = is
  not_cut size short long far (cut_end spot site consumed left is later early) = absurd (omega arith)

  not_cut_again : (size : ℕ) (short long : RunResult) → consumed_of short + WINDOW ≤ size → SameEndOrCut size short long → long ≡ short
  not_cut_again size short long far (same_end is) = is
  not_cut_again size short long far (cut_end spot site consumed left is later early) = absurd (omega (arith, far, early, ap consumed_of is))

  -- data that agree past their end are the same
  same_data : (d e : TestData) (t : ℕ) → AgreeUpTo t d e → length d.bytes < t → e ≡ d
  same_data d e t agree ends =
      let all : take t d.bytes ≡ d.bytes = take_all t d.bytes (omega arith) in
      let short : length e.bytes ≤ t = omega (arith, ap length agree.bytes, length-take t e.bytes, length-take t d.bytes) in
      let bytes : e.bytes ≡ d.bytes = sym (take_all t e.bytes short) ∙ agree.bytes ∙ all in
      let made : List ℕ → Bool → ℕ → TestData = λ xs broken limit. record { bytes = xs; broken = broken; limit = limit } in
      ap (λ xs. made xs e.broken e.limit) bytes ∙ ap (λ b. made d.bytes b e.limit) (agree.broken ends) ∙ ap (λ l. made d.bytes d.broken l) agree.limit

  same_whole : (d e : TestData) (t : ℕ) → consumed_of (whole d) + WINDOW ≤ t → AgreeUpTo t d e → (length d.bytes < t) ⊎ (t ≤ length d.bytes) → whole e ≡ whole d
  unfolding first_bytes
  same_whole d e t far agree (inl ends) = ap whole (same_data d e t agree ends)
  same_whole d e t far agree (inr long) =
      let short : TestData = first_bytes d t in
      let size : length short.bytes ≡ t = omega (arith, long, length-take t d.bytes) in
      let in_d : Extends short d = extends_first d d t long refl refl in
      let in_e : Extends short e = extends_first d e t long agree.limit agree.bytes in
      let of_d : whole d ≡ whole short = not_cut (length short.bytes) (whole short) (whole d) (omega (arith, far, size)) (longer short d in_d) in
      let of_e : whole e ≡ whole short = not_cut_again (length short.bytes) (whole short) (whole e) (omega (arith, far, size, ap consumed_of of_d)) (longer short e in_e) in
      of_e ∙ sym of_d

  pub looks_ahead : (d e : TestData) → AgreeUpTo ((meaning mode program presets d steps).consumed + WINDOW) d e → meaning mode program presets e steps ≡ meaning mode program presets d steps
  looks_ahead d e agree =
      let t : ℕ = (meaning mode program presets d steps).consumed + WINDOW in
      let far : consumed_of (whole d) + WINDOW ≤ t = omega (arith, steps_consumed steps (whole d)) in
      ap (with_steps steps) (same_whole d e t far agree (cases_lt (length d.bytes) t))
