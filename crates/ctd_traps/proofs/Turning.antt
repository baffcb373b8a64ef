-- How loops start, and how their turns begin.
use Rattle.ctd_traps.proofs.Common.{AbstractState, AreCounted, Bindings, Bool, ByTurn, Context, Counting, Divides, Effect, Enters, Err, ExprTree, FailsBy, Fault, Faults, Fits, Guard, Evaluation, GuardTree, HasNumber, HasTurns, IsAmong, IsBehind, IsCount, IsEvaluated}
use Rattle.ctd_traps.proofs.Common.{IsFreeName, IsGuard, IsIn, IsInPartition, IsKnown, IsPossible, IsTurn, IsUpperBound, Key, List, MayBe, None, Ok, OneStands, Option, PartitionIsWithin, PaysOne, Phase, PinsStand, PossibleResult, PossibleValues}
use Rattle.ctd_traps.proofs.Common.{Range, Result, Some, SparesTarget, StartsIn, StateStands, StaysIn, TestData, TestTree, Turns, Value, ValueLimits, VarTree, Variables, [], answer, ap, arith, as_number, assign, assign_key}
use Rattle.ctd_traps.proofs.Common.{at_key, boxed_target, count, count_turn, done, drop, evaluate, false, faulty, get_or, guard_of, guard_tree, if◌then◌else◌, in_count, ints, keep, key, le_trans, length, lift, nat_lt, nat_tests, negsuc, out-Loop}
use Rattle.ctd_traps.proofs.Common.{pins_in, pos, proceed, refl, rejected, return, subst, suc, sym, times, true, value_at, vals, while_true, ℕ, ℤ, ⊤, ◌*◌, ◌+◌, ◌<ℤ◌, ◌<◌, ◌>>=◌, ◌^◌, ◌≡◌, ◌≤◌}
use Rattle.std.specs.Prelude.{◌+ℤ◌, ◌≤ℤ◌}
use Rattle.ctd_program.specs.Tree
use Rattle.ctd_program.specs.declared.tree.Compare.{Compare}
use Rattle.ctd_program.specs.declared.tree.Compare.TheVariants as comparisons
use Rattle.ctd_program.specs.declared.tree.Loop.{Loop}
use Rattle.ctd_check.specs.Loops.{goes_on}
use Rattle.ctd_command.specs.State.{State}
use Rattle.ctd_elements.specs.declared.limits.Limits.{Limits}
use Rattle.ctd_limits.specs.calls.Known.{IsViewOf}
use Rattle.ctd_outcome.specs.declared.reason.Fault.TheVariants as faults
use Rattle.ctd_partitions.proofs.Joining.{RestOr, state_done, states_done}
use Rattle.ctd_store.proofs.StoreLaws.{assigned_key_has_its_value, assignment_keeps_other_keys}
use Rattle.ctd_store.specs.declared.value.Value.TheVariants as values
use Rattle.ctd_transfer.proofs.Acting.{set_fits}
use Rattle.ctd_transfer.proofs.Fits.{AreFaults, evaluation_fits, then_fits}
use Rattle.ctd_transfer.specs.calls.Values.{Assigns, Expects}
use Rattle.ctd_traps.proofs.Holding.{answer_fits}
use Rattle.ctd_traps.specs.inner.Turns.{Counts, CountsEach, CountsFreely, CountsLast, CountsTurn, IsBeside, IsCounted, IsFreeOf, KnowsTurn, StandsBeside, Starts, StaysAt, as_count}

-- what is left of an effect
pub fits_in : {A : Type 0} (f g : Faults) (P Q : A → State → Type 0) (a : Effect A) → AreFaults f g → ((x : A) (t : State) → P x t → Q x t) → Fits f P a → Fits g Q a
fits_in f g P Q (done x t) more wider fits = wider x t fits
fits_in f g P Q (rejected reason consumed) more wider fits = tt
fits_in f g P Q (faulty fault consumed) more wider fits = more fault fits

more_fits : {A : Type 0} (f g : Faults) (P : A → State → Type 0) (a : Effect A) → AreFaults f g → Fits f P a → Fits g P a
more_fits f g P a more fits = fits_in f g P P a more (λ x t here. here) fits

done_fits : {A : Type 0} (f : Faults) (P Q : A → State → Type 0) (a : Effect A) → ((x : A) (t : State) → a ≡ done x t → P x t → Q x t) → Fits f P a → Fits f Q a
done_fits f P Q (done x t) more fits = more x t refl fits
done_fits f P Q (rejected reason consumed) more fits = tt
done_fits f P Q (faulty fault consumed) more fits = fits

-- a counter that is a name without indices, and that no preset pins, has the number of its turn
name_key : (v : VarTree) (h : Bindings) → v.indices ≡ Tree.none → key v h ≡ Ok (at_key v.name [])
name_key v h none = ap (λ es. vals es h >>= (λ is. Ok (record { name = v.name; indices = is }))) none

assigned_to : (v : VarTree) (value : Value) (d : TestData) (s u : State) (x : ⊤) → v.indices ≡ Tree.none → keep (Some v) value d s ≡ done x u → u.store ≡ assign s.store (at_key v.name []) value
assigned_to v value d s u x none is =
    let same : keep (Some v) value d s ≡ assign_key (at_key v.name []) value d s = ap (λ r. proceed (lift r s) (λ k t. assign_key k value d t)) (name_key v s.store none) in
    cc

pub number_given : (g : Context) (counter : Option VarTree) (k : ℕ) (pins : Variables) (d : TestData) (s u : State) (x : ⊤) → IsFreeName g counter → PinsStand (pins_in g) pins → s.store.pins ≡ pins → keep counter (values.Int (pos k)) d s ≡ done x u → HasNumber counter k u.store
number_given g None k pins d s u x free stand pinned is = absurd free
number_given g (Some v) k pins d s u x free stand pinned is =
    subst (λ h. value_at h (at_key v.name []) ≡ Some (values.Int (pos k))) (sym (assigned_to v (values.Int (pos k)) d s u x free.0 is))
    (assigned_key_has_its_value s.store (at_key v.name []) (values.Int (pos k)) (free.1 pins s.store stand pinned))

-- the counter gets the number of a turn
pub counts_some : (g : Context) (st after : AbstractState) (target : VarTree) (turn : Range) (phase : Phase) (counting : Counting) (limits : ValueLimits) (view : Limits) (possible : PossibleValues) (f : Faults) → possible ≡ record { text = None; number = Some turn } → KnowsTurn g st target phase counting limits → IsViewOf limits view
    → Assigns g st target possible view after f → CountsTurn g st (Some target) turn phase None counting after f
counts_some g st after target turn phase counting limits view possible f is knows seen assigns free pins d k n s turn_is inside behind beside stand stays =
    set_fits g st after target possible view f assigns pins d n s (values.Int (pos k)) stand stays (subst (λ ks. MayBe ks n (values.Int (pos k))) (sym is) (turn, refl, inside))
    (seen g.names.now s.store (values.Int (pos k)) (knows n k s.store turn_is behind stays.1))

pub counts_beside : (g : Context) (st mid after : AbstractState) (target : VarTree) (turn : Range) (phase : Phase) (by : Compare) (counting : Counting) (f : Faults) → CountsTurn g st (Some target) turn phase None counting mid f → StandsBeside g mid target by counting after → CountsTurn g st (Some target) turn phase (Some by) counting after f
counts_beside g st mid after target turn phase by counting f counts stands free pins d k n s turn_is inside behind beside stand stays =
    done_fits f (λ _ t. StaysAt g pins mid n t) (λ _ t. StaysAt g pins after n t) (count_turn (Some target) k d s)
    (λ x t is here. (
      here.0,
      stands n k beside.0 t.store (λ named. (
        number_given g (Some target) k pins d s t x ((free named).indices, (free named).free) stand stays.0 is,
        subst (λ h. IsKnown g.names.now h counting.turns.count (values.Int (pos beside.0))) (sym (assigned_to target (values.Int (pos k)) d s t x (free named).indices is)) ((free named).lasts s.store (values.Int (pos k)) beside.0 beside.1),
      )) beside.2 here.1,
    ))
    (counts free pins d k n s turn_is inside behind tt stand stays)

pub counts_nothing : (g : Context) (st after : AbstractState) (turn : Range) (phase : Phase) (by : Option Compare) (counting : Counting) (possible : PossibleValues) (f : Faults) → possible ≡ record { text = None; number = Some turn } → Expects g st possible after → CountsTurn g st None turn phase by counting after f
counts_nothing g st after turn phase by counting possible f is expects free pins d k n s turn_is inside behind beside stand stays =
    (stays.0, expects n s.store (values.Int (pos k)) stays.1 (subst (λ ks. MayBe ks n (values.Int (pos k))) (sym is) (turn, refl, inside)))

-- the counter in each state
abbrev pub CountsSo : Context → Option VarTree → Range → Phase → Option Compare → Counting → List AbstractState → Faults → ℕ → Bindings → Type 0
CountsSo g target turn phase by counting after f m h = CountsFreely g counting target → (pins : Variables) (d : TestData) (k n : ℕ) (s : State) → m ≡ suc n → h ≡ s.store → IsTurn phase n k → IsIn turn n (pos k) → IsBehind counting target k s.store → IsBeside g counting by k s.store
    → PinsStand (pins_in g) pins → s.store.pins ≡ pins → Fits f (λ _ t. StaysIn g pins after n t) (count_turn target k d s)

pub count_step : (g : Context) (cs : List AbstractState) (i : ℕ) (c : AbstractState) (target : Option VarTree) (turn : Range) (phase : Phase) (by : Option Compare) (counting : Counting) (paid after : AbstractState) (own old new : Faults) (before next : List AbstractState) → i < length cs → c ≡ get_or cs i c → PaysOne g c paid
    → CountsTurn g paid target turn phase by counting after own → PartitionIsWithin g before next → IsInPartition g after next → AreFaults old new → AreFaults own new
    → RestOr g (drop i cs) cs (CountsSo g target turn phase by counting before old) → RestOr g (drop (i + 1) cs) cs (CountsSo g target turn phase by counting next new)
count_step g cs i c target turn phase by counting paid after own old new before next inside is pays counts others added more_old more_own so_far =
    state_done g cs i c (CountsSo g target turn phase by counting before old) (CountsSo g target turn phase by counting next new) inside is
    (λ m h so free pins d k n s is_m is_h turn_is here behind beside stand same. fits_in old new (λ _ t. StaysIn g pins before n t) (λ _ t. StaysIn g pins next n t) (count_turn target k d s) more_old (λ _ t stays. (stays.0, others n t.store stays.1))
    (so free pins d k n s is_m is_h turn_is here behind beside stand same))
    (λ m h stands free pins d k n s is_m is_h turn_is here behind beside stand same. fits_in own new (λ _ t. StaysAt g pins after n t) (λ _ t. StaysIn g pins next n t) (count_turn target k d s) more_own (λ _ t stays. (stays.0, added n t.store stays.1))
    (counts free pins d k n s turn_is here behind beside stand (same, pays n s.store (subst (λ q. StateStands g c (suc n) q) is_h (subst (λ l. StateStands g c l h) is_m stands)))))
    so_far

pub count_done : (g : Context) (cs : List AbstractState) (i : ℕ) (target : Option VarTree) (turn : Range) (phase : Phase) (by : Option Compare) (counting : Counting) (after : List AbstractState) (f : Faults) → length cs ≤ i → RestOr g (drop i cs) cs (CountsSo g target turn phase by counting after f) → CountsEach g cs target turn phase by counting after f
count_done g cs i target turn phase by counting after f all so_far free pins d k n s turn_is here behind beside stand stays =
    states_done g cs i (CountsSo g target turn phase by counting after f) all so_far (suc n) s.store stays.1 free pins d k n s refl refl turn_is here behind beside stand stays.0

-- a loop is over at the number of its turns
pub counts_last : (g : Context) (cs : List AbstractState) (target : Option VarTree) (phase : Phase) (counting : Counting) (numbers turn : Range) (after : List AbstractState) (f : Faults) → ((n k : ℕ) → IsTurn phase n k → IsIn numbers n (pos k))
    → ((n k : ℕ) → counting.turns.least ≤ k → k ≤ counting.turns.most → IsIn numbers n (pos k) → IsIn turn n (pos k)) → CountsEach g cs target turn phase (Some comparisons.Equal) counting after f → CountsLast g cs target phase counting after f
counts_last g cs target phase counting numbers turn after f in_numbers last counts free pins d k n s turn_is behind least most known stand stays =
    counts free pins d k n s turn_is (last n k least most (in_numbers n k turn_is)) behind (k, known, refl) stand stays

-- numbers of turns
pub before_count : (k m : ℕ) → k < m → pos k <ℤ pos m
before_count k m less = omega (arith, ints, less)

pub in_counts : (most m n : ℕ) → m ≤ most → IsIn (record { low = pos 0; high = pos most; rise = 0; fall = 0 }) n (pos m)
in_counts most m n up = record { low = omega (arith, ints); high = omega (arith, ints, up) }

pub at_least : (least k n : ℕ) → least ≤ k → (pos least +ℤ pos (0 * n)) ≤ℤ pos k
at_least least k n up = omega (arith, ints, up)

pub at_most : (most k n : ℕ) → k ≤ most → (pos k +ℤ pos (0 * n)) ≤ℤ pos most
at_most most k n up = omega (arith, ints, up)

-- a counter that is a free name
free_of : (g : Context) (l : Loop) (counting : Counting) (target : VarTree) → AreCounted g l counting → boxed_target (out-Loop l).counter ≡ Some target → counting.is_name ≡ true → IsFreeOf g counting target
free_of g l counting target counted is named =
    let name : IsFreeName g (Some target) = subst (IsFreeName g) is (counted.is_name named) in
    record {
      indices = name.0;
      free = name.1;
      lasts = λ h v m known. counted.lasts h (assign h (at_key target.name []) v) m
          (λ other spared. assignment_keeps_other_keys h (at_key target.name []) (at_key other []) v
          (λ same. (subst (λ o. SparesTarget other o) is spared.0) name.0 (sym (ap (λ (q : Key). q.name) same)))) known;
    }

pub counts_freely : (g : Context) (l : Loop) (counting : Counting) (counter : Option VarTree) → AreCounted g l counting → boxed_target (out-Loop l).counter ≡ counter → CountsFreely g counting counter
counts_freely g l counting None counted is = tt
counts_freely g l counting (Some target) counted is = free_of g l counting target counted is

-- the parts of a turn of a loop that counts
pub record TimesParts (g : Context) (l : Loop) (states inside over : List AbstractState) (phase : Phase) (counting : Counting) (numbers below : Range) (f q all : Faults) : Type 0 where
  pub in_numbers : (n k : ℕ) → IsTurn phase n k → IsIn numbers n (pos k)
  pub narrower : (n k m : ℕ) → k < m → m ≤ counting.turns.most → IsIn numbers n (pos k) → IsIn below n (pos k)
  pub goes_on : CountsEach g states (boxed_target (out-Loop l).counter) below phase (Some comparisons.Less) counting inside f
  pub is_over : CountsLast g states (boxed_target (out-Loop l).counter) phase counting over q
  pub by_f : AreFaults f all
  pub by_q : AreFaults q all

times_turn : (g : Context) (l : Loop) (states inside over : List AbstractState) (phase : Phase) (counting : Counting) (numbers below : Range) (f q all : Faults) → TimesParts g l states inside over phase counting numbers below f q all → AreCounted g l counting
    → (pins : Variables) (d : TestData) (k n m : ℕ) (s : State) (b : Bool) → nat_lt k m ≡ b → (counting.turns.least ≤ m) × (m ≤ counting.turns.most) × IsKnown g.names.now s.store counting.turns.count (values.Int (pos m)) → IsTurn phase n k → IsBehind counting (boxed_target (out-Loop l).counter) k s.store → k ≤ m
    → PinsStand (pins_in g) pins → StaysIn g pins states (suc n) s → Fits all (λ b u. ByTurn (StaysIn g pins inside n) (StaysIn g pins over n) b u) (proceed (count_turn (boxed_target (out-Loop l).counter) k d s) (λ _ t. goes_on (times m) k d t))
times_turn g l states inside over phase counting numbers below f q all p counted pins d k n m s true is has turn_is behind up stand stays =
    let counter : Option VarTree = boxed_target (out-Loop l).counter in
    let less : k < m = grind (arith, nat_tests, is) in
    then_fits all (λ _ t. StaysIn g pins inside n t) (λ b u. ByTurn (StaysIn g pins inside n) (StaysIn g pins over n) b u) (count_turn counter k d s) (λ _ t. goes_on (times m) k d t)
    (more_fits f all (λ _ t. StaysIn g pins inside n t) (count_turn counter k d s) p.by_f
    (p.goes_on (counts_freely g l counting counter counted refl) pins d k n s turn_is (p.narrower n k m less has.1 (p.in_numbers n k turn_is)) behind (m, has.2, before_count k m less) stand stays))
    (λ _ t there. subst (λ b. ByTurn (StaysIn g pins inside n) (StaysIn g pins over n) b t) (sym is) there)
times_turn g l states inside over phase counting numbers below f q all p counted pins d k n m s false is has turn_is behind up stand stays =
    let counter : Option VarTree = boxed_target (out-Loop l).counter in
    let last : m ≤ k = grind (arith, nat_tests, is) in
    let same : m ≡ k = omega (arith, last, up) in
    then_fits all (λ _ t. StaysIn g pins over n t) (λ b u. ByTurn (StaysIn g pins inside n) (StaysIn g pins over n) b u) (count_turn counter k d s) (λ _ t. goes_on (times m) k d t)
    (more_fits q all (λ _ t. StaysIn g pins over n t) (count_turn counter k d s) p.by_q
    (p.is_over (counts_freely g l counting counter counted refl) pins d k n s turn_is behind (le_trans has.0 last) (le_trans up has.1) (subst (λ j. IsKnown g.names.now s.store counting.turns.count (values.Int (pos j))) same has.2) stand stays))
    (λ _ t there. subst (λ b. ByTurn (StaysIn g pins inside n) (StaysIn g pins over n) b t) (sym is) there)

guarded_turn : (g : Context) (l : Loop) (e : ExprTree) (states inside over : List AbstractState) (phase : Phase) (counting : Counting) (numbers below : Range) (f q all : Faults) → TimesParts g l states inside over phase counting numbers below f q all → AreCounted g l counting
    → (pins : Variables) (d : TestData) (k n : ℕ) (s : State) (guard : Guard) → IsGuard g (Tree.turns e) counting.turns s.store guard → IsTurn phase n k → IsBehind counting (boxed_target (out-Loop l).counter) k s.store → HasTurns k guard
    → PinsStand (pins_in g) pins → StaysIn g pins states (suc n) s → Fits all (λ b u. ByTurn (StaysIn g pins inside n) (StaysIn g pins over n) b u) (proceed (count_turn (boxed_target (out-Loop l).counter) k d s) (λ _ t. goes_on guard k d t))
guarded_turn g l e states inside over phase counting numbers below f q all p counted pins d k n s (times m) is turn_is behind up stand stays =
    times_turn g l states inside over phase counting numbers below f q all p counted pins d k n m s (nat_lt k m) refl is turn_is behind up stand stays
guarded_turn g l e states inside over phase counting numbers below f q all p counted pins d k n s (while_true t) is turn_is behind up stand stays = absurd is

pub enters_times : (g : Context) (l : Loop) (e : ExprTree) (states inside over : List AbstractState) (phase : Phase) (counting : Counting) (numbers below : Range) (f q all : Faults) → guard_tree (out-Loop l).guard ≡ Tree.turns e → TimesParts g l states inside over phase counting numbers below f q all → AreCounted g l counting
    → Enters g states l counting phase inside over all
enters_times g l e states inside over phase counting numbers below f q all of p counted pins d k n s started guard same turn_is behind turns stand stays =
    subst (λ c. Fits all (λ b u. ByTurn (StaysIn g pins inside n) (StaysIn g pins over n) b u) (proceed (count_turn c k d s) (λ _ t. goes_on started.guard k d t))) (sym same)
    (guarded_turn g l e states inside over phase counting numbers below f q all p counted pins d k n s started.guard (subst (λ t. IsGuard g t counting.turns s.store started.guard) of guard) turn_is (subst (λ c. IsBehind counting c k s.store) same behind) turns stand stays)

-- a turn of a loop with a test
while_goes : (g : Context) (pins : Variables) (after on_true others : List AbstractState) (f : Faults) (t : TestTree) (d : TestData) (k n : ℕ) (turns : Turns) (h : Bindings) (guard : Guard) (u : State) → Divides g after t on_true others f → IsGuard g (Tree.while t) turns h guard → StaysIn g pins after n u
    → Fits f (λ b v. ByTurn (StaysIn g pins on_true n) (StaysIn g pins others n) b v) (goes_on guard k d u)
while_goes g pins after on_true others f t d k n turns h (times m) u divides is here = absurd is
while_goes g pins after on_true others f t d k n turns h (while_true w) u divides is here =
    subst (λ x. Fits f (λ b v. ByTurn (StaysIn g pins on_true n) (StaysIn g pins others n) b v) (answer x d u)) (sym is) (answer_fits g pins after on_true others f t d n u divides here)

pub enters_while : (g : Context) (l : Loop) (t : TestTree) (states after on_true others : List AbstractState) (phase : Phase) (counting : Counting) (numbers : Range) (f q all : Faults) → guard_tree (out-Loop l).guard ≡ Tree.while t → ((n k : ℕ) → IsTurn phase n k → IsIn numbers n (pos k))
    → CountsEach g states (boxed_target (out-Loop l).counter) numbers phase None counting after f → Divides g after t on_true others q → AreFaults f all → AreFaults q all → AreCounted g l counting → Enters g states l counting phase on_true others all
enters_while g l t states after on_true others phase counting numbers f q all of in_numbers counts divides more_f more_q counted pins d k n s started guard same turn_is behind turns stand stays =
    let counter : Option VarTree = boxed_target (out-Loop l).counter in
    subst (λ c. Fits all (λ b u. ByTurn (StaysIn g pins on_true n) (StaysIn g pins others n) b u) (proceed (count_turn c k d s) (λ _ t. goes_on started.guard k d t))) (sym same)
    (then_fits all (λ _ t. StaysIn g pins after n t) (λ b u. ByTurn (StaysIn g pins on_true n) (StaysIn g pins others n) b u) (count_turn counter k d s) (λ _ t. goes_on started.guard k d t)
    (more_fits f all (λ _ t. StaysIn g pins after n t) (count_turn counter k d s) more_f (counts (counts_freely g l counting counter counted refl) pins d k n s turn_is (in_numbers n k turn_is) (subst (λ c. IsBehind counting c k s.store) same behind) tt stand stays))
    (λ _ u here. more_fits q all (λ b v. ByTurn (StaysIn g pins on_true n) (StaysIn g pins others n) b v) (goes_on started.guard k d u) more_q
    (while_goes g pins after on_true others q t d k n counting.turns s.store started.guard u divides (subst (λ w. IsGuard g w counting.turns s.store started.guard) of guard) here)))

-- a count of turns
lt_is : (n : ℕ) → n < 2 ^ 64 → nat_lt n (2 ^ 64) ≡ true
lt_is n less = grind (arith, nat_tests)

count_in : (f : Faults) (n : ℕ) (b : Bool) → IsAmong f faults.Count → FailsBy f (if b then Ok n else Err faults.Count)
count_in f n true among = tt
count_in f n false among = among

counted_fails : (x : ℤ) (f : Faults) (bad : Bool) → (bad ≡ true → IsAmong f faults.Count) → (bad ≡ false → IsCount x) → FailsBy f (in_count x)
counted_fails (pos n) f true wrong good = count_in f n (nat_lt n (2 ^ 64)) (wrong refl)
counted_fails (pos n) f false wrong good = let on_true : nat_lt n (2 ^ 64) ≡ true = lt_is n (good refl) in subst (λ b. FailsBy f (if b then Ok n else Err faults.Count)) (sym on_true) tt
counted_fails (negsuc n) f true wrong good = wrong refl
counted_fails (negsuc n) f false wrong good = absurd (good refl)

pub count_fails : (found : PossibleResult) (own f : Faults) (bad : Bool) (k : ℕ) (r : Result Value Fault) → IsPossible found k r → FailsBy own (as_number r) → AreFaults own f → (bad ≡ true → IsAmong f faults.Count) → (bad ≡ false → (x : ℤ) → MayBe found.values k (values.Int x) → IsCount x)
    → FailsBy f (as_count r)
count_fails found own f bad k (Ok (values.Int x)) may fails more wrong good = counted_fails x f bad wrong (λ is. good is x may)
count_fails found own f bad k (Ok (values.Text bytes)) may fails more wrong good = more faults.WrongType fails
count_fails found own f bad k (Err why) may fails more wrong good = more why fails

in_turns : (g : Context) (turns : Turns) (h : Bindings) (n : ℕ) (b : Bool) → nat_lt n (2 ^ 64) ≡ b → (n < 2 ^ 64 → turns.least ≤ n) → (n < 2 ^ 64 → n ≤ turns.most) → IsKnown g.names.now h turns.count (values.Int (pos n)) → FailsBy turns.faults (if b then Ok n else Err faults.Count)
    → IsCounted g turns h (if b then Ok n else Err faults.Count)
in_turns g turns h n true is down up known fails = (down (grind (arith, nat_tests, is)), up (grind (arith, nat_tests, is)), known)
in_turns g turns h n false is down up known fails = fails

pub turns_counted : (g : Context) (turns : Turns) (found : Evaluation) (k : ℕ) (h : Bindings) (r : Result Value Fault) → IsEvaluated g found k h r → turns.count ≡ found.limits → ((n : ℕ) → n < 2 ^ 64 → MayBe found.found.values k (values.Int (pos n)) → turns.least ≤ n)
    → ((n : ℕ) → n < 2 ^ 64 → MayBe found.found.values k (values.Int (pos n)) → n ≤ turns.most) → FailsBy turns.faults (as_count r) → IsCounted g turns h (as_count r)
turns_counted g turns found k h (Ok (values.Int (pos n))) is same down up fails = in_turns g turns h n (nat_lt n (2 ^ 64)) refl (λ few. down n few is.0) (λ few. up n few is.0) (subst (λ l. IsKnown g.names.now h l (values.Int (pos n))) (sym same) is.1) fails
turns_counted g turns found k h (Ok (values.Int (negsuc n))) is same down up fails = fails
turns_counted g turns found k h (Ok (values.Text bytes)) is same down up fails = fails
turns_counted g turns found k h (Err why) is same down up fails = fails

-- a loop starts
starts_so : (g : Context) (turns : Turns) (h : Bindings) (r : Result ℕ Fault) → IsCounted g turns h r → FailsBy turns.faults r
starts_so g turns h (Ok n) counted = tt
starts_so g turns h (Err why) counted = counted

pub starts_times : (g : Context) (st : AbstractState) (e : ExprTree) (turns : Turns) → Counts g st e turns → Starts g st (Tree.turns e) turns
starts_times g st e turns counts d n s stands =
    let r : Result ℕ Fault = count e s.store in
    let counted : IsCounted g turns s.store r = counts n s.store stands in
    then_fits turns.faults (λ m t. (r ≡ Ok m) × (t ≡ s)) (λ by t. IsGuard g (Tree.turns e) turns s.store by × (t ≡ s)) (evaluate (count e) d s) (λ m t. return (times m) d t) (evaluation_fits turns.faults r s (starts_so g turns s.store r counted))
    (λ m t here. (subst (IsCounted g turns s.store) here.0 counted, here.1))

pub starts_in : (g : Context) (states : List AbstractState) (all : AbstractState) (guard : GuardTree) (turns : Turns) → IsUpperBound g states all → Starts g all guard turns → StartsIn g states guard turns
starts_in g states all guard turns joined starts d n s one = starts d n s (joined n s.store one)

pub none_starts : (g : Context) (states : List AbstractState) (guard : GuardTree) (turns : Turns) → states ≡ [] → StartsIn g states guard turns
none_starts g states guard turns none d n s one = absurd (subst (λ l. OneStands g l n s.store) none one)

-- less is known of the count
guard_kept : (g : Context) (guard : GuardTree) (turns : Turns) (count : ValueLimits) (h : Bindings) (by : Guard) → ((v : Value) → IsKnown g.names.now h turns.count v → IsKnown g.names.now h count v) → IsGuard g guard turns h by
    → IsGuard g guard (record { faults = turns.faults; least = turns.least; most = turns.most; count = count }) h by
guard_kept g (Tree.turns e) turns count h (times m) less is = (is.0, is.1, less (values.Int (pos m)) is.2)
guard_kept g (Tree.turns e) turns count h (while_true t) less is = absurd is
guard_kept g (Tree.while t) turns count h (times m) less is = absurd is
guard_kept g (Tree.while t) turns count h (while_true u) less is = is

pub starts_kept : (g : Context) (states : List AbstractState) (guard : GuardTree) (turns : Turns) (count : ValueLimits) → ((h : Bindings) (v : Value) → IsKnown g.names.now h turns.count v → IsKnown g.names.now h count v) → StartsIn g states guard turns
    → StartsIn g states guard (record { faults = turns.faults; least = turns.least; most = turns.most; count = count })
starts_kept g states guard turns count less starts d n s one =
    fits_in turns.faults turns.faults (λ by t. IsGuard g guard turns s.store by × (t ≡ s)) (λ by t. IsGuard g guard (record { faults = turns.faults; least = turns.least; most = turns.most; count = count }) s.store by × (t ≡ s)) (guard_of guard d s) (λ x among. among)
    (λ by t here. (guard_kept g guard turns count s.store by (less s.store) here.0, here.1)) (starts d n s one)
