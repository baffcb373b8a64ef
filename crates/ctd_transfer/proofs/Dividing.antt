-- The states where a test is true, and where it is false.
use Rattle.ctd_transfer.proofs.Common.{AbstractState, Bindings, Bool, Context, Decides, Divides, DividesTo, Err, Fault, Faults, IsEither, IsInPartition, List, Ok, OneStands, PartitionIsWithin, RestOr, Result, SplitStates, SplitsBy, TestData, TestTree, drop, false, get_or, if◌then◌else◌, length, not, opposite, state_done, states_done, subst, sym, true, truth, ℕ, ◌+◌, ◌<◌, ◌>>=◌, ◌≡◌, ◌≤◌}
use Rattle.ctd_program.specs.Tree
use Rattle.ctd_transfer.proofs.Fits.{AreFaults}

-- a test of states, by which each is divided so
abbrev pub DividesSo : Context → TestTree → (if_true if_false : List AbstractState) → Faults → ℕ → Bindings → Type 0
DividesSo g t if_true if_false f n h = (d : TestData) (p : ℕ) → DividesTo g if_true if_false f n h (truth t h d p)

divides_more : (g : Context) (a b c d : List AbstractState) (own all : Faults) (n : ℕ) (h : Bindings) (r : Result Bool Fault) → PartitionIsWithin g a c → PartitionIsWithin g b d → AreFaults own all → DividesTo g a b own n h r → DividesTo g c d all n h r
divides_more g a b c d own all n h (Ok true) on_true on_false more divides = on_true n h divides
divides_more g a b c d own all n h (Ok false) on_true on_false more divides = on_false n h divides
divides_more g a b c d own all n h (Err why) on_true on_false more divides = more why divides

one_divides : (g : Context) (a b : AbstractState) (c d : List AbstractState) (own all : Faults) (n : ℕ) (h : Bindings) (r : Result Bool Fault) → IsInPartition g a c → IsInPartition g b d → AreFaults own all → Decides g a b own n h r → DividesTo g c d all n h r
one_divides g a b c d own all n h (Ok true) on_true on_false more decides = on_true n h decides
one_divides g a b c d own all n h (Ok false) on_true on_false more decides = on_false n h decides
one_divides g a b c d own all n h (Err why) on_true on_false more decides = more why decides

-- one test or another, and one and another
either_divides : (g : Context) (first second all : SplitStates) (k : ℕ) (h : Bindings) (r next : Result Bool Fault) → IsEither g first second all → DividesTo g first.if_true.items first.if_false.items first.faults k h r
    → (OneStands g first.if_false.items k h → DividesTo g second.if_true.items second.if_false.items second.faults k h next) → DividesTo g all.if_true.items all.if_false.items all.faults k h (r >>= (λ b. if b then Ok true else next))
either_divides g first second all k h (Ok true) next is one other = is.left k h one
either_divides g first second all k h (Ok false) next is one other = divides_more g second.if_true.items second.if_false.items all.if_true.items all.if_false.items second.faults all.faults k h next is.right is.neither is.by_second (other one)
either_divides g first second all k h (Err why) next is one other = is.by_first why one

each_divides : (g : Context) (first second all : SplitStates) (k : ℕ) (h : Bindings) (r next : Result Bool Fault) → IsEither g (opposite first) (opposite second) (opposite all) → DividesTo g first.if_true.items first.if_false.items first.faults k h r
    → (OneStands g first.if_true.items k h → DividesTo g second.if_true.items second.if_false.items second.faults k h next) → DividesTo g all.if_true.items all.if_false.items all.faults k h (r >>= (λ b. if b then next else Ok false))
each_divides g first second all k h (Ok true) next is one other = divides_more g second.if_true.items second.if_false.items all.if_true.items all.if_false.items second.faults all.faults k h next is.neither is.right is.by_second (other one)
each_divides g first second all k h (Ok false) next is one other = is.left k h one
each_divides g first second all k h (Err why) next is one other = is.by_first why one

turned_divides : (g : Context) (on_true on_false : List AbstractState) (f : Faults) (k : ℕ) (h : Bindings) (r : Result Bool Fault) → DividesTo g on_true on_false f k h r → DividesTo g on_false on_true f k h (r >>= (λ b. Ok (not b)))
turned_divides g on_true on_false f k h (Ok true) one = one
turned_divides g on_true on_false f k h (Ok false) one = one
turned_divides g on_true on_false f k h (Err why) one = one

abbrev pub DividesBy : Context → List AbstractState → TestTree → SplitStates → Type 0
DividesBy g states t s = Divides g states t s.if_true.items s.if_false.items s.faults

pub or_divides : (g : Context) (states slice : List AbstractState) (a b : TestTree) (first second all : SplitStates) → slice ≡ first.if_false.items → DividesBy g states a first → DividesBy g slice b second → IsEither g first second all → DividesBy g states (Tree.or a b) all
or_divides g states slice a b first second all lent left right is k h d p one =
    either_divides g first second all k h (truth a h d p) (truth b h d p) is (left k h d p one) (λ other. right k h d p (subst (λ l. OneStands g l k h) (sym lent) other))

pub and_divides : (g : Context) (states slice : List AbstractState) (a b : TestTree) (first second all : SplitStates) → slice ≡ first.if_true.items → DividesBy g states a first → DividesBy g slice b second → IsEither g (opposite first) (opposite second) (opposite all) → DividesBy g states (Tree.and a b) all
and_divides g states slice a b first second all lent left right is k h d p one =
    each_divides g first second all k h (truth a h d p) (truth b h d p) is (left k h d p one) (λ other. right k h d p (subst (λ l. OneStands g l k h) (sym lent) other))

pub not_divides : (g : Context) (states on_true on_false : List AbstractState) (f : Faults) (t : TestTree) → Divides g states t on_true on_false f → Divides g states (Tree.not t) on_false on_true f
not_divides g states on_true on_false f t divides k h d p one = turned_divides g on_true on_false f k h (truth t h d p) (divides k h d p one)

-- states from their front
pub divide_step : (g : Context) (cs : List AbstractState) (i : ℕ) (c : AbstractState) (t : TestTree) (a b : AbstractState) (own old new : Faults) (on_true on_false wider_true wider_false : List AbstractState) → i < length cs → c ≡ get_or cs i c → SplitsBy g c t a b own
    → PartitionIsWithin g on_true wider_true → IsInPartition g a wider_true → PartitionIsWithin g on_false wider_false → IsInPartition g b wider_false → AreFaults old new → AreFaults own new → RestOr g (drop i cs) cs (DividesSo g t on_true on_false old) → RestOr g (drop (i + 1) cs) cs (DividesSo g t wider_true wider_false new)
divide_step g cs i c t a b own old new on_true on_false wider_true wider_false inside is splits more_yes one_yes more_no one_no more_old more_own so_far =
    state_done g cs i c (DividesSo g t on_true on_false old) (DividesSo g t wider_true wider_false new) inside is
    (λ n h so d p. divides_more g on_true on_false wider_true wider_false old new n h (truth t h d p) more_yes more_no more_old (so d p))
    (λ n h stands d p. one_divides g a b wider_true wider_false own new n h (truth t h d p) one_yes one_no more_own (splits n h d p stands))
    so_far

pub divide_done : (g : Context) (cs : List AbstractState) (i : ℕ) (t : TestTree) (on_true on_false : List AbstractState) (f : Faults) → length cs ≤ i → RestOr g (drop i cs) cs (DividesSo g t on_true on_false f) → Divides g cs t on_true on_false f
divide_done g cs i t on_true on_false f all so_far k h d p one = states_done g cs i (DividesSo g t on_true on_false f) all so_far k h one d p
