-- What commands do in which no others stand.
use Rattle.ctd_transfer.proofs.Common.{AbstractState, Act, ActKeeps, Action, Acts, ActsKeep, ActsTo, Assignment, Assignments, Bindings, Box, ClearsAll, CommandTree, Context, Does, Effect, Expr, Faults, Fits, IntArguments, IsCopyOf, IsInPartition, IsPlain, IsSimple, List, Names, PartitionIsWithin, Place, RegexArguments, RestOr, StateStands, Stays, StaysIn, action_tree, assignment, assignments_of, done, drop, end, expr_tree, faulty, get_or, inl, inr, int, is_eof, is_int, is_newline, is_regex, is_set, is_space, is_string, is_unset, length, map, names_of, newline, regex, rejected, set, space, state_done, states_done, string, subst, sym, target, unset_all, ℕ, ⊤, ◌+◌, ◌<◌, ◌≡◌, ◌≤◌, ◌⊎◌}
use Rattle.ctd_program.specs.Tree
use Rattle.ctd_program.specs.declared.tree.Action.TheVariants as actions
use Rattle.ctd_command.specs.State.{State}
use Rattle.ctd_transfer.proofs.Acting.{clear_acts, same_acts}
use Rattle.ctd_transfer.proofs.Fits.{AreFaults, end_fits, newline_fits, space_fits}

-- simple commands, by the code
abbrev ActsAt : Context → (st after : AbstractState) → Faults → Place → Action → Type 0
ActsAt g st after f place a = ActKeeps g st after f (action_tree a place)

simple_acts : (g : Context) (st after : AbstractState) (f : Faults) (c : CommandTree) (m : Act ⊤) → IsSimple c m → IsPlain c → Acts g st after f m → ActKeeps g st after f c
simple_acts g st after f c m simple plain acts = record { act = m; simple = simple; plain = plain; holds = acts }

as_action : (g : Context) (st after : AbstractState) (f : Faults) (place : Place) (a b : Action) → a ≡ b → ActsAt g st after f place b → ActsAt g st after f place a
as_action g st after f place a b is acts = subst (ActsAt g st after f place) (sym is) acts

space_step : (g : Context) (st after : AbstractState) (f : Faults) (a : Action) (place : Place) → a ≡ actions.Space → IsCopyOf st after → ActsAt g st after f place a
space_step g st after f a place is same = as_action g st after f place a actions.Space is (simple_acts g st after f (Tree.space place) space is_space tt (same_acts g st after f space same (space_fits f)))

newline_step : (g : Context) (st after : AbstractState) (f : Faults) (a : Action) (place : Place) → a ≡ actions.Newline → IsCopyOf st after → ActsAt g st after f place a
newline_step g st after f a place is same = as_action g st after f place a actions.Newline is (simple_acts g st after f (Tree.newline place) newline is_newline tt (same_acts g st after f newline same (newline_fits f)))

eof_step : (g : Context) (st after : AbstractState) (f : Faults) (a : Action) (place : Place) → a ≡ actions.Eof → IsCopyOf st after → ActsAt g st after f place a
eof_step g st after f a place is same = as_action g st after f place a actions.Eof is (simple_acts g st after f (Tree.eof place) end is_eof tt (same_acts g st after f end same (end_fits f)))

pub blank_step : (g : Context) (st after : AbstractState) (f : Faults) (a : Action) (place : Place) → (a ≡ actions.Space) ⊎ ((a ≡ actions.Newline) ⊎ (a ≡ actions.Eof)) → IsCopyOf st after → ActsAt g st after f place a
blank_step g st after f a place (inl is) same = space_step g st after f a place is same
blank_step g st after f a place (inr (inl is)) same = newline_step g st after f a place is same
blank_step g st after f a place (inr (inr is)) same = eof_step g st after f a place is same

pub int_step : (g : Context) (st after : AbstractState) (f : Faults) (a : Action) (x : Box IntArguments) (y : IntArguments) (place : Place) → a ≡ actions.Int x → y ≡ x.value → Acts g st after f (int (expr_tree y.low) (expr_tree y.high) (target y.target)) → ActsAt g st after f place a
int_step g st after f a x y place is held acts = as_action g st after f place a (actions.Int x) is
    (simple_acts g st after f (action_tree (actions.Int x) place) (int (expr_tree x.value.low) (expr_tree x.value.high) (target x.value.target)) is_int tt
    (subst (λ (z : IntArguments). Acts g st after f (int (expr_tree z.low) (expr_tree z.high) (target z.target))) held acts))

pub string_step : (g : Context) (st after : AbstractState) (f : Faults) (a : Action) (x : Box Expr) (y : Expr) (place : Place) → a ≡ actions.String x → y ≡ x.value → Acts g st after f (string (expr_tree y)) → ActsAt g st after f place a
string_step g st after f a x y place is held acts = as_action g st after f place a (actions.String x) is
    (simple_acts g st after f (Tree.string place (expr_tree x.value)) (string (expr_tree x.value)) is_string tt (subst (λ z. Acts g st after f (string (expr_tree z))) held acts))

pub regex_step : (g : Context) (st after : AbstractState) (f : Faults) (a : Action) (x : Box RegexArguments) (y : RegexArguments) (place : Place) → a ≡ actions.Regex x → y ≡ x.value → Acts g st after f (regex y.literal.bytes (target y.target)) → ActsAt g st after f place a
regex_step g st after f a x y place is held acts = as_action g st after f place a (actions.Regex x) is
    (simple_acts g st after f (Tree.regex place x.value.literal (target x.value.target)) (regex x.value.literal.bytes (target x.value.target)) is_regex tt
    (subst (λ (z : RegexArguments). Acts g st after f (regex z.literal.bytes (target z.target))) held acts))

pub set_step : (g : Context) (st after : AbstractState) (f : Faults) (a : Action) (x : Box Assignments) (xs : List Assignment) (place : Place) → a ≡ actions.Set x → xs ≡ assignments_of x.value → Acts g st after f (set (map assignment xs)) → ActsAt g st after f place a
set_step g st after f a x xs place is held acts = as_action g st after f place a (actions.Set x) is
    (simple_acts g st after f (Tree.set place (map assignment (assignments_of x.value))) (set (map assignment (assignments_of x.value))) is_set tt (subst (λ z. Acts g st after f (set (map assignment z))) held acts))

pub unset_step : (g : Context) (st after : AbstractState) (f : Faults) (a : Action) (x : Box Names) (names : List (List ℕ)) (place : Place) → a ≡ actions.Unset x → names ≡ names_of x.value → ClearsAll g st names after → ActsAt g st after f place a
unset_step g st after f a x names place is held clears = as_action g st after f place a (actions.Unset x) is
    (simple_acts g st after f (Tree.unset place (names_of x.value)) (unset_all (names_of x.value)) is_unset tt (clear_acts g st after (names_of x.value) f (subst (λ z. ClearsAll g st z after) held clears)))

-- the same in each state of a partition
fits_in : {A : Type 0} (f g : Faults) (P Q : A → State → Type 0) (a : Effect A) → AreFaults f g → ((x : A) (t : State) → P x t → Q x t) → Fits f P a → Fits g Q a
fits_in f g P Q (done x t) more next fits = next x t fits
fits_in f g P Q (rejected reason consumed) more next fits = tt
fits_in f g P Q (faulty fault consumed) more next fits = more fault fits

abbrev pub ActsSo : Context → CommandTree → List AbstractState → Faults → ℕ → Bindings → Type 0
ActsSo g c after f n h = Does c (ActsTo g after f n h)

does_more : (c : CommandTree) (P Q : Act ⊤ → Type 0) → ((m : Act ⊤) → P m → Q m) → Does c P → Does c Q
does_more c P Q more does = record { act = does.act; simple = does.simple; plain = does.plain; holds = more does.act does.holds }

pub act_step : (g : Context) (cs : List AbstractState) (i : ℕ) (x : AbstractState) (c : CommandTree) (after : AbstractState) (own old new : Faults) (before next : List AbstractState) → i < length cs → x ≡ get_or cs i x → ActKeeps g x after own c
    → PartitionIsWithin g before next → IsInPartition g after next → AreFaults old new → AreFaults own new → RestOr g (drop i cs) cs (ActsSo g c before old) → RestOr g (drop (i + 1) cs) cs (ActsSo g c next new)
act_step g cs i x c after own old new before next inside is keeps others added more_old more_own so_far =
    state_done g cs i x (ActsSo g c before old) (ActsSo g c next new) inside is
    (λ n h so. does_more c (ActsTo g before old n h) (ActsTo g next new n h)
    (λ m acts pins d s is_h stand same. fits_in old new (λ _ t. StaysIn g pins before n t) (λ _ t. StaysIn g pins next n t) (m d s) more_old (λ _ t stays. (stays.0, others n t.store stays.1)) (acts pins d s is_h stand same)) so)
    (λ n h stands. does_more c (Acts g x after own) (ActsTo g next new n h)
    (λ m acts pins d s is_h stand same. fits_in own new (λ _ t. Stays g pins after n t) (λ _ t. StaysIn g pins next n t) (m d s) more_own (λ _ t stays. (stays.0, added n t.store stays.1))
    (acts pins d n s stand (subst (λ (b : Bindings). b.pins ≡ pins) (sym is_h) same, subst (λ b. StateStands g x n b) (sym is_h) stands))) keeps)
    so_far

pub act_done : (g : Context) (cs : List AbstractState) (i : ℕ) (c : CommandTree) (after : List AbstractState) (f : Faults) → length cs ≤ i → RestOr g (drop i cs) cs (ActsSo g c after f) → ActsKeep g cs after f c
act_done g cs i c after f all so_far n h one = states_done g cs i (ActsSo g c after f) all so_far n h one
