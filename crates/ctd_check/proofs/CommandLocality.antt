-- What each command does to its place in the data, and over longer data.
use Rattle.std.proofs.Common.{◌≡◌, ℕ, ◌+◌, ◌≤◌, Bool, true, false, nat_eq, nat_lt, ℤ, List, [], ◌∷◌, length, take, Option, Some, None, Result, Ok, Err, refl, ap, ◌∙◌, arith, le_refl, le-add_right, length-take}
use Rattle.std.specs.Prelude.{⊤, if◌then◌else◌, pos}
use Rattle.std.specs.List.{prefix_len}
use Rattle.std.proofs.lemmas.List.Sums.{prefix_len-le-length}
use Rattle.ctd_source.specs.declared.limits.TheConstants.{WINDOW}
use Rattle.ctd_source.specs.declared.spot.LookFault.{LookFault}
use Rattle.ctd_source.specs.TestData.{TestData, next_byte, look, is_byte}
use Rattle.ctd_program.specs.declared.mode.Mode.{Mode}
use Rattle.ctd_program.specs.declared.mode.Mode.TheVariants.{Exact, BlanksOk}
use Rattle.ctd_program.specs.Tree
use Rattle.ctd_program.specs.Tree.{ExprTree, VarTree, TestTree, GuardTree, CommandTree, CommandList, Separator}
use Rattle.ctd_pattern.specs.Pattern.{length_at_start}
use Rattle.ctd_store.specs.declared.value.Value.{Value}
use Rattle.ctd_store.specs.declared.value.Value.TheVariants as values
use Rattle.ctd_token.specs.declared.text.Place.{Place}
use Rattle.ctd_value.specs.Fault.{with_fault, fault_of_look}
use Rattle.ctd_value.proofs.Ordinary.{count_has_steps, key_is_ordinary, number_is_ordinary, ordinary_has_steps, text_is_ordinary, value_is}
use Rattle.ctd_value.specs.inner.Truth.{is_end}
use Rattle.ctd_value.specs.Val.{val, key, number_of, text_of, count}
use Rattle.ctd_outcome.specs.declared.reason.Reason.{Reason}
use Rattle.ctd_outcome.specs.declared.reason.Reason.TheVariants.{ExpectedSpace, ExpectedNewline, ExpectedEof, StringMismatch, AssertFailed, RegexMismatch}
use Rattle.ctd_outcome.specs.declared.reason.Fault.TheVariants.{MatchTooLong}
use Rattle.ctd_command.specs.State.{State, done, Act, proceed, return, reject, stop, pass, lift, evaluate, see_next, see_window}
use Rattle.ctd_command.specs.Integer.{judge, is_minus, digits_of, prefix_len_of}
use Rattle.ctd_command.specs.Commands.{one_byte, eof, set_to, keep, decide, integer, int, match_bytes, string, answer, assert, give_value, set, unset_all}
use Rattle.ctd_command.specs.Blanks.{is_blank, skip_blanks, some_blanks, newline_between_blanks, end_behind_blanks, space, newline, end, first_skip}
use Rattle.ctd_command.specs.inner.Blanks.{blank_next, space_in, newline_in, end_in, start_in}
use Rattle.ctd_command.specs.Regex.{shorter_match, leading_match, regex}
use Rattle.ctd_check.specs.Loops.{Guard, times, while_true, Task, start, turn, finish, Loop, tasks, turn_tasks, goes_on, take_turn, run_turn, guard_of, repeat, choice}
use Rattle.ctd_check.specs.calls.Loops.{loop_of}
use Rattle.ctd_check.specs.inner.Loops.{count_turn}
use Rattle.ctd_check.specs.Run.{simple, perform}
use Rattle.ctd_check.specs.inner.Acts.{act_of}
use Rattle.ctd_check.proofs.Prefixes.{same_prefix, same_minus, same_digits, integer_within, less_prefix, less_integer}
use Rattle.ctd_check.proofs.LongerData.{byte_within, look_within}
use Rattle.ctd_check.proofs.ActLocality.{Forward, Inside, SameOrCut, same, IsLocal, both, either, given, idle, rejecting, stopping, assigning, unsetting, evaluating, seeing, windowing, answering, on, forward_past, passing, forward_next, longer_next}

-- one byte
taken_inside : (b : Bool) (reason : Reason) (d : TestData) (s : State) → s.offset + 1 ≤ length d.bytes → Inside (length d.bytes) ((if b then pass 1 else reject reason) d s)
taken_inside true reason d s within = within
taken_inside false reason d s within = tt

byte_inside : (d : TestData) (s : State) (c : ℕ) (reason : Reason) (r : Result (Option ℕ) LookFault) → next_byte d s.offset ≡ r → Inside (length d.bytes) (proceed (lift (with_fault fault_of_look r) s) (λ next u. (if is_byte c next then pass 1 else reject reason) d u))
byte_inside d s c reason (Ok None) is = tt
byte_inside d s c reason (Ok (Some b)) is = taken_inside (nat_eq b c) reason d s (byte_within d s.offset b is)
byte_inside d s c reason (Err fault) is = tt

taken_forward : (b : Bool) (reason : Reason) (d : TestData) (s : State) → Forward s.offset ((if b then pass 1 else reject reason) d s)
taken_forward true reason d s = le-add_right s.offset 1
taken_forward false reason d s = le_refl s.offset

taken_longer : (b : Bool) (reason : Reason) (size : ℕ) (d e : TestData) (s : State) → SameOrCut size ((if b then pass 1 else reject reason) d s) ((if b then pass 1 else reject reason) e s)
taken_longer true reason size d e s = same refl
taken_longer false reason size d e s = same refl

of_byte : (c : ℕ) (reason : Reason) → IsLocal (one_byte c reason)
of_byte c reason = record {
  forward = λ d s. forward_next s.offset (see_next d s) (λ next u. (if is_byte c next then pass 1 else reject reason) d u) (seeing.forward d s) (λ next u. taken_forward (is_byte c next) reason d u);
  inside = λ d s within. byte_inside d s c reason (next_byte d s.offset) refl;
  longer = λ d e s x within. longer_next (length d.bytes) (see_next d s) (see_next e s) (λ next u. (if is_byte c next then pass 1 else reject reason) d u) (λ next u. (if is_byte c next then pass 1 else reject reason) e u)
      (seeing.inside d s within) (λ next u. taken_forward (is_byte c next) reason e u) (λ next u inside. taken_longer (is_byte c next) reason (length d.bytes) d e u) (seeing.longer d e s x within);
}

of_eof : IsLocal eof
of_eof = both see_next _ seeing (λ next. either (is_end next) (return tt) (reject ExpectedEof) idle (rejecting ExpectedEof))

setting : (v : VarTree) (value : Value) → IsLocal (set_to v value)
setting v value = both (evaluate (key v)) _ (evaluating (key v) (λ h. ordinary_has_steps (key v h) (key_is_ordinary v h))) (λ k. assigning k value)

keeping : (target : Option VarTree) (value : Value) → IsLocal (keep target value)
keeping None value = idle
keeping (Some v) value = setting v value

-- an integer: its sign and its digits
deciding : (r : Result ℤ Reason) → IsLocal (decide r)
deciding (Ok z) = given z
deciding (Err reason) = rejecting reason

abbrev parts : List ℕ → Bool × List ℕ
parts rest = (is_minus rest, digits_of rest)

abbrev parts_len : Bool × List ℕ → ℕ
parts_len x = (if x.0 then 1 else 0) + length x.1

same_parts : (ys xs : List ℕ) → take (parts_len (parts xs) + 1) ys ≡ take (parts_len (parts xs) + 1) xs → parts ys ≡ parts xs
same_parts ys xs front = ap (λ b. (b, digits_of ys)) (same_minus (prefix_len_of xs) ys xs front) ∙ ap (λ digits. (is_minus xs, digits)) (same_digits ys xs front)

of_integer : (least most : ℤ) → IsLocal (integer least most)
of_integer least most =
    passing parts parts_len (λ x _. decide (judge least most x.0 x.1)) integer_within less_integer same_parts (λ x. both see_next _ seeing (λ _. deciding (judge least most x.0 x.1)))

of_int : (low high : ExprTree) (target : Option VarTree) → IsLocal (int low high target)
of_int low high target = both (evaluate (number_of low)) _ (evaluating (number_of low) (λ h. ordinary_has_steps (number_of low h) (number_is_ordinary low h))) (λ least. both (evaluate (number_of high)) _ (evaluating (number_of high) (λ h. ordinary_has_steps (number_of high h) (number_is_ordinary high h))) (λ most. both (integer least most) _ (of_integer least most) (λ z. keeping target (values.Int z))))

-- a string: one byte after the other
matching : (wanted : List ℕ) → IsLocal (match_bytes wanted)
matching [] = idle
matching (b ∷ rest) = both (one_byte b StringMismatch) _ (of_byte b StringMismatch) (λ _. matching rest)

of_string : (e : ExprTree) → IsLocal (string e)
of_string e = both (evaluate (text_of e)) _ (evaluating (text_of e) (λ h. ordinary_has_steps (text_of e h) (text_is_ordinary e h))) (λ wanted. matching wanted)

-- a match: what a window begins with
of_match : (n : Option ℕ) → IsLocal (shorter_match n)
of_match None = rejecting RegexMismatch
of_match (Some n) = either (nat_eq n WINDOW) (stop MatchTooLong) (return n) (stopping MatchTooLong (λ e. cc)) (given n)

of_leading_match : (literal : List ℕ) → IsLocal (leading_match literal)
of_leading_match literal = both see_window _ windowing (λ window. both (shorter_match (length_at_start literal window)) _ (of_match (length_at_start literal window)) (λ n. given (take n window)))

abbrev keep_match : Option VarTree → List ℕ → Act ⊤
keep_match target bytes d s = keep target (values.Text bytes) d (on (length bytes) s)

match_forward : (target : Option VarTree) (bytes : List ℕ) (d : TestData) (s : State) → Forward s.offset (keep_match target bytes d s)
match_forward target bytes d s = forward_past (length bytes) (keep target (values.Text bytes)) d s (keeping target (values.Text bytes))

match_longer : (size : ℕ) (target : Option VarTree) (bytes : List ℕ) (d e : TestData) (s : State) → SameOrCut size (keep_match target bytes d s) (keep_match target bytes e s)
match_longer size None bytes d e s = same refl
match_longer size (Some v) bytes d e s = same refl

shorter_inside : (d : TestData) (s : State) (w : List ℕ) (target : Option VarTree) (k : ℕ) (b : Bool) → s.offset + length w ≤ length d.bytes
    → Inside (length d.bytes) (proceed (proceed ((if b then stop MatchTooLong else return k) d s) (λ j u. done (take j w) u)) (λ bytes u. keep_match target bytes d u))
shorter_inside d s w target k true within = tt
shorter_inside d s w target k false within = (keeping target (values.Text (take k w))).inside d (on (length (take k w)) s) (omega (arith, within, length-take k w))

match_inside : (d : TestData) (s : State) (w : List ℕ) (target : Option VarTree) (n : Option ℕ) → s.offset + length w ≤ length d.bytes
    → Inside (length d.bytes) (proceed (proceed (shorter_match n d s) (λ k u. done (take k w) u)) (λ bytes u. keep_match target bytes d u))
match_inside d s w target None within = tt
match_inside d s w target (Some k) within = shorter_inside d s w target k (nat_eq k WINDOW) within

window_inside : (d : TestData) (s : State) (literal : List ℕ) (target : Option VarTree) (r : Result (List ℕ) LookFault) → look d s.offset WINDOW ≡ r → s.offset ≤ length d.bytes
    → Inside (length d.bytes) (proceed (proceed (lift (with_fault fault_of_look r) s) (λ w u. proceed (shorter_match (length_at_start literal w) d u) (λ k v. done (take k w) v))) (λ bytes u. keep_match target bytes d u))
window_inside d s literal target (Ok w) is within = match_inside d s w target (length_at_start literal w) (look_within d s.offset WINDOW w within is)
window_inside d s literal target (Err fault) is within = tt

of_regex : (literal : List ℕ) (target : Option VarTree) → IsLocal (regex literal target)
of_regex literal target = record {
  forward = λ d s. forward_next s.offset (leading_match literal d s) (λ bytes u. keep_match target bytes d u) ((of_leading_match literal).forward d s) (λ bytes u. match_forward target bytes d u);
  inside = λ d s within. window_inside d s literal target (look d s.offset WINDOW) refl within;
  longer = λ d e s x within. longer_next (length d.bytes) (leading_match literal d s) (leading_match literal e s) (λ bytes u. keep_match target bytes d u) (λ bytes u. keep_match target bytes e u)
      ((of_leading_match literal).inside d s within) (λ bytes u. match_forward target bytes e u) (λ bytes u inside. match_longer (length d.bytes) target bytes d e u) ((of_leading_match literal).longer d e s x within);
}

-- blanks
abbrev all_seen : ℕ → Option ℕ → Act ⊤
all_seen n next = return tt

skipping : IsLocal skip_blanks
skipping = passing (prefix_len is_blank) (λ n. n) all_seen (prefix_len-le-length is_blank) (less_prefix is_blank) (same_prefix is_blank) (λ n. both see_next (all_seen n) seeing (λ _. idle))

of_some_blanks : IsLocal some_blanks
of_some_blanks = both see_next _ seeing (λ next. either (blank_next next) skip_blanks (reject ExpectedSpace) skipping (rejecting ExpectedSpace))

of_newline_between : IsLocal newline_between_blanks
of_newline_between = both skip_blanks _ skipping (λ _. both (one_byte 10 ExpectedNewline) _ (of_byte 10 ExpectedNewline) (λ _. skipping))

of_end_behind : IsLocal end_behind_blanks
of_end_behind = both skip_blanks _ skipping (λ _. of_eof)

-- Commands that go by the mode of the run.
by_mode : (act_in : Mode → Act ⊤) → ((mode : Mode) → IsLocal (act_in mode)) → IsLocal (λ d s. act_in s.mode d s)
by_mode act_in each = record { forward = λ d s. (each s.mode).forward d s; inside = λ d s within. (each s.mode).inside d s within; longer = λ d e s x within. (each s.mode).longer d e s x within }

of_space_in : (mode : Mode) → IsLocal (space_in mode)
of_space_in Exact = of_byte 32 ExpectedSpace
of_space_in BlanksOk = of_some_blanks

of_newline_in : (mode : Mode) → IsLocal (newline_in mode)
of_newline_in Exact = of_byte 10 ExpectedNewline
of_newline_in BlanksOk = of_newline_between

of_end_in : (mode : Mode) → IsLocal (end_in mode)
of_end_in Exact = of_eof
of_end_in BlanksOk = of_end_behind

of_start_in : (mode : Mode) → IsLocal (start_in mode)
of_start_in Exact = idle
of_start_in BlanksOk = skipping

of_end : IsLocal end
of_end = by_mode end_in of_end_in

pub first_skip_is_local : IsLocal first_skip
first_skip_is_local = by_mode start_in of_start_in

-- The other commands.
of_assert : (t : TestTree) → IsLocal (assert t)
of_assert t = both (answer t) _ (answering t) (λ b. either b (return tt) (reject AssertFailed) idle (rejecting AssertFailed))

giving_value : (a : VarTree × ExprTree) → IsLocal (give_value a)
giving_value a = both (evaluate (val a.1)) _ (evaluating (val a.1) (λ h. ordinary_has_steps (val a.1 h) (value_is a.1 h))) (λ value. setting a.0 value)

of_set : (assignments : List (VarTree × ExprTree)) → IsLocal (set assignments)
of_set [] = idle
of_set (a ∷ rest) = both (give_value a) _ (giving_value a) (λ _. of_set rest)

-- Loops and choices.
going_on : (guard : Guard) (k : ℕ) → IsLocal (goes_on guard k)
going_on (times turns) k = given (nat_lt k turns)
going_on (while_true t) k = answering t

counting : (counter : Option VarTree) (k : ℕ) → IsLocal (count_turn counter k)
counting None k = idle
counting (Some v) k = setting v (values.Int (pos k))

of_turn : (loop : Loop) (k : ℕ) → IsLocal (run_turn loop k)
of_turn loop k = both (take_turn loop k) _ (both (count_turn loop.counter k) _ (counting loop.counter k) (λ _. going_on loop.guard k)) (λ b. given (if b then turn_tasks loop k else []))

of_guard : (guard : GuardTree) → IsLocal (guard_of guard)
of_guard (Tree.turns e) = both (evaluate (count e)) _ (evaluating (count e) (count_has_steps e)) (λ turns. given (times turns))
of_guard (Tree.while t) = given (while_true t)

of_repeat : (place : Place) (guard : GuardTree) (counter : Option VarTree) (sep : Separator) (body : CommandList) → IsLocal (repeat place guard counter sep body)
of_repeat place guard counter sep body = both (guard_of guard) _ (of_guard guard) (λ g. given (turn (loop_of place g counter sep body) 0 ∷ []))

of_choice : (t : TestTree) (then_do else_do : CommandList) → IsLocal (choice t then_do else_do)
of_choice t then_do else_do = both (answer t) _ (answering t) (λ b. given (tasks (if b then then_do else else_do)))

-- All commands and tasks.
simply : (m : Act ⊤) → IsLocal m → IsLocal (simple m)
simply m h = both m (λ _. return []) h (λ _. given [])

of_command : (c : CommandTree) → IsLocal (act_of c)
of_command (Tree.space place) = simply space (by_mode space_in of_space_in)
of_command (Tree.newline place) = simply newline (by_mode newline_in of_newline_in)
of_command (Tree.eof place) = simply end of_end
of_command (Tree.int place low high target) = simply (int low high target) (of_int low high target)
of_command (Tree.string place e) = simply (string e) (of_string e)
of_command (Tree.regex place literal target) = simply (regex literal.bytes target) (of_regex literal.bytes target)
of_command (Tree.assert place t) = simply (assert t) (of_assert t)
of_command (Tree.set place assignments) = simply (set assignments) (of_set assignments)
of_command (Tree.unset place names) = simply (unset_all names) (unsetting names)
of_command (Tree.loop place guard counter sep body) = of_repeat place guard counter sep body
of_command (Tree.choice place t then_do else_do) = of_choice t then_do else_do

pub task_is_local : (task : Task) → IsLocal (perform task)
task_is_local (start c) = of_command c
task_is_local (turn loop k) = of_turn loop k
task_is_local finish = simply end of_end
