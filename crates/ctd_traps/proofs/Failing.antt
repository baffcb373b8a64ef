-- What a run of a program may fail by, of which nothing is known: commands fail by their own faults, at their own places.
use Rattle.ctd_program.specs.Tree
use Rattle.ctd_traps.proofs.Common.{Act, AreListed, AssertFailed, Before, BeginsBy, Bool, CommandLeads, CommandList, CommandTree, Contains, Contains-append_left, Contains-append_right, Contains-push, Effect, Err, Events, ExprTree, FailsBy, Fault, Faults}
use Rattle.ctd_traps.proofs.Common.{Fits, Guard, GuardTree, HasEachTrap, IsAmong, IsSimple, Leads, Leaves, List, None, Ok, Option, Place, PlacedFault, Preset, Result, Separator, Some, Splits, TestData, TestTree}
use Rattle.ctd_traps.proofs.Common.{Value, VarTree, [], all_commands, answer, answers, assert, assign_key, commands_within, count, done, end, fails, false, faulty, finds, give_value, guard_of, if◌then◌else◌, inl, inr, int, integer}
use Rattle.ctd_traps.proofs.Common.{is_assert, is_eof, is_int, is_newline, is_regex, is_set, is_space, is_string, is_unset, keep, key, leading_match, length, lift, loop_of, match_bytes, newline, number_of, place_of, pos, proceed, refl, regex, reject, rejected, return, separator_before}
use Rattle.ctd_traps.proofs.Common.{separator_commands, set, set_to, space, start, string, subst, suc, text_of, take_turn, times, true, truth, unset_all, val, while_true, zero, ℕ, ⊤, ◌++◌, ◌∷◌, ◌≡◌, ◌+◌}
use Rattle.ctd_command.specs.State.{State}
use Rattle.ctd_check.specs.Loops.{Loop as Started, goes_on}
use Rattle.ctd_outcome.specs.declared.reason.Fault.TheVariants as faults
use Rattle.ctd_store.specs.declared.value.Value.TheVariants as values
use Rattle.ctd_traps.specs.calls.Events as happenings
use Rattle.ctd_traps.specs.inner.Anything.{AreAllListed, AreAmong, IsListed, of_expressions, of_loops, of_nothing, of_tests}
use Rattle.ctd_transfer.proofs.Fits.{end_fits, integer_fits, leading_fits, match_fits, newline_fits, space_fits}
use Rattle.ctd_value.proofs.Ordinary.{FailsWith, IsOfTest, IsOrdinary, key_is_ordinary, number_is_ordinary, text_is_ordinary, truth_is, value_is}
use Rattle.ctd_traps.proofs.Leading.{choice_leads, list_leads, loop_leads, none_leads, safe_without_steps, simple_is_safe, start_leads, StartsSafe}
use Rattle.ctd_traps.proofs.Common.{ArePart, ap, at_drop_more, command_tree, drop, drop_all, get_or, sym, ◌<◌, ◌∙◌, ◌≤◌, ◌⊎◌}
use Rattle.ctd_traps.proofs.Absent.{first_or_rest, none_in}
use Rattle.ctd_traps.proofs.Reaching.{events_follow}
use Rattle.ctd_traps.specs.calls.Commands.{trees_of}
use Rattle.ctd_traps.specs.declared.block.CommandInBlock.{CommandInBlock}
use Rattle.ctd_traps.proofs.Whole.{traps_noted}

-- an effect has no faults but these
abbrev FailsIn : {A : Type 0} → Faults → Effect A → Type 0
FailsIn f a = Fits f (λ _ _. ⊤) a

whatever : {A : Type 0} (f : Faults) (P : A → State → Type 0) (a : Effect A) → Fits f P a → FailsIn f a
whatever f P (done x t) fits = tt
whatever f P (rejected reason consumed) fits = tt
whatever f P (faulty fault consumed) fits = fits

next_fails : {A B : Type 0} (f : Faults) (a : Effect A) (next : A → State → Effect B) → FailsIn f a → ((x : A) (t : State) → FailsIn f (next x t)) → FailsIn f (proceed a next)
next_fails f (done x t) next first second = second x t
next_fails f (rejected reason consumed) next first second = tt
next_fails f (faulty fault consumed) next first second = first

lift_fails : {A : Type 0} (f : Faults) (r : Result A Fault) (s : State) → FailsBy f r → FailsIn f (lift r s)
lift_fails f (Ok x) s by = tt
lift_fails f (Err why) s by = by

-- expressions and tests
by_expression : {X : Type 0} (f : Faults) (r : Result X Fault) → ((why : Fault) → IsAmong of_expressions why → IsAmong f why) → IsOrdinary r → FailsBy f r
by_expression f (Ok x) more is = tt
by_expression f (Err faults.Undefined) more is = more faults.Undefined (inl refl)
by_expression f (Err faults.WrongType) more is = more faults.WrongType refl
by_expression f (Err faults.Overflow) more is = more faults.Overflow refl
by_expression f (Err faults.DivisionByZero) more is = more faults.DivisionByZero refl
by_expression f (Err faults.Exponent) more is = more faults.Exponent refl
by_expression f (Err faults.Count) more is = absurd is
by_expression f (Err faults.Shape) more is = absurd is
by_expression f (Err faults.StepLimit) more is = absurd is
by_expression f (Err faults.MatchTooLong) more is = absurd is
by_expression f (Err faults.DataTooLong) more is = absurd is
by_expression f (Err faults.Read) more is = absurd is

ordinary : {X : Type 0} (r : Result X Fault) → IsOrdinary r → FailsBy of_expressions r
ordinary r is = by_expression of_expressions r (λ why among. among) is

in_loops : (why : Fault) → IsAmong of_expressions why → IsAmong of_loops why
in_loops faults.Undefined among = inl refl
in_loops faults.WrongType among = refl
in_loops faults.Overflow among = refl
in_loops faults.DivisionByZero among = refl
in_loops faults.Exponent among = refl
in_loops faults.Count among = refl
in_loops faults.Shape among = refl
in_loops faults.StepLimit among = tt
in_loops faults.MatchTooLong among = tt
in_loops faults.DataTooLong among = tt
in_loops faults.Read among = tt

by_test : {X : Type 0} (r : Result X Fault) → FailsWith IsOfTest r → FailsBy of_tests r
by_test (Ok x) is = tt
by_test (Err faults.Undefined) is = inl refl
by_test (Err faults.WrongType) is = refl
by_test (Err faults.Overflow) is = refl
by_test (Err faults.DivisionByZero) is = refl
by_test (Err faults.Exponent) is = refl
by_test (Err faults.Count) is = absurd is
by_test (Err faults.Shape) is = refl
by_test (Err faults.StepLimit) is = tt
by_test (Err faults.MatchTooLong) is = tt
by_test (Err faults.DataTooLong) is = tt
by_test (Err faults.Read) is = tt

by_any : {X : Type 0} (r : Result X Fault) → FailsBy of_loops r
by_any (Ok x) = tt
by_any (Err faults.Undefined) = inl refl
by_any (Err faults.WrongType) = refl
by_any (Err faults.Overflow) = refl
by_any (Err faults.DivisionByZero) = refl
by_any (Err faults.Exponent) = refl
by_any (Err faults.Count) = refl
by_any (Err faults.Shape) = refl
by_any (Err faults.StepLimit) = tt
by_any (Err faults.MatchTooLong) = tt
by_any (Err faults.DataTooLong) = tt
by_any (Err faults.Read) = tt

-- a variable gets a value
set_fails : (f : Faults) → ((why : Fault) → IsAmong of_expressions why → IsAmong f why) → (x : VarTree) (w : Value) (d : TestData) (s : State) → FailsIn f (set_to x w d s)
set_fails f more x w d s = next_fails f (lift (key x s.store) s) (λ k t. assign_key k w d t) (lift_fails f (key x s.store) s (by_expression f (key x s.store) more (key_is_ordinary x s.store))) (λ k t. tt)

keep_fails : (f : Faults) → ((why : Fault) → IsAmong of_expressions why → IsAmong f why) → (target : Option VarTree) (w : Value) (d : TestData) (s : State) → FailsIn f (keep target w d s)
keep_fails f more None w d s = tt
keep_fails f more (Some x) w d s = set_fails f more x w d s

-- the commands in which no others stand
int_fails : (low high : ExprTree) (target : Option VarTree) (d : TestData) (s : State) → FailsIn of_expressions (int low high target d s)
int_fails low high target d s =
    next_fails of_expressions (lift (number_of low s.store) s) (λ least t. proceed (lift (number_of high t.store) t) (λ most u. proceed (integer least most d u) (λ z o. keep target (values.Int z) d o))) (lift_fails of_expressions (number_of low s.store) s (ordinary (number_of low s.store) (number_is_ordinary low s.store)))
    (λ least t. next_fails of_expressions (lift (number_of high t.store) t) (λ most u. proceed (integer least most d u) (λ z o. keep target (values.Int z) d o)) (lift_fails of_expressions (number_of high t.store) t (ordinary (number_of high t.store) (number_is_ordinary high t.store)))
    (λ most u. next_fails of_expressions (integer least most d u) (λ z o. keep target (values.Int z) d o) (whatever of_expressions _ (integer least most d u) (integer_fits of_expressions least most d u))
    (λ z o. keep_fails of_expressions (λ why among. among) target (values.Int z) d o)))

string_fails : (e : ExprTree) (d : TestData) (s : State) → FailsIn of_expressions (string e d s)
string_fails e d s = next_fails of_expressions (lift (text_of e s.store) s) (λ bytes t. match_bytes bytes d t) (lift_fails of_expressions (text_of e s.store) s (ordinary (text_of e s.store) (text_is_ordinary e s.store)))
    (λ bytes t. whatever of_expressions _ (match_bytes bytes d t) (match_fits of_expressions bytes d t))

regex_fails : (literal : List ℕ) (target : Option VarTree) (d : TestData) (s : State) → FailsIn of_expressions (regex literal target d s)
regex_fails literal target d s =
    next_fails of_expressions (leading_match literal d s) (λ bytes t. keep target (values.Text bytes) d (record { offset = t.offset + length bytes; store = t.store; mode = t.mode })) (whatever of_expressions _ (leading_match literal d s) (leading_fits of_expressions literal d s))
    (λ bytes t. keep_fails of_expressions (λ why among. among) target (values.Text bytes) d (record { offset = t.offset + length bytes; store = t.store; mode = t.mode }))

give_fails : (x : VarTree) (e : ExprTree) (d : TestData) (s : State) → FailsIn of_expressions (give_value (x, e) d s)
give_fails x e d s = next_fails of_expressions (lift (val e s.store) s) (λ w t. set_to x w d t) (lift_fails of_expressions (val e s.store) s (ordinary (val e s.store) (value_is e s.store))) (λ w t. set_fails of_expressions (λ why among. among) x w d t)

sets_fail : (assignments : List (VarTree × ExprTree)) (d : TestData) (s : State) → FailsIn of_expressions (set assignments d s)
sets_fail [] d s = tt
sets_fail (a ∷ rest) d s = next_fails of_expressions (give_value a d s) (λ _ t. set rest d t) (give_fails a.0 a.1 d s) (λ _ t. sets_fail rest d t)

answer_fails : (t : TestTree) (d : TestData) (s : State) → FailsIn of_tests (answer t d s)
answer_fails t d s = lift_fails of_tests (truth t s.store d s.offset) s (by_test (truth t s.store d s.offset) (truth_is t s.store d s.offset))

assert_decides : (b : Bool) (d : TestData) (t : State) → FailsIn {A = ⊤} of_tests ((if b then return {A = ⊤} tt else reject AssertFailed) d t)
assert_decides true d t = tt
assert_decides false d t = tt

assert_fails : (t : TestTree) (d : TestData) (s : State) → FailsIn of_tests (assert t d s)
assert_fails t d s = next_fails of_tests (answer t d s) (λ b u. (if b then return {A = ⊤} tt else reject AssertFailed) d u) (answer_fails t d s) (λ b u. assert_decides b d u)

-- loops
guard_fails : (guard : GuardTree) (d : TestData) (s : State) → FailsIn of_loops (guard_of guard d s)
guard_fails (Tree.turns e) d s = next_fails of_loops (lift (count e s.store) s) (λ m t. done (times m) t) (lift_fails of_loops (count e s.store) s (by_any (count e s.store))) (λ m t. tt)
guard_fails (Tree.while t) d s = tt

going_fails : (guard : Guard) (k : ℕ) (d : TestData) (s : State) → FailsIn of_loops (goes_on guard k d s)
going_fails (times m) k d s = tt
going_fails (while_true t) k d s = lift_fails of_loops (truth t s.store d s.offset) s (by_any (truth t s.store d s.offset))

turn_fails : (loop : Started) (k : ℕ) (d : TestData) (s : State) → FailsIn of_loops (take_turn loop k d s)
turn_fails loop k d s = next_fails of_loops (keep loop.counter (values.Int (pos k)) d s) (λ _ t. goes_on loop.guard k d t) (keep_fails of_loops in_loops loop.counter (values.Int (pos k)) d s) (λ _ t. going_fails loop.guard k d t)

-- faults, by those that they are made of
pub made_of_nothing : (e : Faults) → AreAmong of_expressions (record { no_value = true; no_element = true; wrong_type = true; overflow = true; division_by_zero = true; exponent = true; count = e.count; shape = e.shape; blame = e.blame })
made_of_nothing e faults.Undefined among = inl refl
made_of_nothing e faults.WrongType among = refl
made_of_nothing e faults.Overflow among = refl
made_of_nothing e faults.DivisionByZero among = refl
made_of_nothing e faults.Exponent among = refl
made_of_nothing e faults.Count among = absurd (cc among)
made_of_nothing e faults.Shape among = absurd (cc among)
made_of_nothing e faults.StepLimit among = tt
made_of_nothing e faults.MatchTooLong among = tt
made_of_nothing e faults.DataTooLong among = tt
made_of_nothing e faults.Read among = tt

pub made_of_expressions : (e : Faults) → AreAmong of_expressions e → AreAmong of_tests (record { no_value = e.no_value; no_element = e.no_element; wrong_type = e.wrong_type; overflow = e.overflow; division_by_zero = e.division_by_zero; exponent = e.exponent; count = e.count; shape = true; blame = e.blame })
made_of_expressions e are faults.Undefined among = are faults.Undefined among
made_of_expressions e are faults.WrongType among = are faults.WrongType among
made_of_expressions e are faults.Overflow among = are faults.Overflow among
made_of_expressions e are faults.DivisionByZero among = are faults.DivisionByZero among
made_of_expressions e are faults.Exponent among = are faults.Exponent among
made_of_expressions e are faults.Count among = absurd (cc among)
made_of_expressions e are faults.Shape among = refl
made_of_expressions e are faults.StepLimit among = are faults.StepLimit among
made_of_expressions e are faults.MatchTooLong among = are faults.MatchTooLong among
made_of_expressions e are faults.DataTooLong among = are faults.DataTooLong among
made_of_expressions e are faults.Read among = are faults.Read among

pub made_of_tests : (e : Faults) → AreAmong of_tests e → AreAmong of_loops (record { no_value = e.no_value; no_element = e.no_element; wrong_type = e.wrong_type; overflow = e.overflow; division_by_zero = e.division_by_zero; exponent = e.exponent; count = true; shape = e.shape; blame = e.blame })
made_of_tests e are faults.Undefined among = are faults.Undefined among
made_of_tests e are faults.WrongType among = are faults.WrongType among
made_of_tests e are faults.Overflow among = are faults.Overflow among
made_of_tests e are faults.DivisionByZero among = are faults.DivisionByZero among
made_of_tests e are faults.Exponent among = are faults.Exponent among
made_of_tests e are faults.Count among = refl
made_of_tests e are faults.Shape among = are faults.Shape among
made_of_tests e are faults.StepLimit among = are faults.StepLimit among
made_of_tests e are faults.MatchTooLong among = are faults.MatchTooLong among
made_of_tests e are faults.DataTooLong among = are faults.DataTooLong among
made_of_tests e are faults.Read among = are faults.Read among

-- the events: of faults those that are listed, and all others
abbrev faults_in : List PlacedFault → Events
faults_in traps place happenings.begins = Unit {0}
faults_in traps place (finds moment h) = Unit {0}
faults_in traps place happenings.goes_on = Unit {0}
faults_in traps place (answers b) = Unit {0}
faults_in traps place (fails fault) = Contains traps (record { place = place; fault = fault })

-- nothing is known
abbrev anywhere : Before
anywhere n s = Unit {0}

listed_leaves : {A : Type 0} (traps : List PlacedFault) (place : Place) (f : Faults) (P : A → State → Type 0) (a : Effect A) → AreListed traps place f → FailsIn f a → ((x : A) (t : State) → P x t) → Leaves (faults_in traps) place P a
listed_leaves traps place f P (done x t) listed fits all = all x t
listed_leaves traps place f P (rejected reason consumed) listed fits all = tt
listed_leaves traps place f P (faulty fault consumed) listed fits all = λ of_value. listed fault of_value fits

listed_splits : (traps : List PlacedFault) (place : Place) (f : Faults) (a : Effect Bool) → AreListed traps place f → FailsIn f a → Splits (faults_in traps) place (λ _. Unit {0}) (λ _. Unit {0}) a
listed_splits traps place f (done true t) listed fits = record { event = tt; holds = tt }
listed_splits traps place f (done false t) listed fits = record { event = tt; holds = tt }
listed_splits traps place f (rejected reason consumed) listed fits = tt
listed_splits traps place f (faulty fault consumed) listed fits = λ of_value. listed fault of_value fits

begins_anyhow : (traps : List PlacedFault) (place : Place) (s : State) → BeginsBy (faults_in traps) place s
begins_anyhow traps place s = record { begun = tt; found = tt }

-- a command in which no others stand
simple_goes : (traps : List PlacedFault) (d : TestData) (c : CommandTree) (m : Act ⊤) (f : Faults) → IsSimple c m → AreListed traps (place_of c) f → ((s : State) → FailsIn f (m d s)) → CommandLeads d (faults_in traps) anywhere c anywhere
simple_goes traps d c m f simple listed fits ts zero s here next = safe_without_steps d (faults_in traps) (start c ∷ ts) s
simple_goes traps d c m f simple listed fits ts (suc n) s here next =
    simple_is_safe d (faults_in traps) anywhere c m ts n s simple (begins_anyhow traps (place_of c) s) (λ t end. tt) (λ place b happens. tt)
    (listed_leaves traps (place_of c) f (λ _ t. anywhere n t) (m d s) listed (fits s) (λ x t. tt)) next

-- parts of a list of commands
behind_first : (c : CommandTree) (cs : List CommandTree) (x : CommandTree) → Contains cs x → Contains (c ∷ cs) x
behind_first c cs x has = Contains-append_right (c ∷ []) cs x has

first_of : (c : CommandTree) (cs : List CommandTree) → Contains (c ∷ cs) c
first_of c cs = Contains-append_left (c ∷ []) cs c (Contains-push [] c)

mutual
  list_goes : (traps : List PlacedFault) (d : TestData) (cs : CommandList) → AreAllListed traps (all_commands cs) → Leads d (faults_in traps) anywhere cs anywhere
  list_goes traps d Tree.done all = none_leads d (faults_in traps) anywhere
  list_goes traps d (Tree.then c rest) all =
      list_leads d (faults_in traps) anywhere anywhere anywhere c rest
      (command_goes traps d c (all c (first_of c (commands_within c ++ all_commands rest))) (λ x has. all x (behind_first c (commands_within c ++ all_commands rest) x (Contains-append_left (commands_within c) (all_commands rest) x has))))
      (list_goes traps d rest (λ x has. all x (behind_first c (commands_within c ++ all_commands rest) x (Contains-append_right (commands_within c) (all_commands rest) x has))))

  command_goes : (traps : List PlacedFault) (d : TestData) (c : CommandTree) → IsListed traps c → AreAllListed traps (commands_within c) → CommandLeads d (faults_in traps) anywhere c anywhere
  command_goes traps d (Tree.space place) own within = simple_goes traps d (Tree.space place) space of_nothing is_space own (λ s. whatever of_nothing _ (space d s) (space_fits of_nothing d s))
  command_goes traps d (Tree.newline place) own within = simple_goes traps d (Tree.newline place) newline of_nothing is_newline own (λ s. whatever of_nothing _ (newline d s) (newline_fits of_nothing d s))
  command_goes traps d (Tree.eof place) own within = simple_goes traps d (Tree.eof place) end of_nothing is_eof own (λ s. whatever of_nothing _ (end d s) (end_fits of_nothing d s))
  command_goes traps d (Tree.int place low high target) own within = simple_goes traps d (Tree.int place low high target) (int low high target) of_expressions is_int own (λ s. int_fails low high target d s)
  command_goes traps d (Tree.string place e) own within = simple_goes traps d (Tree.string place e) (string e) of_expressions is_string own (λ s. string_fails e d s)
  command_goes traps d (Tree.regex place literal target) own within = simple_goes traps d (Tree.regex place literal target) (regex literal.bytes target) of_expressions is_regex own (λ s. regex_fails literal.bytes target d s)
  command_goes traps d (Tree.assert place t) own within = simple_goes traps d (Tree.assert place t) (assert t) of_tests is_assert own (λ s. assert_fails t d s)
  command_goes traps d (Tree.set place assignments) own within = simple_goes traps d (Tree.set place assignments) (set assignments) of_expressions is_set own (λ s. sets_fail assignments d s)
  command_goes traps d (Tree.unset place names) own within = simple_goes traps d (Tree.unset place names) (unset_all names) of_nothing is_unset own (λ s. tt)
  command_goes traps d (Tree.loop place guard counter sep body) own within =
      let between : AreAllListed traps (separator_commands sep) = λ x has. within x (Contains-append_left (separator_commands sep) (all_commands body) x has) in
      let inside : AreAllListed traps (all_commands body) = λ x has. within x (Contains-append_right (separator_commands sep) (all_commands body) x has) in
      start_leads d (faults_in traps) place guard counter sep body anywhere anywhere (λ n s here. begins_anyhow traps place s)
      (λ n s here. listed_leaves traps place of_loops (λ g t. StartsSafe d (faults_in traps) place n anywhere (loop_of place g counter sep body) t) (guard_of guard d s) own (guard_fails guard d s)
      (λ g t. record {
        gone = tt;
        safe = λ ts next. loop_leads d (faults_in traps) (loop_of place g counter sep body) (λ k. anywhere) (λ k. anywhere) (λ k. anywhere) anywhere
            (λ k. record {
              ended = λ j m u is here. tt;
              begin = λ m u here. listed_splits traps place of_loops (take_turn (loop_of place g counter sep body) k d u) own (turn_fails (loop_of place g counter sep body) k d u);
              separator = between_goes traps d k sep between;
              body = list_goes traps d body inside;
            }) 0 n ts t tt next;
      }))
  command_goes traps d (Tree.choice place t then_do else_do) own within =
      choice_leads d (faults_in traps) place t then_do else_do anywhere anywhere anywhere anywhere (λ n s here. begins_anyhow traps place s) (λ n u here. tt) (λ n u here. tt)
      (λ n s here. listed_splits traps place of_tests (answer t d s) own (answer_fails t d s))
      (list_goes traps d then_do (λ x has. within x (Contains-append_left (all_commands then_do) (all_commands else_do) x has)))
      (list_goes traps d else_do (λ x has. within x (Contains-append_right (all_commands then_do) (all_commands else_do) x has)))

  between_goes : (traps : List PlacedFault) (d : TestData) (k : ℕ) (sep : Separator) → AreAllListed traps (separator_commands sep) → Leads d (faults_in traps) anywhere (separator_before k sep) anywhere
  between_goes traps d zero sep all = none_leads d (faults_in traps) anywhere
  between_goes traps d (suc k) Tree.nothing all = none_leads d (faults_in traps) anywhere
  between_goes traps d (suc k) (Tree.between c) all =
      list_leads d (faults_in traps) anywhere anywhere anywhere c Tree.done
      (command_goes traps d c (all c (first_of c (commands_within c))) (λ x has. all x (behind_first c (commands_within c) x has)))
      (none_leads d (faults_in traps) anywhere)

-- so each trap of a program is listed
pub anything_is_listed : (program : CommandList) (presets : List Preset) (traps : List PlacedFault) → AreAllListed traps (all_commands program) → HasEachTrap program presets traps
anything_is_listed program presets traps all =
    traps_noted program presets (faults_in traps) traps (λ place fault has. has)
    (events_follow program presets (faults_in traps) anywhere anywhere (λ mode d n s less skipped. tt) (λ d. list_goes traps d program all) (λ n s here. tt))

-- commands from their front: the traps of each are listed, or it is one of the rest
abbrev pub LeftOrListed : List PlacedFault → (left whole : List CommandInBlock) → Type 0
LeftOrListed traps left whole = (c : CommandTree) → Contains (trees_of whole) c → Contains (trees_of left) c ⊎ IsListed traps c

first_listed : (traps : List PlacedFault) (x : CommandTree) (rest : List CommandTree) (c : CommandTree) → IsListed traps x → (x ≡ c) ⊎ Contains rest c → Contains rest c ⊎ IsListed traps c
first_listed traps x rest c own (inl same) = inr (subst (IsListed traps) same own)
first_listed traps x rest c own (inr has) = inl has

next_listed : (old new : List PlacedFault) (x : CommandTree) (rest : List CommandTree) (c : CommandTree) → ArePart old new → IsListed new x → Contains (x ∷ rest) c ⊎ IsListed old c → Contains rest c ⊎ IsListed new c
next_listed old new x rest c more own (inl has) = first_listed new x rest c own (first_or_rest x rest c has)
next_listed old new x rest c more own (inr listed) = inr (λ why of_value among. more (record { place = place_of c; fault = why }) (listed why of_value among))

pub listed_step : (old new : List PlacedFault) (entries : List CommandInBlock) (i : ℕ) (e : CommandInBlock) → i < length entries → e ≡ get_or entries i e → ArePart old new → IsListed new (command_tree e.command.now)
    → LeftOrListed old (drop i entries) entries → LeftOrListed new (drop (i + 1) entries) entries
listed_step old new entries i e inside is more own so_far c has =
    let rest : List CommandTree = trees_of (drop (i + 1) entries) in
    let next : trees_of (drop i entries) ≡ command_tree e.command.now ∷ rest = at_drop_more trees_of entries i e inside ∙ ap (λ (x : CommandInBlock). command_tree x.command.now ∷ rest) (sym is) in
    next_listed old new (command_tree e.command.now) rest c more own (subst (λ l. Contains l c ⊎ IsListed old c) next (so_far c has))

listed_or_none : (traps : List PlacedFault) (c : CommandTree) → Contains [] c ⊎ IsListed traps c → IsListed traps c
listed_or_none traps c (inl none) = absurd (none_in c none)
listed_or_none traps c (inr listed) = listed

pub listed_done : (traps : List PlacedFault) (entries : List CommandInBlock) (i : ℕ) → length entries ≤ i → LeftOrListed traps (drop i entries) entries → AreAllListed traps (trees_of entries)
listed_done traps entries i all so_far c has = listed_or_none traps c (subst (λ l. Contains (trees_of l) c ⊎ IsListed traps c) (drop_all i entries all) (so_far c has))
