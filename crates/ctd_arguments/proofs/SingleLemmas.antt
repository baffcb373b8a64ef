-- Each step of a parse of a command with no subcommand fails with one kind.
use Rattle.std.proofs.Common.{◌≡◌, ◌==◌, ◌&&◌, ◌||◌, ◌+◌, ℕ, zero, suc, Bool, true, false, not, cond, nat_lt, min, List, [], ◌∷◌, Option, None, Some, is_some, drop, length, slice_get, subst, sym, arith, lit≤}
use Rattle.std.specs.Char.{encode_utf8}
use Rattle.std.specs.Option.{option_map_or}
use Rattle.std.specs.Str.{bytes_eq, chars}
use Rattle.clap.specs.Lexer.{long_of, short_of}
use Rattle.clap.specs.Facts.{parser_of_value, unwrap_or_range}
use Rattle.clap.specs.Kinds.{Kinds, or_else, value_kinds, values_kinds, range_kinds, request_kinds, check_kinds}
use Rattle.clap.specs.Faults.{action_fault, bundle_fault, bundle_step_fault, check_fault, count_fault, default_fault, defaults_fault, flag_word_fault, flags_fault, level_fault, long_fault, option_fault, other_fault, positional_fault, react_fault, repeat_fault, set_fault, settle_fault, short_fault, step_fault, stray_fault, turn_fault, use_fault, values_fault, walk_fault, word_fault}
use Rattle.clap.specs.Matches.{count_text}
use Rattle.clap.specs.Simple.{Shape}
use Rattle.clap.specs.Values.{refused_kind}
use Rattle.clap.specs.ValueTests.{accepts}
use Rattle.clap.specs.Walk.{Held, Row, Rule, Step, Text, Waiting, Walk, action_of, arg_by_id, arg_by_index, arg_by_long, arg_by_short, attached_value, count_of, finished, has_row, idle, is_empty, is_pending, most_values, next, option, positional, reacted, settled, subcommand, takes_several, takes_values, trailing, value, values_or_missing, walk, walk_from, walked, with_default, word_met}
use Rattle.clap.specs.declared.builder.value_parser.ValueParser.{ValueParser}
use Rattle.clap.specs.declared.builder.ArgAction.{ArgAction}
use Rattle.clap.specs.declared.builder.ArgAction.TheVariants.{Set, Append, SetTrue, SetFalse, Count, Help, HelpShort, HelpLong, Version}
use Rattle.clap.specs.declared.error.ErrorKind.{ErrorKind}
use Rattle.clap.specs.declared.error.ErrorKind.TheVariants.{ArgumentConflict, DisplayHelpOnMissingArgumentOrSubcommand, InvalidSubcommand, InvalidValue, MissingRequiredArgument, MissingSubcommand, TooFewValues, TooManyValues, UnknownArgument, WrongNumberOfValues}
use Rattle.ctd_arguments.specs.calls.Usage.{IsSingle}

none : IsSingle []
none = record { one = omega arith }

only : (k : ErrorKind) → IsSingle (k ∷ [])
only k = record { one = lit≤ tt }

either : (a b : Kinds) → IsSingle a → IsSingle b → IsSingle (or_else a b)
either [] b h k = k
either (x ∷ xs) b h k = h

branch : (t : Bool) (a b : Kinds) → IsSingle a → IsSingle b → IsSingle (cond t a b)
branch true a b h k = h
branch false a b h k = k

mapped : {X : Type 0} (f : X → Kinds) (o : Option X) (d : Kinds) → ((x : X) → IsSingle (f x)) → IsSingle d → IsSingle (option_map_or f o d)
mapped f None d h k = k
mapped f (Some x) d h k = h x

value_one : (i : Bool) (p : ValueParser) (v : Text) → IsSingle (value_kinds i p v)
value_one i p v = branch (accepts i p v) [] (refused_kind p ∷ []) none (only _)

values_one : (i : Bool) (p : ValueParser) (vs : List Text) → IsSingle (values_kinds i p vs)
values_one i p [] = search (none, only)
values_one i p (v ∷ vs) = either (value_kinds i p v) _ (value_one i p v) (values_one i p vs)

range_one : (a b n : ℕ) → IsSingle (range_kinds a b n)
range_one a b n =
    let many = branch (nat_lt b n) (TooManyValues ∷ []) [] (only _) none in
    let few = branch (nat_lt n a) (TooFewValues ∷ []) _ (only _) many in
    let exact = branch (a == n) [] (WrongNumberOfValues ∷ []) none (only _) in
    branch (nat_lt 0 a && n == 0) (InvalidValue ∷ []) _ (only _) (branch (a == b) _ _ exact few)

set_one : (again : Bool) (a : Rule) (vs : List Text) (rows : List Row) → IsSingle (set_fault again a vs rows)
set_one again a vs rows = either (repeat_fault again a.id rows) _ (branch (has_row a.id rows && not again) (ArgumentConflict ∷ []) [] (only _) none) (values_one a.ignore_case (parser_of_value a.parser) vs)

count_one : (a : Rule) (vs : List Text) (rows : List Row) → IsSingle (count_fault a vs rows)
count_one a [] rows = value_one a.ignore_case (parser_of_value a.parser) (count_text (min (count_of a.id rows + 1) 255))
count_one a (v ∷ vs) rows = values_one a.ignore_case (parser_of_value a.parser) (v ∷ vs)

action_one : (x : ArgAction) (again : Bool) (a : Rule) (vs : List Text) (rows : List Row) → IsSingle (action_fault x again a vs rows)
action_one Set again a vs rows = set_one again a vs rows
action_one SetTrue again a vs rows = set_one again a vs rows
action_one SetFalse again a vs rows = set_one again a vs rows
action_one Append again a vs rows = values_one a.ignore_case (parser_of_value a.parser) vs
action_one Count again a vs rows = count_one a vs rows
action_one Help again a vs rows = only _
action_one HelpShort again a vs rows = only _
action_one HelpLong again a vs rows = only _
action_one Version again a vs rows = only _

use_one : (again : Bool) (a : Rule) (vs : List Text) (rows : List Row) → IsSingle (use_fault again a vs rows)
use_one again a vs rows = either (range_kinds (unwrap_or_range a.range).start_inclusive (most_values a) (length vs)) _ (range_one (unwrap_or_range a.range).start_inclusive (most_values a) (length vs)) (action_one (action_of a) again a (values_or_missing a vs) rows)

settle_one : (c : List Rule) (again : Bool) (h : Held) → IsSingle (settle_fault c again h)
settle_one c again h = mapped (λ p. option_map_or (λ a. use_fault again a p.1 h.rows) (arg_by_id c p.0) []) h.pending [] (λ p. mapped (λ a. use_fault again a p.1 h.rows) (arg_by_id c p.0) [] (λ a. use_one again a p.1 h.rows) none) none

react_one : (c : List Rule) (again : Bool) (a : Rule) (vs : List Text) (h : Held) → IsSingle (react_fault c again a vs h)
react_one c again a vs h = either (settle_fault c again h) (use_fault again a vs (settled c h).rows) (settle_one c again h) (use_one again a vs _)

option_one : (c : List Rule) (again : Bool) (a : Rule) (v : Option Text) (h : Held) → IsSingle (option_fault c again a v h)
option_one c again a (Some v) h = react_one c again a (v ∷ []) h
option_one c again a None h = settle_one c again h

long_one : (c : List Rule) (again : Bool) (found : Option Rule) (v : Option Text) (h : Held) → IsSingle (long_fault c again found v h)
long_one c again None v h = only _
long_one c again (Some a) v h = branch (takes_values a) (option_fault c again a v h) _ (option_one c again a v h)
    (branch (is_some v) (TooManyValues ∷ []) (react_fault c again a [] h) (only _) (react_one c again a [] h))

short_one : (c : List Rule) (again : Bool) (found : Option Rule) (rest : Text) (h : Held) (more : Held → Kinds) → ((k : Held) → IsSingle (more k))
    → IsSingle (short_fault c again found rest h more)
short_one c again None rest h more one = only _
short_one c again (Some a) rest h more one = branch (takes_values a) (option_fault c again a (attached_value rest) h) _ (option_one c again a _ h)
    (either (react_fault c again a [] h) (more (reacted c a [] h)) (react_one c again a [] h) (one _))

step_of_bundle : (c : List Rule) (again : Bool) (x : Option ℕ) (flags : Text) (skip : ℕ) (h : Held) (more : Text → ℕ → Held → Kinds)
    → ((t : Text) (n : ℕ) (k : Held) → IsSingle (more t n k)) → IsSingle (bundle_step_fault c again x flags skip h more)
step_of_bundle c again None flags skip h more one = none
step_of_bundle c again (Some x) flags zero h more one =
    let rest = drop (length (encode_utf8 x)) flags in
    short_one c again (arg_by_short c x) rest h (more rest 0) (λ k. one rest 0 k)
step_of_bundle c again (Some x) flags (suc skip) h more one = one _ skip h

flags_one : (c : List Rule) (again : Bool) (k : ℕ) (flags : Text) (skip : ℕ) (h : Held) → IsSingle (flags_fault c again k flags skip h)
unfolding flags_fault
flags_one c again zero flags skip h = none
flags_one c again (suc k) flags skip h =
    step_of_bundle c again (slice_get (chars flags) 0) flags skip h (flags_fault c again k) (λ t n h2. flags_one c again k t n h2)

word_one : (c : List Rule) (again : Bool) (long : Option (Text × Option Text)) (word : Text) (h : Held) → IsSingle (flag_word_fault c again long word h)
word_one c again (Some p) word h = long_one c again (arg_by_long c p.0) p.1 h
word_one c again None word h = mapped (λ flags. bundle_fault c again flags h) (short_of word) [] (λ flags. flags_one c again (length flags) flags h.skip _) none

other_one : (s : Shape) (word : Text) (h : Held) → IsSingle (other_fault s None word h)
other_one s word h = branch (bytes_eq word (45 ∷ 45 ∷ [])) [] _ none (word_one s.rules s.args_override_self (long_of word) word h)

-- with no subcommand to name
word_fault_one : (s : Shape) (is_trailing : Bool) (waiting : Waiting) (word : Text) (h : Held) → IsSingle (word_fault s [] is_trailing waiting word h)
word_fault_one s is_trailing idle word h = branch is_trailing [] (other_fault s None word h) none (other_one s word h)
word_fault_one s is_trailing (option id) word h = branch is_trailing [] (other_fault s None word h) none (other_one s word h)
word_fault_one s is_trailing positional word h = branch is_trailing [] (other_fault s None word h) none (other_one s word h)

stray_one : (s : Shape) → s.is_leaf ≡ true → IsSingle (stray_fault s)
stray_one s leaf = subst (λ b. IsSingle (cond b (UnknownArgument ∷ []) (UnknownArgument ∷ InvalidSubcommand ∷ []))) (sym leaf) (only _)

step_one : (s : Shape) → s.is_leaf ≡ true → (position : ℕ) (h : Held) (step : Step) → IsSingle (step_fault s position h step)
step_one s leaf position h value = mapped (λ a. positional_fault s.rules s.args_override_self a h) (arg_by_index s.rules position) (stray_fault s)
    (λ a. branch (is_pending a h.pending && takes_several a) [] (settle_fault s.rules s.args_override_self h) none (settle_one s.rules s.args_override_self h)) (stray_one s leaf)
step_one s leaf position h (next w) = none
step_one s leaf position h (trailing p) = none
step_one s leaf position h (subcommand n) = none

turn_one : (s : Shape) → s.is_leaf ≡ true → (w : Walk) (word : Text) → IsSingle (turn_fault s [] w word)
turn_one s leaf w word =
    let met = word_met s.rules [] w.is_trailing w.waiting w.position word w.held in
    branch (is_some w.stopped) [] _ none
    (either (word_fault s [] w.is_trailing w.waiting word w.held) (step_fault s w.position met.0 met.1)
    (word_fault_one s w.is_trailing w.waiting word w.held) (step_one s leaf w.position met.0 met.1))

walk_one : (s : Shape) → s.is_leaf ≡ true → (w : Walk) (words : List Text) → IsSingle (walk_fault s [] w words)
unfolding walk_fault
walk_one s leaf w [] = none
walk_one s leaf w (word ∷ rest) =
    either (turn_fault s [] w word) (walk_fault s [] (walked s.rules [] w word) rest) (turn_one s leaf w word) (walk_one s leaf (walked s.rules [] w word) rest)

request_one : (x : ArgAction) → IsSingle (request_kinds x)
request_one Set = none
request_one SetTrue = none
request_one SetFalse = none
request_one Append = none
request_one Count = none
request_one Help = only _
request_one HelpShort = only _
request_one HelpLong = only _
request_one Version = only _

default_one : (rows : List Row) (a : Rule) → IsSingle (default_fault rows a)
default_one rows a = branch (has_row a.id rows || is_empty a.defaults) [] _ none
    (either (request_kinds (action_of a)) (values_fault a a.defaults) (request_one (action_of a)) (values_one a.ignore_case (parser_of_value a.parser) a.defaults))

defaults_one : (rows : List Row) (rules : List Rule) → IsSingle (defaults_fault rows rules)
unfolding defaults_fault
defaults_one rows [] = none
defaults_one rows (a ∷ rest) =
    either (default_fault rows a) (defaults_fault (with_default rows a) rest) (default_one rows a) (defaults_one (with_default rows a) rest)

check_one : (x y z : Bool) → IsSingle (check_kinds x y z)
check_one x y z =
    branch x (DisplayHelpOnMissingArgumentOrSubcommand ∷ []) _ (only _)
    (branch y (MissingSubcommand ∷ []) _ (only _) (branch z (MissingRequiredArgument ∷ []) [] (only _) none))

pub level_one : (s : Shape) → s.is_leaf ≡ true → (h : Held) (words : List Text) → IsSingle (level_fault s [] h words false [])
level_one s leaf h words =
    let end = (walk s.rules [] h words).held in
    let settled_fault = settle_fault s.rules s.args_override_self end in
    let filled_fault = defaults_fault (settled s.rules end).rows s.rules in
    let checked_fault = check_fault s (finished s.rules end) false in
    either (walk_fault s [] (walk_from h) words) _ (walk_one s leaf (walk_from h) words)
    (either settled_fault _ (settle_one s.rules s.args_override_self end)
    (either filled_fault checked_fault (defaults_one (settled s.rules end).rows s.rules) (check_one _ _ _)))
