-- Acts that leave the values of names without indices alone.
use Rattle.ctd_traps.proofs.Common.{Act, AssertFailed, Bindings, Bool, CommandTree, Effect, Err, ExprList, ExprTree, Fault, Faults, Fits, Guard, IsAmong, IsSimple, Key, List, None, Ok, Option}
use Rattle.ctd_traps.proofs.Common.{Result, Some, SparesAll, Spares, SparesNames, SparesTarget, SparesVariable, TestData, TestTree, Unchanged, Value, VarTree, [], answer, ap, assert, assign, assign_key}
use Rattle.ctd_traps.proofs.Common.{at_key, done, end, false, faulty, fold, give_value, if◌then◌else◌, inl, int, integer, is_assert, is_eof, is_int, is_newline}
use Rattle.ctd_traps.proofs.Common.{is_regex, is_set, is_space, is_string, is_unset, keep, key, leading_match, length, lift, match_bytes, newline, number_of, pos, proceed, refl, regex, reject, rejected}
use Rattle.ctd_traps.proofs.Common.{return, set, set_to, space, string, subst, sym, take_turn, text_of, times, true, truth, unset, val, vals, value_at, while_true, ℕ, ⊤, ◌+◌, ◌>>=◌, ◌∙◌, ◌∷◌, ◌≡◌, ◌≢◌}
use Rattle.ctd_program.specs.Tree
use Rattle.std.proofs.Common.{bytes_eq, drop, get_or, ◌<◌}
use Rattle.std.proofs.lemmas.List.{at_drop_more}
use Rattle.std.proofs.lemmas.Slice.Eq.{bytes_eq-Decides}
use Rattle.ctd_store.specs.declared.value.Value.TheVariants as values
use Rattle.ctd_outcome.specs.declared.reason.Fault.TheVariants as faults
use Rattle.ctd_command.specs.State.{State}
use Rattle.ctd_check.specs.Loops.{Loop, goes_on}
use Rattle.ctd_store.proofs.StoreLaws.{assignment_keeps_other_keys, unset_keeps_other_names}
use Rattle.ctd_transfer.proofs.Fits.{Between, Same, Short, end_fits, integer_fits, leading_fits, match_fits, newline_fits, space_fits, then_fits}

-- all faults
abbrev pub every : Faults
every = record { no_value = true; no_element = true; wrong_type = true; overflow = true; division_by_zero = true; exponent = true; count = true; shape = true; blame = record { no_value = None; no_element = None; wrong_type = None; overflow = None; division_by_zero = None; exponent = None; count = None } }

every_fault : (why : Fault) → IsAmong every why
every_fault faults.Undefined = inl refl
every_fault faults.WrongType = refl
every_fault faults.Overflow = refl
every_fault faults.DivisionByZero = refl
every_fault faults.Exponent = refl
every_fault faults.Count = refl
every_fault faults.Shape = refl
every_fault faults.StepLimit = tt
every_fault faults.MatchTooLong = tt
every_fault faults.DataTooLong = tt
every_fault faults.Read = tt

-- an evaluation, whatever it gives
lift_fits : {A : Type 0} (r : Result A Fault) (s : State) → Fits every (λ x t. (r ≡ Ok x) × (t ≡ s)) (lift r s)
lift_fits (Ok x) s = (refl, refl)
lift_fits (Err why) s = every_fault why

lifted_fits : {A : Type 0} (spared : List ℕ → Type 0) (h : Bindings) (r : Result A Fault) (s : State) → Unchanged spared h s.store → Fits every (λ _ t. Unchanged spared h t.store) (lift r s)
lifted_fits spared h (Ok x) s is = is
lifted_fits spared h (Err why) s is = every_fault why

-- where the variables are as they were
same_store : (spared : List ℕ → Type 0) (h : Bindings) (s t : State) → t.store ≡ s.store → Unchanged spared h s.store → Unchanged spared h t.store
same_store spared h s t same is = subst (Unchanged spared h) (sym same) is

same_state : (spared : List ℕ → Type 0) (h : Bindings) (s t : State) → t ≡ s → Unchanged spared h s.store → Unchanged spared h t.store
same_state spared h s t same is = same_store spared h s t (ap (λ (q : State). q.store) same) is

same_fits : {A : Type 0} (spared : List ℕ → Type 0) (h : Bindings) (s : State) (a : Effect A) → Unchanged spared h s.store → Fits every (Same s.store) a → Fits every (λ _ t. Unchanged spared h t.store) a
same_fits spared h s (done x t) is same = same_store spared h s t same is
same_fits spared h s (rejected reason consumed) is same = tt
same_fits spared h s (faulty fault consumed) is same = same

-- a variable that is spared has another key
some_key : (own : List ℕ) (r : Result Value Fault) (rs : Result (List Value) Fault) (k : Key) → ((r >>= (λ v. rs >>= (λ vs. Ok (v ∷ vs)))) >>= (λ is. Ok (record { name = own; indices = is }))) ≡ Ok k → k.indices ≡ [] → ⊥
some_key own (Err why) rs k is none = absurd (cc is)
some_key own (Ok v) (Err why) k is none = absurd (cc is)
some_key own (Ok v) (Ok vs) k is none =
    let it : at_key own (v ∷ vs) ≡ k = cc is in
    let some : (v ∷ vs) ≡ [] = ap (λ (q : Key). q.indices) it ∙ none in
    absurd (cc some)

spared_by : (name own : List ℕ) (es : ExprList) (k : Key) (h : Bindings) → (es ≡ Tree.none → own ≢ name) → key (record { name = own; indices = es }) h ≡ Ok k → at_key name [] ≢ k
spared_by name own Tree.none k h spares is same =
    let it : Ok (at_key own []) ≡ Ok k = is in
    let one : at_key own [] ≡ k = cc it in
    spares refl (ap (λ (q : Key). q.name) (one ∙ sym same))
spared_by name own (Tree.some e rest) k h spares is same = some_key own (val e h) (vals rest h) k is (ap (λ (q : Key). q.indices) (sym same))

spared_key : (name : List ℕ) (x : VarTree) (k : Key) (h : Bindings) → SparesVariable name x → key x h ≡ Ok k → at_key name [] ≢ k
spared_key name x k h spares is same = spared_by name x.name x.indices k h (λ none. spares none) is same

-- a variable gets a value
set_fits : (spared : List ℕ → Type 0) (h : Bindings) (x : VarTree) (w : Value) (d : TestData) (s : State) → ((name : List ℕ) → spared name → SparesVariable name x) → Unchanged spared h s.store → Fits every (λ _ t. Unchanged spared h t.store) (set_to x w d s)
set_fits spared h x w d s spares is =
    then_fits every (λ k t. (key x s.store ≡ Ok k) × (t ≡ s)) (λ _ t. Unchanged spared h t.store) (lift (key x s.store) s) (λ k t. assign_key k w d t) (lift_fits (key x s.store) s)
    (λ k t here. subst (λ (u : State). Unchanged spared h (assign u.store k w)) (sym here.1)
    (λ name spare. assignment_keeps_other_keys s.store k (at_key name []) w (spared_key name x k s.store (spares name spare) here.0) ∙ is name spare))

keep_fits : (spared : List ℕ → Type 0) (h : Bindings) (target : Option VarTree) (w : Value) (d : TestData) (s : State) → ((name : List ℕ) → spared name → SparesTarget name target) → Unchanged spared h s.store → Fits every (λ _ t. Unchanged spared h t.store) (keep target w d s)
keep_fits spared h None w d s spares is = is
keep_fits spared h (Some x) w d s spares is = set_fits spared h x w d s spares is

int_fits : (spared : List ℕ → Type 0) (h : Bindings) (low high : ExprTree) (target : Option VarTree) (d : TestData) (s : State) → ((name : List ℕ) → spared name → SparesTarget name target) → Unchanged spared h s.store → Fits every (λ _ t. Unchanged spared h t.store) (int low high target d s)
int_fits spared h low high target d s spares is =
    then_fits every (λ x t. (number_of low s.store ≡ Ok x) × (t ≡ s)) (λ _ t. Unchanged spared h t.store) (lift (number_of low s.store) s) (λ least t. proceed (lift (number_of high t.store) t) (λ most u. proceed (integer least most d u) (λ z o. keep target (values.Int z) d o))) (lift_fits (number_of low s.store) s)
    (λ least t at. then_fits every (λ y u. (number_of high t.store ≡ Ok y) × (u ≡ t)) (λ _ u. Unchanged spared h u.store) (lift (number_of high t.store) t) (λ most u. proceed (integer least most d u) (λ z o. keep target (values.Int z) d o)) (lift_fits (number_of high t.store) t)
    (λ most u there. let same : u ≡ s = there.1 ∙ at.1 in
    then_fits every (Between least most u.store) (λ _ o. Unchanged spared h o.store) (integer least most d u) (λ z o. keep target (values.Int z) d o) (integer_fits every least most d u)
    (λ z o between. keep_fits spared h target (values.Int z) d o spares (same_store spared h s o (between.2 ∙ ap (λ (q : State). q.store) same) is))))

string_fits : (spared : List ℕ → Type 0) (h : Bindings) (e : ExprTree) (d : TestData) (s : State) → Unchanged spared h s.store → Fits every (λ _ t. Unchanged spared h t.store) (string e d s)
string_fits spared h e d s is =
    then_fits every (λ bytes t. (text_of e s.store ≡ Ok bytes) × (t ≡ s)) (λ _ t. Unchanged spared h t.store) (lift (text_of e s.store) s) (λ bytes t. match_bytes bytes d t) (lift_fits (text_of e s.store) s)
    (λ bytes t at. same_fits spared h t (match_bytes bytes d t) (same_state spared h s t at.1 is) (match_fits every bytes d t))

regex_fits : (spared : List ℕ → Type 0) (h : Bindings) (literal : List ℕ) (target : Option VarTree) (d : TestData) (s : State) → ((name : List ℕ) → spared name → SparesTarget name target) → Unchanged spared h s.store → Fits every (λ _ t. Unchanged spared h t.store) (regex literal target d s)
regex_fits spared h literal target d s spares is =
    then_fits every (Short s.store) (λ _ t. Unchanged spared h t.store) (leading_match literal d s) (λ bytes t. keep target (values.Text bytes) d (record { offset = t.offset + length bytes; store = t.store; mode = t.mode })) (leading_fits every literal d s)
    (λ bytes t short. keep_fits spared h target (values.Text bytes) d (record { offset = t.offset + length bytes; store = t.store; mode = t.mode }) spares (same_store spared h s t short.1 is))

assert_then : (spared : List ℕ → Type 0) (h : Bindings) (b : Bool) (d : TestData) (t : State) → Unchanged spared h t.store → Fits {A = ⊤} every (λ _ u. Unchanged spared h u.store) ((if b then return {A = ⊤} tt else reject AssertFailed) d t)
assert_then spared h true d t is = is
assert_then spared h false d t is = tt

assert_fits : (spared : List ℕ → Type 0) (h : Bindings) (t : TestTree) (d : TestData) (s : State) → Unchanged spared h s.store → Fits every (λ _ u. Unchanged spared h u.store) (assert t d s)
assert_fits spared h t d s is =
    then_fits every (λ _ u. Unchanged spared h u.store) (λ _ u. Unchanged spared h u.store) (answer t d s) (λ b u. (if b then return {A = ⊤} tt else reject AssertFailed) d u) (lifted_fits spared h (truth t s.store d s.offset) s is) (λ b u here. assert_then spared h b d u here)

give_fits : (spared : List ℕ → Type 0) (h : Bindings) (x : VarTree) (e : ExprTree) (d : TestData) (s : State) → ((name : List ℕ) → spared name → SparesVariable name x) → Unchanged spared h s.store → Fits every (λ _ t. Unchanged spared h t.store) (give_value (x, e) d s)
give_fits spared h x e d s spares is =
    then_fits every (λ w t. (val e s.store ≡ Ok w) × (t ≡ s)) (λ _ t. Unchanged spared h t.store) (lift (val e s.store) s) (λ w t. set_to x w d t) (lift_fits (val e s.store) s)
    (λ w t at. set_fits spared h x w d t spares (same_state spared h s t at.1 is))

sets_fit : (spared : List ℕ → Type 0) (h : Bindings) (assignments : List (VarTree × ExprTree)) (d : TestData) (s : State) → ((name : List ℕ) → spared name → SparesAll name assignments) → Unchanged spared h s.store → Fits every (λ _ t. Unchanged spared h t.store) (set assignments d s)
sets_fit spared h [] d s spares is = is
sets_fit spared h (a ∷ rest) d s spares is =
    then_fits every (λ _ t. Unchanged spared h t.store) (λ _ t. Unchanged spared h t.store) (give_value a d s) (λ _ t. set rest d t) (give_fits spared h a.0 a.1 d s (λ name spare. (spares name spare).0) is)
    (λ _ t here. sets_fit spared h rest d t (λ name spare. (spares name spare).1) here)

unset_value : (name : List ℕ) (names : List (List ℕ)) (h : Bindings) → SparesNames name names → value_at (fold unset h names) (at_key name []) ≡ value_at h (at_key name [])
unset_value name [] h spares = refl
unset_value name (other ∷ rest) h spares = unset_value name rest (unset h other) spares.1 ∙ unset_keeps_other_names h other (at_key name []) spares.0

unset_fits : (spared : List ℕ → Type 0) (h : Bindings) (names : List (List ℕ)) (s : State) → ((name : List ℕ) → spared name → SparesNames name names) → Unchanged spared h s.store → Unchanged spared h (fold unset s.store names)
unset_fits spared h names s spares is name spare = unset_value name names s.store (spares name spare) ∙ is name spare

-- a command in which no others stand
simple_keeps : (spared : List ℕ → Type 0) (h : Bindings) (c : CommandTree) (m : Act ⊤) (d : TestData) (s : State) → IsSimple c m → ((name : List ℕ) → spared name → Spares name c) → Unchanged spared h s.store → Fits every (λ _ t. Unchanged spared h t.store) (m d s)
simple_keeps spared h _ _ d s (is_space) spares is = same_fits spared h s (space d s) is (space_fits every d s)
simple_keeps spared h _ _ d s (is_newline) spares is = same_fits spared h s (newline d s) is (newline_fits every d s)
simple_keeps spared h _ _ d s (is_eof) spares is = same_fits spared h s (end d s) is (end_fits every d s)
simple_keeps spared h _ _ d s (is_int {low = low} {high = high} {target = target}) spares is = int_fits spared h low high target d s spares is
simple_keeps spared h _ _ d s (is_string {e = e}) spares is = string_fits spared h e d s is
simple_keeps spared h _ _ d s (is_regex {literal = literal} {target = target}) spares is = regex_fits spared h literal.bytes target d s spares is
simple_keeps spared h _ _ d s (is_assert {t = t}) spares is = assert_fits spared h t d s is
simple_keeps spared h _ _ d s (is_set {assignments = assignments}) spares is = sets_fit spared h assignments d s spares is
simple_keeps spared h _ _ d s (is_unset {names = names}) spares is = unset_fits spared h names s spares is

all_unchanged : (spared : List ℕ → Type 0) (h : Bindings) → Unchanged spared h h
all_unchanged spared h name spare = refl

simple_fits : (c : CommandTree) (m : Act ⊤) (d : TestData) (s : State) → IsSimple c m → Fits every (λ _ t. Unchanged (λ name. Spares name c) s.store t.store) (m d s)
simple_fits c m d s simple = simple_keeps (λ name. Spares name c) s.store c m d s simple (λ name spares. spares) (all_unchanged (λ name. Spares name c) s.store)

pub simple_spares : (c : CommandTree) (m : Act ⊤) (d : TestData) (s t : State) (x : ⊤) → IsSimple c m → m d s ≡ done x t → Unchanged (λ name. Spares name c) s.store t.store
simple_spares c m d s t x simple is = subst (Fits every (λ _ u. Unchanged (λ name. Spares name c) s.store u.store)) is (simple_fits c m d s simple)

-- a turn of a loop begins
turn_then : (spared : List ℕ → Type 0) (h : Bindings) (guard : Guard) (k : ℕ) (d : TestData) (t : State) → Unchanged spared h t.store → Fits every (λ _ u. Unchanged spared h u.store) (goes_on guard k d t)
turn_then spared h (times n) k d t is = is
turn_then spared h (while_true test) k d t is = lifted_fits spared h (truth test t.store d t.offset) t is

turn_fits : (loop : Loop) (k : ℕ) (d : TestData) (s : State) → Fits every (λ _ t. Unchanged (λ name. SparesTarget name loop.counter) s.store t.store) (take_turn loop k d s)
turn_fits loop k d s =
    let spared : List ℕ → Type 0 = λ name. SparesTarget name loop.counter in
    then_fits every (λ _ t. Unchanged spared s.store t.store) (λ _ t. Unchanged spared s.store t.store) (keep loop.counter (values.Int (pos k)) d s) (λ _ t. goes_on loop.guard k d t) (keep_fits spared s.store loop.counter (values.Int (pos k)) d s (λ name spares. spares) (all_unchanged spared s.store))
    (λ _ t here. turn_then spared s.store loop.guard k d t here)

pub turn_spares : (loop : Loop) (k : ℕ) (d : TestData) (s t : State) (b : Bool) → take_turn loop k d s ≡ done b t → Unchanged (λ name. SparesTarget name loop.counter) s.store t.store
turn_spares loop k d s t b is = subst (Fits every (λ _ u. Unchanged (λ name. SparesTarget name loop.counter) s.store u.store)) is (turn_fits loop k d s)

-- names that are not the same
pub not_same : (a b : List ℕ) → bytes_eq a b ≡ false → b ≢ a
not_same a b is same = let yes : bytes_eq a b ≡ true = (bytes_eq-Decides a b).1 (sym same) in absurd (cc (yes, is))

pub names_on : (name : List ℕ) (names : List (List ℕ)) (i : ℕ) (other : List ℕ) → i < length names → other ≡ get_or names i other → name ≢ other → (SparesNames name (drop i names) → SparesNames name names) → SparesNames name (drop (i + 1) names) → SparesNames name names
names_on name names i other inside is apart so_far rest =
    so_far (subst (SparesNames name) (sym (at_drop_more (λ l. l) names i other inside ∙ ap (λ (y : List ℕ). y ∷ drop (i + 1) names) (sym is))) (apart, rest))
