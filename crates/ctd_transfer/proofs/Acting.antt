-- What simple commands leave.
use Rattle.ctd_transfer.proofs.Common.{AbstractState, Act, Acts, AreEvaluated, AreIndices, Assigns, AssignsAt, AssignsIndexed, AssignsName, AreAtPosition, Bindings, ClearsAll, ClearsName, Context, Effect, Err, Evaluates, EvaluatesIndices, Evaluation, Expects, Expr, ExprTree, FailsBy, Fault, Faults, Fits, Indices, IsAssigned, IsCopyOf, IsEvaluated, IsFaultOf, IsAmong, IsIn, IsLimited, IsPossible, KeepsValue, Key, Limits, List, MayBe, None, Ok, Option, PinsStand, PossibleValues, Range, Result, Some, StateStands, Stays, TestData, Value, ValueLimits, Var, VarTree, Variables, WINDOW, [], arith, as_number, as_text, assign, assign_key, assignment_keeps_pins, at_key, copy_stands, done, evaluate, expr_list, exprs_of, faulty, fold, give_value, int, integer, ints, keep, key, leading_match, length, lift, match_bytes, number_of, pins_in, proceed, refl, regex, rejected, set, set_to, string, subst, sym, text_of, unset, unset_all, val, vals, var_tree, ℕ, ℤ, ⊤, ◌+◌, ◌>>=◌, ◌∙◌, ◌∷◌, ◌≡◌, ◌≤ℤ◌, ◌≤◌}
use Rattle.ctd_limits.specs.calls.Known.{IsNothing, IsViewOf, LiesBetween}
use Rattle.ctd_partitions.specs.declared.change.Position.{Position}
use Rattle.ctd_store.specs.declared.value.Value.TheVariants as values
use Rattle.ctd_outcome.specs.declared.reason.Fault.TheVariants as faults
use Rattle.ctd_command.specs.State.{State}
use Rattle.ctd_transfer.proofs.Comparing.{evaluated_possible}
use Rattle.ctd_transfer.proofs.Fits.{AreFaults, Between, Same, Short, evaluation_fits, integer_fits, leading_fits, match_fits, then_fits}

-- a state stays where the variables are as they were
pub stays_same : (g : Context) (pins : Variables) (st : AbstractState) (n : ℕ) (s t : State) → t.store ≡ s.store → Stays g pins st n s → Stays g pins st n t
stays_same g pins st n s t same stays = subst (λ h. (h.pins ≡ pins) × StateStands g st n h) (sym same) stays

-- values, numbers and strings
abbrev ValueAt : Context → Evaluation → ℕ → State → Value → State → Type 0
ValueAt g e n s v t = (t ≡ s) × IsEvaluated g e n s.store (Ok v)

value_fits : (g : Context) (f : Faults) (e : Evaluation) (n : ℕ) (s : State) (r : Result Value Fault) → IsEvaluated g e n s.store r → AreFaults e.found.faults f → Fits f (ValueAt g e n s) (lift r s)
value_fits g f e n s (Ok v) may more = (refl, may)
value_fits g f e n s (Err why) may more = more why may

abbrev NumberAt : Context → Evaluation → ℕ → State → ℤ → State → Type 0
NumberAt g e n s x t = (t ≡ s) × IsEvaluated g e n s.store (Ok (values.Int x))

number_fits : (g : Context) (f own : Faults) (e : Evaluation) (n : ℕ) (s : State) (r : Result Value Fault) → IsEvaluated g e n s.store r → FailsBy own (as_number r) → AreFaults own f → Fits f (NumberAt g e n s) (lift (as_number r) s)
number_fits g f own e n s (Ok (values.Int x)) may fails more = (refl, may)
number_fits g f own e n s (Ok (values.Text bytes)) may fails more = more faults.WrongType fails
number_fits g f own e n s (Err why) may fails more = more why fails

-- a variable gets a value
key_fits : (g : Context) (pins : Variables) (after : AbstractState) (f : Faults) (n : ℕ) (d : TestData) (s : State) (v : Value) (r : Result Key Fault) → s.store.pins ≡ pins → IsAssigned g after f n s.store v r → Fits f (λ _ t. Stays g pins after n t) (proceed (lift r s) (λ k t. assign_key k v d t))
key_fits g pins after f n d s v (Ok k) pinned stands = (assignment_keeps_pins s.store k v ∙ pinned, stands)
key_fits g pins after f n d s v (Err why) pinned among = among

pub set_fits : (g : Context) (st after : AbstractState) (target : VarTree) (possible : PossibleValues) (limits : Limits) (f : Faults) → Assigns g st target possible limits after f → (pins : Variables) (d : TestData) (n : ℕ) (s : State) (v : Value) → PinsStand (pins_in g) pins → Stays g pins st n s → MayBe possible n v → IsLimited g.names.now s.store limits v
    → Fits f (λ _ t. Stays g pins after n t) (set_to target v d s)
set_fits g st after target possible limits f assigns pins d n s v stand stays may limited = key_fits g pins after f n d s v (key target s.store) stays.0 (assigns pins n s.store v stand stays.0 stays.1 may limited)

-- a name without indices, and an element
pub name_assigns : (g : Context) (st after : AbstractState) (name : List ℕ) (es : List Expr) (possible : PossibleValues) (limits : Limits) (f : Faults) → es ≡ [] → AssignsName g st name possible limits after → Assigns g st (record { name = name; indices = expr_list es }) possible limits after f
name_assigns g st after name es possible limits f none assigns = subst (λ l. Assigns g st (record { name = name; indices = expr_list l }) possible limits after f) (sym none) assigns

indexed_key : (g : Context) (after : AbstractState) (f : Faults) (n : ℕ) (h : Bindings) (v : Value) (name : List ℕ) (some : Indices) (r : Result (List Value) Fault) → AreEvaluated g some n h r → ((why : Fault) → IsFaultOf some why → IsAmong f why)
    → ((i : Value) (is : List Value) → AreIndices g some n h (i ∷ is) → StateStands g after n (assign h (at_key name (i ∷ is)) v)) → IsAssigned g after f n h v (r >>= (λ is. Ok (record { name = name; indices = is })))
indexed_key g after f n h v name some (Ok []) found more stands = absurd found
indexed_key g after f n h v name some (Ok (i ∷ is)) found more stands = stands i is found
indexed_key g after f n h v name some (Err why) found more stands = more why found

pub indexed_assigns : (g : Context) (st after : AbstractState) (name : List ℕ) (es : List Expr) (some : Indices) (at : Position) (possible : PossibleValues) (limits : Limits) (f : Faults) → EvaluatesIndices g st (expr_list es) some → ((why : Fault) → IsFaultOf some why → IsAmong f why)
    → ((g : Context) (n : ℕ) (h : Bindings) (i : Value) (is : List Value) → AreIndices g some n h (i ∷ is) → AreAtPosition g h at (i ∷ is)) → AssignsAt g st name at possible limits after → AssignsIndexed g st name (expr_list es) possible limits after f
indexed_assigns g st after name es some at possible limits f evaluates more places assigns pins n h v stand same stands may limited =
    indexed_key g after f n h v name some (vals (expr_list es) h) (evaluates n h stands) more (λ i is are. assigns pins n h i is v stand same stands (places g n h i is are) may limited)

-- where one of some values is expected
pub assigns_some : (g : Context) (st left after : AbstractState) (target : VarTree) (possible : PossibleValues) (limits : Limits) (f : Faults) → ((k : ℕ) (v : Value) → MayBe possible k v → after ≡ left) → Assigns g st target possible limits left f → Assigns g st target possible limits after f
assigns_some g st left after target possible limits f same assigns pins n h v stand is stands may limited = subst (λ l. IsAssigned g l f n h v (key target h)) (sym (same n v may)) (assigns pins n h v stand is stands may limited)

pub expects_copy : (g : Context) (st copy after : AbstractState) (possible : PossibleValues) → IsCopyOf st copy → ((k : ℕ) (v : Value) → MayBe possible k v → after ≡ copy) → Expects g st possible after
expects_copy g st copy after possible same kept n h v stands may = subst (λ l. StateStands g l n h) (sym (kept n v may)) (copy_stands g st copy same n h stands)

pub keeps_some : (g : Context) (st after : AbstractState) (target : VarTree) (possible : PossibleValues) (limits : Limits) (f : Faults) → Assigns g st target possible limits after f → KeepsValue g st (Some target) possible limits after f
keeps_some g st after target possible limits f assigns pins d n s v stand stays may limited = set_fits g st after target possible limits f assigns pins d n s v stand stays may limited

pub keeps_none : (g : Context) (st after : AbstractState) (possible : PossibleValues) (limits : Limits) (f : Faults) → Expects g st possible after → KeepsValue g st None possible limits after f
keeps_none g st after possible limits f expects pins d n s v stand stays may limited = (stays.0, expects n s.store v stays.1 may)

pub more_faults : {A : Type 0} (f g : Faults) (P : A → State → Type 0) (a : Effect A) → AreFaults f g → Fits f P a → Fits g P a
more_faults f g P (done x t) more fits = fits
more_faults f g P (rejected reason consumed) more fits = tt
more_faults f g P (faulty fault consumed) more fits = more fault fits

-- INT
pub int_acts : (g : Context) (st after : AbstractState) (low high : ExprTree) (target : Option VarTree) (a b : Evaluation) (possible : PossibleValues) (known : ValueLimits) (limits : Limits) (own_a own_b kept f : Faults) → Evaluates g st low a → Evaluates g st high b → ((k : ℕ) (r : Result Value Fault) → IsPossible a.found k r → FailsBy own_a (as_number r))
    → ((k : ℕ) (r : Result Value Fault) → IsPossible b.found k r → FailsBy own_b (as_number r)) → ((k : ℕ) (x y z : ℤ) → MayBe a.found.values k (values.Int x) → MayBe b.found.values k (values.Int y) → x ≤ℤ z → z ≤ℤ y → MayBe possible k (values.Int z))
    → LiesBetween a.limits b.limits known → IsViewOf known limits → KeepsValue g st target possible limits after kept → AreFaults own_a f → AreFaults own_b f → AreFaults kept f → Acts g st after f (int low high target)
int_acts g st after low high target a b possible known limits own_a own_b kept f gives_a gives_b fails_a fails_b between lies seen keeps more_a more_b more pins d n s stand stays =
    let is_a : IsEvaluated g a n s.store (val low s.store) = gives_a n s.store stays.1 in
    let is_b : IsEvaluated g b n s.store (val high s.store) = gives_b n s.store stays.1 in
    then_fits f (NumberAt g a n s) (λ _ t. Stays g pins after n t) (evaluate (number_of low) d s) (λ x t. proceed (evaluate (number_of high) d t) (λ y u. proceed (integer x y d u) (λ z v. keep target (values.Int z) d v)))
    (number_fits g f own_a a n s (val low s.store) is_a (fails_a n (val low s.store) (evaluated_possible g a n s.store (val low s.store) is_a)) more_a)
    (λ x t at. subst (λ (w : State). Fits f (λ _ t. Stays g pins after n t) (proceed (evaluate (number_of high) d w) (λ y u. proceed (integer x y d u) (λ z v. keep target (values.Int z) d v)))) (sym at.0)
    (then_fits f (NumberAt g b n s) (λ _ t. Stays g pins after n t) (evaluate (number_of high) d s) (λ y u. proceed (integer x y d u) (λ z v. keep target (values.Int z) d v))
    (number_fits g f own_b b n s (val high s.store) is_b (fails_b n (val high s.store) (evaluated_possible g b n s.store (val high s.store) is_b)) more_b)
    (λ y u at_too. subst (λ (w : State). Fits f (λ _ t. Stays g pins after n t) (proceed (integer x y d w) (λ z v. keep target (values.Int z) d v))) (sym at_too.0)
    (then_fits f (Between x y s.store) (λ _ t. Stays g pins after n t) (integer x y d s) (λ z v. keep target (values.Int z) d v) (integer_fits f x y d s)
    (λ z v read.
    let known_z : IsLimited g.names.now s.store limits (values.Int z) = seen g.names.now s.store (values.Int z) (lies g.names.now s.store x y z at.1.1 at_too.1.1 read.0 read.1) in
    more_faults kept f (λ _ t. Stays g pins after n t) (keep target (values.Int z) d v) more
    (keeps pins d n v (values.Int z) stand (stays_same g pins st n s v read.2 stays) (between n x y z at.1.0 at_too.1.0 read.0 read.1) (subst (λ h. IsLimited g.names.now h limits (values.Int z)) (sym read.2) known_z)))))))

same_stays : {A : Type 0} (g : Context) (f : Faults) (pins : Variables) (st : AbstractState) (n : ℕ) (s : State) (a : Effect A) → Stays g pins st n s → Fits f (Same s.store) a → Fits f (λ _ t. Stays g pins st n t) a
same_stays g f pins st n s (done x t) stays same = stays_same g pins st n s t same stays
same_stays g f pins st n s (rejected reason consumed) stays same = tt
same_stays g f pins st n s (faulty fault consumed) stays same = same

-- commands that change no variable
pub same_acts : (g : Context) (st after : AbstractState) (f : Faults) (m : Act ⊤) → IsCopyOf st after → ((d : TestData) (s : State) → Fits f (Same s.store) (m d s)) → Acts g st after f m
same_acts g st after f m same fits pins d n s stand stays = same_stays g f pins after n s (m d s) (stays.0, copy_stands g st after same n s.store stays.1) (fits d s)

-- STRING
text_at : (g : Context) (e : Evaluation) (n : ℕ) (h : Bindings) (r : Result Value Fault) (bytes : List ℕ) → IsEvaluated g e n h r → as_text r ≡ Ok bytes → MayBe e.found.values n (values.Text bytes)
text_at g e n h (Ok (values.Text bs)) bytes found is = let same : bs ≡ bytes = cc is in subst (λ l. MayBe e.found.values n (values.Text l)) same found.0
text_at g e n h (Ok (values.Int x)) bytes found is = absurd (cc is)
text_at g e n h (Err why) bytes found is = absurd (cc is)

pub string_acts : (g : Context) (st after : AbstractState) (e : ExprTree) (a : Evaluation) (texts : PossibleValues) (f : Faults) → Evaluates g st e a → ((k : ℕ) (r : Result Value Fault) → IsPossible a.found k r → FailsBy f (as_text r)) → ((k : ℕ) (bytes : List ℕ) → MayBe a.found.values k (values.Text bytes) → MayBe texts k (values.Text bytes))
    → Expects g st texts after → Acts g st after f (string e)
string_acts g st after e a texts f gives fails texts_of expects pins d n s stand stays =
    let r : Result Value Fault = val e s.store in
    let found : IsEvaluated g a n s.store r = gives n s.store stays.1 in
    then_fits f (λ bytes t. (as_text r ≡ Ok bytes) × (t ≡ s)) (λ _ t. Stays g pins after n t) (evaluate (text_of e) d s) (λ bytes t. match_bytes bytes d t) (evaluation_fits f (as_text r) s (fails n r (evaluated_possible g a n s.store r found)))
    (λ bytes t at. subst (λ (w : State). Fits f (λ _ t. Stays g pins after n t) (match_bytes bytes d w)) (sym at.1)
    (same_stays g f pins after n s (match_bytes bytes d s) (stays.0, expects n s.store (values.Text bytes) stays.1 (texts_of n bytes (text_at g a n s.store r bytes found at.0))) (match_fits f bytes d s)))

-- REGEX
pub regex_acts : (g : Context) (st after : AbstractState) (literal : List ℕ) (target : Option VarTree) (possible : PossibleValues) (known : ValueLimits) (limits : Limits) (f : Faults) → ((k : ℕ) (bytes : List ℕ) → length bytes ≤ WINDOW → MayBe possible k (values.Text bytes)) → IsNothing known → IsViewOf known limits
    → KeepsValue g st target possible limits after f → Acts g st after f (regex literal target)
regex_acts g st after literal target possible known limits f short nothing seen keeps pins d n s stand stays =
    then_fits f (Short s.store) (λ _ t. Stays g pins after n t) (leading_match literal d s) (λ bytes t. keep target (values.Text bytes) d (record { offset = t.offset + length bytes; store = t.store; mode = t.mode })) (leading_fits f literal d s)
    (λ bytes t read. keeps pins d n (record { offset = t.offset + length bytes; store = t.store; mode = t.mode }) (values.Text bytes) stand (stays_same g pins st n s (record { offset = t.offset + length bytes; store = t.store; mode = t.mode }) read.1 stays) (short n bytes read.0)
    (seen g.names.now t.store (values.Text bytes) (nothing g.names.now t.store (values.Text bytes))))

-- SET
pub one_acts : (g : Context) (st after : AbstractState) (target : VarTree) (e : ExprTree) (r : Evaluation) (limits : Limits) (own f : Faults) → Evaluates g st e r → IsViewOf r.limits limits → Assigns g st target r.found.values limits after own → AreFaults r.found.faults f → AreFaults own f → Acts g st after f (give_value (target, e))
one_acts g st after target e r limits own f gives seen assigns more_r more pins d n s stand stays =
    then_fits f (ValueAt g r n s) (λ _ t. Stays g pins after n t) (evaluate (val e) d s) (λ v t. set_to target v d t) (value_fits g f r n s (val e s.store) (gives n s.store stays.1) more_r)
    (λ v t at. subst (λ (w : State). Fits f (λ _ t. Stays g pins after n t) (set_to target v d w)) (sym at.0)
    (more_faults own f (λ _ t. Stays g pins after n t) (set_to target v d s) more (set_fits g st after target r.found.values limits own assigns pins d n s v stand stays at.1.0 (seen g.names.now s.store v at.1.1))))

abbrev pub SetLeads : (g : Context) (st after : AbstractState) → Faults → (rest whole : List (VarTree × ExprTree)) → Type 0
SetLeads g st after so_far rest whole = (all : Faults) (last : AbstractState) → AreFaults so_far all → Acts g after last all (set rest) → Acts g st last all (set whole)

pub set_leads_on : (g : Context) (st before after : AbstractState) (so_far new own : Faults) (one : VarTree × ExprTree) (rest whole : List (VarTree × ExprTree)) → Acts g before after own (give_value one) → AreFaults so_far new → AreFaults own new → SetLeads g st before so_far (one ∷ rest) whole → SetLeads g st after new rest whole
set_leads_on g st before after so_far new own one rest whole acts more more_own leads all last covers others =
    leads all last (λ x h. covers x (more x h)) (λ pins d n s stand stays.
    then_fits all (λ _ t. Stays g pins after n t) (λ _ t. Stays g pins last n t) (give_value one d s) (λ _ t. set rest d t)
    (more_faults own all (λ _ t. Stays g pins after n t) (give_value one d s) (λ x h. covers x (more_own x h)) (acts pins d n s stand stays)) (λ _ t here. others pins d n t stand here))

pub set_from_copy : (g : Context) (st copy : AbstractState) (f : Faults) (whole : List (VarTree × ExprTree)) → IsCopyOf st copy → SetLeads g st copy f whole whole
set_from_copy g st copy f whole same all last covers acts pins d n s stand stays = acts pins d n s stand (stays.0, copy_stands g st copy same n s.store stays.1)

pub nothing_set : (g : Context) (st : AbstractState) (f : Faults) → Acts g st st f (set [])
nothing_set g st f pins d n s stand stays = stays

-- UNSET
fold_pins : (names : List (List ℕ)) (h : Bindings) → (fold unset h names).pins ≡ h.pins
fold_pins [] h = refl
fold_pins (name ∷ names) h = fold_pins names (unset h name)

pub clear_acts : (g : Context) (st after : AbstractState) (names : List (List ℕ)) (f : Faults) → ClearsAll g st names after → Acts g st after f (unset_all names)
clear_acts g st after names f clears pins d n s stand stays = (fold_pins names s.store ∙ stays.0, clears pins n s.store stand stays.0 stays.1)

abbrev pub ClearLeads : (g : Context) (st after : AbstractState) → (rest whole : List (List ℕ)) → Type 0
ClearLeads g st after rest whole = (last : AbstractState) → ClearsAll g after rest last → ClearsAll g st whole last

pub clear_leads_on : (g : Context) (st before after : AbstractState) (name : List ℕ) (rest whole : List (List ℕ)) → ClearsName g before name after → ClearLeads g st before (name ∷ rest) whole → ClearLeads g st after rest whole
clear_leads_on g st before after name rest whole clears leads last others = leads last (λ pins n h stand same stands. others pins n (unset h name) stand same (clears pins n h stand same stands))

pub clear_from_copy : (g : Context) (st copy : AbstractState) (whole : List (List ℕ)) → IsCopyOf st copy → ClearLeads g st copy whole whole
clear_from_copy g st copy whole same last clears pins n h stand pinned stands = clears pins n h stand pinned (copy_stands g st copy same n h stands)

pub nothing_cleared : (g : Context) (st : AbstractState) → ClearsAll g st [] st
nothing_cleared g st pins n h stand same stands = stands

-- a variable of the code
pub var_is : (v : Var) (name : List ℕ) (es : List Expr) → name ≡ v.name → es ≡ exprs_of v.indices → record { name = name; indices = expr_list es } ≡ var_tree v
var_is v name es same_name same_indices i = record { name = same_name i; indices = expr_list (same_indices i) }

-- the numbers between those of two ranges
between_ends : (a b : Range) (k : ℕ) (x y z : ℤ) → IsIn a k x → IsIn b k y → x ≤ℤ z → z ≤ℤ y → IsIn (record { low = a.low; high = b.high; rise = a.rise; fall = b.fall }) k z
between_ends a b k x y z at_x at_y below above = let l = at_x.low in let h = at_y.high in record { low = omega (arith, ints, l, below); high = omega (arith, ints, h, above) }

pub between_numbers : (p q : Option Range) (a b : Range) (k : ℕ) (x y z : ℤ) → p ≡ Some a → q ≡ Some b → ((r : Range) × (p ≡ Some r) × IsIn r k x) → ((r : Range) × (q ≡ Some r) × IsIn r k y) → x ≤ℤ z → z ≤ℤ y
    → (s : Range) × (Some (record { low = a.low; high = b.high; rise = a.rise; fall = b.fall }) ≡ Some s) × IsIn s k z
between_numbers p q a b k x y z is_a is_b left right below above =
    let same_a : left.0 ≡ a = cc (left.1, is_a) in
    let same_b : right.0 ≡ b = cc (right.1, is_b) in
    (record { low = a.low; high = b.high; rise = a.rise; fall = b.fall }, refl, between_ends a b k x y z (subst (λ r. IsIn r k x) same_a left.2) (subst (λ r. IsIn r k y) same_b right.2) below above)
