-- Lists, simple commands, choices and loops: what they lead to, over the tasks of a run.
use Rattle.ctd_program.specs.Tree
use Rattle.ctd_traps.proofs.Common.{Act, At, Before, BeginsBy, Bindings, Bool, CommandLeads, CommandList, CommandTree, Effect, Event, Events, Fault, GoesOn, Guard, GuardTree, Happens, IsOfValue, IsSimple, Leads, Leaves, Moment}
use Rattle.ctd_traps.proofs.Common.{List, LoopLeads, Option, Place, Safe, Separator, Splits, Task, TestData, TestTree, TurnLeads, VarTree, [], answer, answers, ap, append_assoc, arith, at_once, begins, by_step}
use Rattle.ctd_traps.proofs.Common.{command, command_begins, command_finds, command_goes_on, done, fails, false, faulty, finds, guard_of, if_answers, if◌then◌else◌, is_assert, is_eof, is_int, is_newline, is_regex, is_set}
use Rattle.ctd_traps.proofs.Common.{is_space, is_string, is_unset, le_refl, le_trans, loop_of, perform, place_of, proceed, refl, rejected, separator_before, simple, site_of, start, subst, suc, sym}
use Rattle.ctd_traps.proofs.Common.{take_turn, task_fails, tasks, tasks_before_turn, true, turn, turn_answers, turn_finds, turn_tasks, zero, ℕ, ⊤, ◌++◌, ◌∙◌, ◌∷◌, ◌≡◌, ◌≤◌}
use Rattle.ctd_command.specs.State.{State}
use Rattle.ctd_check.specs.Loops.{Loop}
use Rattle.ctd_traps.specs.calls.Events.{goes_on}
use Rattle.ctd_traps.specs.declared.joined.Moment.TheVariants as moments

-- no step is left
pub safe_without_steps : (d : TestData) (events : Events) (ts : List Task) (s : State) → Safe d events 0 ts s
safe_without_steps d events ts s m task rest u place event comes happens = elim comes [ ]

-- nothing is to be done
pub safe_at_end : (d : TestData) (events : Events) (n : ℕ) (s : State) → Safe d events n [] s
safe_at_end d events n s m task rest u place event comes happens = elim comes [ ]

-- a task is safe where all that happens there is one of the events, and what it leaves is safe
safe_task : (d : TestData) (events : Events) (n : ℕ) (task : Task) (ts : List Task) (s : State) → ((place : Place) (event : Event) → Happens d task s place event → events place event) →
    ((more : List Task) (t : State) → perform task d s ≡ done more t → Safe d events n (more ++ ts) t) → Safe d events (suc n) (task ∷ ts) s
safe_task d events n task ts s here next m other rest u place event (at_once) happens = here place event happens
safe_task d events n task ts s here next m other rest u place event (by_step {more} {t} is comes) happens = next more t is m other rest u place event comes happens

pub none_leads : (d : TestData) (events : Events) (before : Before) → Leads d events before Tree.done before
none_leads d events before ts n s here next = next n s (le_refl n) here

pub list_leads : (d : TestData) (events : Events) (before between after : Before) (c : CommandTree) (rest : CommandList) → CommandLeads d events before c between → Leads d events between rest after → Leads d events before (Tree.then c rest) after
list_leads d events before between after c rest first others ts n s here next =
    first (tasks rest ++ ts) n s here (λ m t less middle. others ts m t middle (λ l u fewer end. next l u (le_trans fewer less) end))

pub weaker_leads : (d : TestData) (events : Events) (P Q R : Before) (cs : CommandList) → ((m : ℕ) (t : State) → Q m t → R m t) → Leads d events P cs Q → Leads d events P cs R
weaker_leads d events P Q R cs more leads ts n s here next = leads ts n s here (λ m t less end. next m t less (more m t end))

-- a simple command leaves no tasks
act_is : (c : CommandTree) (m : Act ⊤) → IsSimple c m → (command c).1 ≡ simple m
act_is c m is_space = refl
act_is c m is_newline = refl
act_is c m is_eof = refl
act_is c m is_int = refl
act_is c m is_string = refl
act_is c m is_regex = refl
act_is c m is_assert = refl
act_is c m is_set = refl
act_is c m is_unset = refl

-- what an act gives for which tasks are left
abbrev leaving : {A : Type 0} → (A → List Task) → Effect A → Effect (List Task)
leaving f a = proceed a (λ x t. done (f x) t)

fault_is_event : {A : Type 0} (events : Events) (place : Place) (after : A → State → Type 0) (f : A → List Task) (a : Effect A) (fault : Fault) (consumed : ℕ) → Leaves events place after a → IsOfValue fault → leaving f a ≡ faulty fault consumed → events place (fails fault)
fault_is_event events place after f (done x t) fault consumed leaves of_value is = absurd (cc)
fault_is_event events place after f (rejected reason c) fault consumed leaves of_value is = absurd (cc)
fault_is_event events place after f (faulty other c) fault consumed leaves of_value is =
    let same : other ≡ fault = cc in subst (λ x. events place (fails x)) same (leaves (subst IsOfValue (sym same) of_value))

-- an act that was done, with the tasks that it left
record WasDone {A : Type 0} (f : A → List Task) (after : A → State → Type 0) (more : List Task) (t : State) : Type 0 where
  answer : A
  tasks : f answer ≡ more
  holds : after answer t

was_done : {A : Type 0} (events : Events) (place : Place) (after : A → State → Type 0) (f : A → List Task) (a : Effect A) (more : List Task) (t : State) → Leaves events place after a → leaving f a ≡ done more t → WasDone f after more t
was_done events place after f (done x u) more t leaves is = let same : u ≡ t = cc in record { answer = x; tasks = cc; holds = subst (after x) same leaves }
was_done events place after f (rejected reason c) more t leaves is = absurd (cc)
was_done events place after f (faulty other c) more t leaves is = absurd (cc)

-- what happens at a command besides its answers
same_place : (a b : Place) → At a ≡ At b → a ≡ b
same_place a b is = cc

abbrev no_tasks : ⊤ → List Task
no_tasks x = []

-- all that happens at a task: it begins, it has answers, or it fails
all_are_events : {A : Type 0} (d : TestData) (events : Events) (task : Task) (at : Place) (s : State) (after : A → State → Type 0) (f : A → List Task) (a : Effect A) → site_of task ≡ At at → perform task d s ≡ leaving f a → Leaves events at after a →
    ((place : Place) → Happens d task s place begins → events place begins) → ((place : Place) (moment : Moment) (h : Bindings) → Happens d task s place (finds moment h) → events place (finds moment h)) → ((place : Place) → Happens d task s place goes_on → events place goes_on) → ((place : Place) (b : Bool) → Happens d task s place (answers b) → events place (answers b)) → (place : Place) (event : Event) → Happens d task s place event → events place event
all_are_events d events task at s after f a site act leaves begun found gone answered place begins happens = begun place happens
all_are_events d events task at s after f a site act leaves begun found gone answered place (finds moment h) happens = found place moment h happens
all_are_events d events task at s after f a site act leaves begun found gone answered place goes_on happens = gone place happens
all_are_events d events task at s after f a site act leaves begun found gone answered place (answers b) happens = answered place b happens
all_are_events d events task at s after f a site act leaves begun found gone answered place (fails fault) (task_fails {consumed} other of_value is) =
    subst (λ p. events p (fails fault)) (same_place at place (sym site ∙ other)) (fault_is_event events at after f a fault consumed leaves of_value (sym act ∙ is))

begun_at : (d : TestData) (events : Events) (c : CommandTree) (s : State) → BeginsBy events (place_of c) s → (place : Place) → Happens d (start c) s place begins → events place begins
begun_at d events c s note place (command_begins) = note.begun

found_at : (d : TestData) (events : Events) (c : CommandTree) (s : State) → BeginsBy events (place_of c) s → (place : Place) (moment : Moment) (h : Bindings) → Happens d (start c) s place (finds moment h) → events place (finds moment h)
found_at d events c s note place moment h (command_finds) = note.found

gone_at : (d : TestData) (events : Events) (c : CommandTree) (s : State) → ((more : List Task) (t : State) → perform (start c) d s ≡ done more t → events (place_of c) goes_on) → (place : Place) → Happens d (start c) s place goes_on → events place goes_on
gone_at d events c s note place (command_goes_on {more} {t} is) = note more t is

-- a simple command is safe if it begins, goes on and answers by events, and what is to be done then is safe
pub simple_is_safe : (d : TestData) (events : Events) (after : Before) (c : CommandTree) (m : Act ⊤) (ts : List Task) (n : ℕ) (s : State) → IsSimple c m → BeginsBy events (place_of c) s →
    ((t : State) → after n t → events (place_of c) goes_on) →
    ((place : Place) (b : Bool) → Happens d (start c) s place (answers b) → events place (answers b)) →
    Leaves events (place_of c) (λ _ t. after n t) (m d s) → GoesOn d events (suc n) after ts → Safe d events (suc n) (start c ∷ ts) s
simple_is_safe d events after c m ts n s simple begun gone answered leaves next =
    let act : perform (start c) d s ≡ leaving no_tasks (m d s) = ap (λ f. f d s) (act_is c m simple) in
    let was : (more : List Task) (t : State) → perform (start c) d s ≡ done more t → WasDone no_tasks (λ _ u. after n u) more t =
    λ more t is. was_done events (place_of c) (λ _ u. after n u) no_tasks (m d s) more t leaves (sym act ∙ is) in
    safe_task d events n (start c) ts s
    (all_are_events d events (start c) (place_of c) s (λ _ t. after n t) no_tasks (m d s) refl act leaves (begun_at d events c s begun) (found_at d events c s begun)
    (gone_at d events c s (λ more t is. gone t (was more t is).holds)) answered)
    (λ more t is. subst (λ l. Safe d events n (l ++ ts) t) (was more t is).tasks (next n t (omega arith) (was more t is).holds))

-- What a split gives: its answer is one of the events, and what holds then.
abbrev ByAnswer : (State → Type 0) → (State → Type 0) → Bool → State → Type 0
ByAnswer P Q true t = P t
ByAnswer P Q false t = Q t

split_leaves : (events : Events) (place : Place) (P Q : State → Type 0) (a : Effect Bool) → Splits events place P Q a → Leaves events place (ByAnswer P Q) a
split_leaves events place P Q (done true t) splits = splits.holds
split_leaves events place P Q (done false t) splits = splits.holds
split_leaves events place P Q (rejected reason consumed) splits = tt
split_leaves events place P Q (faulty fault consumed) splits = splits

pub answer_is_event : (events : Events) (place : Place) (P Q : State → Type 0) (b : Bool) (t : State) → Splits events place P Q (done b t) → events place (answers b)
answer_is_event events place P Q true t splits = splits.event
answer_is_event events place P Q false t splits = splits.event

-- a run goes on by each answer
answer_goes_on : (events : Events) (place : Place) (P Q : State → Type 0) (b : Bool) (t : State) → ((t : State) → P t → events place goes_on) → ((t : State) → Q t → events place goes_on) → ByAnswer P Q b t → events place goes_on
answer_goes_on events place P Q true t by_true by_false here = by_true t here
answer_goes_on events place P Q false t by_true by_false here = by_false t here

-- IF
if_answered : (d : TestData) (events : Events) (at : Place) (test : TestTree) (then_do else_do : CommandList) (P Q : State → Type 0) (s : State) → Splits events at P Q (answer test d s) →
    (place : Place) (b : Bool) → Happens d (start (Tree.choice at test then_do else_do)) s place (answers b) → events place (answers b)
if_answered d events at test then_do else_do P Q s splits place b (if_answers {t} is) = answer_is_event events at P Q b t (subst (Splits events at P Q) is splits)

abbrev branch : CommandList → CommandList → Bool → List Task
branch then_do else_do b = tasks (if b then then_do else else_do)

branch_is_safe : (d : TestData) (events : Events) (then_do else_do : CommandList) (if_true if_false after : Before) (ts : List Task) (n : ℕ) (b : Bool) (t : State) → Leads d events if_true then_do after → Leads d events if_false else_do after →
    ByAnswer (if_true n) (if_false n) b t → GoesOn d events n after ts → Safe d events n (branch then_do else_do b ++ ts) t
branch_is_safe d events then_do else_do if_true if_false after ts n true t left right here next = left ts n t here next
branch_is_safe d events then_do else_do if_true if_false after ts n false t left right here next = right ts n t here next

pub fewer_go_on : (d : TestData) (events : Events) (n m : ℕ) (after : Before) (ts : List Task) → m ≤ n → GoesOn d events n after ts → GoesOn d events m after ts
fewer_go_on d events n m after ts less next l t fewer here = next l t (le_trans fewer less) here

pub choice_leads : (d : TestData) (events : Events) (place : Place) (test : TestTree) (then_do else_do : CommandList) (before if_true if_false after : Before) →
    ((n : ℕ) (s : State) → before (suc n) s → BeginsBy events place s) → ((n : ℕ) (t : State) → if_true n t → events place goes_on) → ((n : ℕ) (t : State) → if_false n t → events place goes_on) →
    ((n : ℕ) (s : State) → before (suc n) s → Splits events place (if_true n) (if_false n) (answer test d s)) →
    Leads d events if_true then_do after → Leads d events if_false else_do after → CommandLeads d events before (Tree.choice place test then_do else_do) after
choice_leads d events place test then_do else_do before if_true if_false after begun if_gone else_gone split left right ts zero s here next = safe_without_steps d events (start (Tree.choice place test then_do else_do) ∷ ts) s
choice_leads d events place test then_do else_do before if_true if_false after begun if_gone else_gone split left right ts (suc n) s here next =
    let c : CommandTree = Tree.choice place test then_do else_do in
    let P : State → Type 0 = if_true n in
    let Q : State → Type 0 = if_false n in
    let a : Effect Bool = answer test d s in
    let leaves : Leaves events place (ByAnswer P Q) a = split_leaves events place P Q a (split n s here) in
    safe_task d events n (start c) ts s
    (all_are_events d events (start c) place s (ByAnswer P Q) (branch then_do else_do) a refl refl leaves (begun_at d events c s (begun n s here)) (found_at d events c s (begun n s here))
    (gone_at d events c s (λ more t is. let was : WasDone (branch then_do else_do) (ByAnswer P Q) more t = was_done events place (ByAnswer P Q) (branch then_do else_do) a more t leaves is in
    answer_goes_on events place P Q was.answer t (if_gone n) (else_gone n) was.holds)) (if_answered d events place test then_do else_do P Q s (split n s here)))
    (λ more t is. let was : WasDone (branch then_do else_do) (ByAnswer P Q) more t = was_done events place (ByAnswer P Q) (branch then_do else_do) a more t leaves is in
    subst (λ l. Safe d events n (l ++ ts) t) was.tasks (branch_is_safe d events then_do else_do if_true if_false after ts n was.answer t left right was.holds (fewer_go_on d events (suc n) n after ts (omega arith) next)))

-- Turns.
turn_answered : (d : TestData) (events : Events) (loop : Loop) (k : ℕ) (P Q : State → Type 0) (s : State) → Splits events loop.place P Q (take_turn loop k d s) →
    (place : Place) (b : Bool) → Happens d (turn loop k) s place (answers b) → events place (answers b)
turn_answered d events loop k P Q s splits place b (turn_answers {t} is) = answer_is_event events loop.place P Q b t (subst (Splits events loop.place P Q) is splits)

no_begin : (d : TestData) (events : Events) (loop : Loop) (k : ℕ) (s : State) (place : Place) → Happens d (turn loop k) s place begins → events place begins
no_begin d events loop k s place happens = elim happens [ ]

turn_ended : (d : TestData) (events : Events) (loop : Loop) (k : ℕ) (s : State) → ((j : ℕ) → k ≡ suc j → events loop.place (finds moments.TurnEnded s.store)) → (place : Place) (moment : Moment) (h : Bindings) → Happens d (turn loop k) s place (finds moment h) → events place (finds moment h)
turn_ended d events loop k s note place moment h (turn_finds {k = j}) = note j refl

no_going : (d : TestData) (events : Events) (loop : Loop) (k : ℕ) (s : State) (place : Place) → Happens d (turn loop k) s place goes_on → events place goes_on
no_going d events loop k s place happens = elim happens [ ]

abbrev turn_leaves : Loop → ℕ → Bool → List Task
turn_leaves loop k b = if b then turn_tasks loop k else []

-- the tasks of the separator before a turn
separator_tasks : (k : ℕ) (sep : Separator) → tasks (separator_before k sep) ≡ tasks_before_turn k sep
separator_tasks zero sep = refl
separator_tasks (suc k) Tree.nothing = refl
separator_tasks (suc k) (Tree.between c) = refl

in_turn : (loop : Loop) (k : ℕ) (ts : List Task) → tasks (separator_before k loop.between) ++ (tasks loop.body ++ (turn loop (suc k) ∷ ts)) ≡ turn_tasks loop k ++ ts
in_turn loop k ts =
    let sep : List Task = tasks_before_turn k loop.between in
    ap (λ l. l ++ (tasks loop.body ++ (turn loop (suc k) ∷ ts))) (separator_tasks k loop.between)
    ∙ sym (append_assoc sep (tasks loop.body) (turn loop (suc k) ∷ ts))
    ∙ sym (append_assoc (sep ++ tasks loop.body) (turn loop (suc k) ∷ []) ts)

turn_is_safe : (d : TestData) (events : Events) (loop : Loop) (k : ℕ) (head inside within end after : Before) → TurnLeads d events loop k head inside within end after → (n : ℕ) (ts : List Task) → GoesOn d events n end (turn loop (suc k) ∷ ts) → (b : Bool) (t : State) →
    ByAnswer (inside n) (after n) b t → GoesOn d events n after ts → Safe d events n (turn_leaves loop k b ++ ts) t
turn_is_safe d events loop k head inside within end after leads n ts later true t here next =
    subst (λ l. Safe d events n l t) (in_turn loop k ts)
    (leads.separator (tasks loop.body ++ (turn loop (suc k) ∷ ts)) n t here (λ m u less between.
    leads.body (turn loop (suc k) ∷ ts) m u between (fewer_go_on d events n m end (turn loop (suc k) ∷ ts) less later)))
turn_is_safe d events loop k head inside within end after leads n ts later false t here next = next n t (le_refl n) here

-- a turn is safe, if the next one is, for which fewer steps are left
pub turn_leads : (d : TestData) (events : Events) (loop : Loop) (k : ℕ) (head inside within end after : Before) → TurnLeads d events loop k head inside within end after → (n : ℕ) (ts : List Task) (s : State) →
    ((m : ℕ) → suc m ≤ n → GoesOn d events m end (turn loop (suc k) ∷ ts)) → head n s → GoesOn d events n after ts → Safe d events n (turn loop k ∷ ts) s
turn_leads d events loop k head inside within end after leads zero ts s later here next = safe_without_steps d events (turn loop k ∷ ts) s
turn_leads d events loop k head inside within end after leads (suc n) ts s later here next =
    let P : State → Type 0 = inside n in
    let Q : State → Type 0 = after n in
    let a : Effect Bool = take_turn loop k d s in
    let splits : Splits events loop.place P Q a = leads.begin n s here in
    let leaves : Leaves events loop.place (ByAnswer P Q) a = split_leaves events loop.place P Q a splits in
    safe_task d events n (turn loop k) ts s
    (all_are_events d events (turn loop k) loop.place s (ByAnswer P Q) (turn_leaves loop k) a refl refl leaves (no_begin d events loop k s) (turn_ended d events loop k s (λ j is. leads.ended j n s is here)) (no_going d events loop k s) (turn_answered d events loop k P Q s splits))
    (λ more t is. let was : WasDone (turn_leaves loop k) (ByAnswer P Q) more t = was_done events loop.place (ByAnswer P Q) (turn_leaves loop k) a more t leaves is in
    subst (λ l. Safe d events n (l ++ ts) t) was.tasks
    (turn_is_safe d events loop k head inside within end after leads n ts (later n (le_refl (suc n))) was.answer t was.holds (fewer_go_on d events (suc n) n after ts (omega arith) next)))

-- the turns from one on are safe that has so few steps
abbrev TurnsLead : TestData → Events → Loop → (head : ℕ → Before) → (after : Before) → ℕ → Type 0
TurnsLead d events loop head after most = (k n : ℕ) (ts : List Task) (s : State) → n ≤ most → head k n s → GoesOn d events n after ts → Safe d events n (turn loop k ∷ ts) s

turns_lead : (d : TestData) (events : Events) (loop : Loop) (head inside within : ℕ → Before) (after : Before) → LoopLeads d events loop head inside within after → (most : ℕ) → TurnsLead d events loop head after most
turns_lead d events loop head inside within after leads zero k zero ts s less here next = safe_without_steps d events (turn loop k ∷ ts) s
turns_lead d events loop head inside within after leads zero k (suc n) ts s less here next = absurd (omega (arith, less))
turns_lead d events loop head inside within after leads (suc most) k n ts s less here next =
    turn_leads d events loop k (head k) (inside k) (within k) (head (suc k)) after (leads k) n ts s
    (λ m one l u few again. turns_lead d events loop head inside within after leads most (suc k) l ts u (omega (arith, few, one, less)) again (fewer_go_on d events n l after ts (omega (arith, few, one)) next)) here next

pub loop_leads : (d : TestData) (events : Events) (loop : Loop) (head inside within : ℕ → Before) (after : Before) → LoopLeads d events loop head inside within after → (k n : ℕ) (ts : List Task) (s : State) → head k n s → GoesOn d events n after ts → Safe d events n (turn loop k ∷ ts) s
loop_leads d events loop head inside within after leads k n ts s = turns_lead d events loop head inside within after leads n k n ts s (le_refl n)

-- A loop that starts.
pub record StartsSafe (d : TestData) (events : Events) (place : Place) (n : ℕ) (after : Before) (loop : Loop) (t : State) : Type 0 where
  pub gone : events place goes_on
  pub safe : (ts : List Task) → GoesOn d events n after ts → Safe d events n (turn loop 0 ∷ ts) t

abbrev first_turn_of : (Guard → Loop) → Guard → List Task
first_turn_of loop_by g = turn (loop_by g) 0 ∷ []

no_answer : (d : TestData) (events : Events) (at : Place) (of : GuardTree) (counter : Option VarTree) (sep : Separator) (body : CommandList) (s : State) (place : Place) (b : Bool) → Happens d (start (Tree.loop at of counter sep body)) s place (answers b) → events place (answers b)
no_answer d events at of counter sep body s place b happens = elim happens [ ]

pub start_leads : (d : TestData) (events : Events) (place : Place) (of : GuardTree) (counter : Option VarTree) (sep : Separator) (body : CommandList) (before after : Before) →
    ((n : ℕ) (s : State) → before (suc n) s → BeginsBy events place s) →
    ((n : ℕ) (s : State) → before (suc n) s → Leaves events place (λ g t. StartsSafe d events place n after (loop_of place g counter sep body) t) (guard_of of d s)) → CommandLeads d events before (Tree.loop place of counter sep body) after
start_leads d events place of counter sep body before after begun starts ts zero s here next = safe_without_steps d events (start (Tree.loop place of counter sep body) ∷ ts) s
start_leads d events place of counter sep body before after begun starts ts (suc n) s here next =
    let c : CommandTree = Tree.loop place of counter sep body in
    let by : Guard → Loop = λ g. loop_of place g counter sep body in
    let P : Guard → State → Type 0 = λ g t. StartsSafe d events place n after (by g) t in
    let was : (more : List Task) (t : State) → perform (start c) d s ≡ done more t → WasDone (first_turn_of by) P more t = λ more t is. was_done events place P (first_turn_of by) (guard_of of d s) more t (starts n s here) is in
    safe_task d events n (start c) ts s
    (all_are_events d events (start c) place s P (first_turn_of by) (guard_of of d s) refl refl (starts n s here) (begun_at d events c s (begun n s here)) (found_at d events c s (begun n s here)) (gone_at d events c s (λ more t is. (was more t is).holds.gone)) (no_answer d events place of counter sep body s))
    (λ more t is. subst (λ l. Safe d events n (l ++ ts) t) (was more t is).tasks ((was more t is).holds.safe ts (fewer_go_on d events (suc n) n after ts (omega arith) next)))
