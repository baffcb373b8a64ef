-- Names that keep their values beside what is known of states.
use Rattle.ctd_traps.proofs.Common.{AbstractState, Before, Bindings, Bool, CommandLeads, CommandList, CommandTree, Context, Effect, Events, Holds, HoldsBeside, Leads, Leaves, List, Place, Splits}
use Rattle.ctd_traps.proofs.Common.{TestData, Unchanged, Variables, done, false, faulty, refl, rejected, true, ℕ, ◌∙◌, ◌≡◌, ◌≤◌}
use Rattle.ctd_command.specs.State.{State}

pub same_names : (S : List ℕ → Type 0) (h : Bindings) → Unchanged S h h
same_names S h name spared = refl

pub then_same : (S : List ℕ → Type 0) (a b c : Bindings) → Unchanged S a b → Unchanged S b c → Unchanged S a c
then_same S a b c first second name spared = second name spared ∙ first name spared

pub fewer_same : (S T : List ℕ → Type 0) (a b : Bindings) → ((name : List ℕ) → T name → S name) → Unchanged S a b → Unchanged T a b
fewer_same S T a b fewer same name spared = same name (fewer name spared)

-- what is known of each effect that is done
pub leaves_more : {A : Type 0} (events : Events) (place : Place) (P Q : A → State → Type 0) (a : Effect A) → ((x : A) (t : State) → a ≡ done x t → P x t → Q x t) → Leaves events place P a → Leaves events place Q a
leaves_more events place P Q (done x t) more leaves = more x t refl leaves
leaves_more events place P Q (rejected reason consumed) more leaves = tt
leaves_more events place P Q (faulty fault consumed) more leaves = leaves

pub splits_more : (events : Events) (place : Place) (P Q R T : State → Type 0) (a : Effect Bool) → ((t : State) → a ≡ done true t → P t → R t) → ((t : State) → a ≡ done false t → Q t → T t) → Splits events place P Q a → Splits events place R T a
splits_more events place P Q R T (done true t) on_true on_false splits = record { event = splits.event; holds = on_true t refl splits.holds }
splits_more events place P Q R T (done false t) on_true on_false splits = record { event = splits.event; holds = on_false t refl splits.holds }
splits_more events place P Q R T (rejected reason consumed) on_true on_false splits = tt
splits_more events place P Q R T (faulty fault consumed) on_true on_false splits = splits

-- a triple that holds beside names with their values at each start
pub framed_leads : (d : TestData) (events : Events) (cs : CommandList) (P Q before after : Before) (S : List ℕ → Type 0) → ((h : Bindings) → Leads d events (λ n s. P n s × Unchanged S h s.store) cs (λ n t. Q n t × Unchanged S h t.store)) →
    ((n : ℕ) (s : State) → before n s → P n s) → ((n m : ℕ) (s t : State) → m ≤ n → before n s → Q m t → Unchanged S s.store t.store → after m t) → Leads d events before cs after
framed_leads d events cs P Q before after S leads first last ts n s here next = leads s.store ts n s (first n s here, same_names S s.store) (λ m t less end. next m t less (last n m s t less here end.0 end.1))

pub framed_command : (d : TestData) (events : Events) (c : CommandTree) (P Q before after : Before) (S : List ℕ → Type 0) → ((h : Bindings) → CommandLeads d events (λ n s. P n s × Unchanged S h s.store) c (λ n t. Q n t × Unchanged S h t.store)) →
    ((n : ℕ) (s : State) → before n s → P n s) → ((n m : ℕ) (s t : State) → m ≤ n → before n s → Q m t → Unchanged S s.store t.store → after m t) → CommandLeads d events before c after
framed_command d events c P Q before after S leads first last ts n s here next = leads s.store ts n s (first n s here, same_names S s.store) (λ m t less end. next m t less (last n m s t less here end.0 end.1))

-- the same beside fewer names
pub beside_leads : (d : TestData) (events : Events) (g : Context) (pins : Variables) (before after : List AbstractState) (cs : CommandList) (S T : List ℕ → Type 0) (h : Bindings) → ((name : List ℕ) → T name → S name) →
    ((k : Bindings) → Leads d events (HoldsBeside g pins before S k) cs (HoldsBeside g pins after S k)) → Leads d events (HoldsBeside g pins before T h) cs (HoldsBeside g pins after T h)
beside_leads d events g pins before after cs S T h fewer leads =
    framed_leads d events cs (Holds g pins before) (Holds g pins after) (HoldsBeside g pins before T h) (HoldsBeside g pins after T h) S leads
    (λ n s here. here.0) (λ n m s t less here end same. (end, then_same T h s.store t.store here.1 (fewer_same S T s.store t.store fewer same)))

pub beside_command : (d : TestData) (events : Events) (g : Context) (pins : Variables) (before after : List AbstractState) (c : CommandTree) (S T : List ℕ → Type 0) (h : Bindings) → ((name : List ℕ) → T name → S name) →
    ((k : Bindings) → CommandLeads d events (HoldsBeside g pins before S k) c (HoldsBeside g pins after S k)) → CommandLeads d events (HoldsBeside g pins before T h) c (HoldsBeside g pins after T h)
beside_command d events g pins before after c S T h fewer leads =
    framed_command d events c (Holds g pins before) (Holds g pins after) (HoldsBeside g pins before T h) (HoldsBeside g pins after T h) S leads
    (λ n s here. here.0) (λ n m s t less here end same. (end, then_same T h s.store t.store here.1 (fewer_same S T s.store t.store fewer same)))
