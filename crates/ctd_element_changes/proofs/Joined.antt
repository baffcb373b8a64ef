-- Which facts are so of states.
use Rattle.ctd_element_changes.proofs.Common.{AbstractState, AllStand, Bindings, Describes, Fact, Implies, List, [], get_or, length, subst, sym, ℕ, ◌++◌, ◌+◌, ◌<◌, ◌∷◌, ◌≤◌}
use Rattle.std.proofs.Common.{Err, IfOk, Ok, Result, drop}
use Rattle.std.proofs.lemmas.List.{at_drop_more, drop_all}
use Rattle.ctd_element_changes.specs.calls.Joins.{ImpliesAll, IsPartOf}
use Rattle.ctd_elements.proofs.Bounds.{all_at}
use Rattle.ctd_element_changes.proofs.Assigned.{all_push}

-- where the rest of some facts is so, all are
abbrev pub RestLeads : AbstractState → List Fact → List Fact → Type 0
RestLeads s rest fs = (n : ℕ) (h : Bindings) → Describes s n h → AllStand s.names.now h rest → AllStand s.names.now h fs

pub rest_step : (s : AbstractState) (fs : List Fact) (i : ℕ) (e : Fact) → i < length fs → Implies s (get_or fs i e) → RestLeads s (drop i fs) fs → RestLeads s (drop (i + 1) fs) fs
rest_step s fs i e inside implies leads n h it rest = leads n h it (subst (λ l. AllStand s.names.now h l) (sym (at_drop_more (λ l. l) fs i e inside)) (implies n h it, rest))

pub rest_done : (s : AbstractState) (fs : List Fact) (i : ℕ) → length fs ≤ i → RestLeads s (drop i fs) fs → ImpliesAll s fs
rest_done s fs i all leads n h it = leads n h it (subst (λ l. AllStand s.names.now h l) (sym (drop_all i fs all)) tt)

pub implied_push : (s : AbstractState) (after : List Fact) (f : Fact) → ImpliesAll s after → Implies s f → ImpliesAll s (after ++ f ∷ [])
implied_push s after f all one n h it = all_push s.names.now h after f (all n h it) (one n h it)

pub part_push : (fs after : List Fact) (i : ℕ) (e : Fact) → i < length fs → IsPartOf after fs → IsPartOf (after ++ get_or fs i e ∷ []) fs
part_push fs after i e inside part names h all = all_push names h after (get_or fs i e) (part names h all) (all_at names h fs i e inside all)

pub when_ok : {A E : Type 0} {P Q : A → Type 0} (r : Result A E) → ((x : A) → P x → Q x) → IfOk r P → IfOk r Q
when_ok (Ok x) more holds = more x holds
when_ok (Err e) more holds = tt

pub part_of_part : (fs gs hs : List Fact) → IsPartOf fs gs → IsPartOf gs hs → IsPartOf fs hs
part_of_part fs gs hs one other names h all = one names h (other names h all)
