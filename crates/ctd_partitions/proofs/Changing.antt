-- The state once variables got values, or lost them.
use Rattle.std.proofs.Common.{Err, IfOk, List, None, Ok, Option, Result, Some, [], ap, arith, false, is_some, refl, subst, sym, true, ℕ, ◌++◌, ◌<◌, ◌^◌, ◌∙◌, ◌∷◌, ◌≡◌}
use Rattle.ctd_program.specs.declared.tree.Compare.{Compare}
use Rattle.ctd_store.specs.declared.value.Value.TheVariants as values
use Rattle.std.specs.Borrow.{Bor}
use Rattle.ctd_element_changes.specs.calls.Tests.{Compares, IsHit}
use Rattle.ctd_value.specs.Truth.{value_in_array}
use Rattle.ctd_partitions.specs.calls.Tests.{ComparesState, HitsState}
use Rattle.ctd_store.specs.Store.{Bindings, Key, assign, is_pinned, unset, value_at, values_of}
use Rattle.ctd_store.specs.declared.value.Value.{Value}
use Rattle.ctd_states.specs.declared.assign.Context.{Context}
use Rattle.ctd_states.specs.declared.value.AbstractValue.{AbstractValue}
use Rattle.ctd_states.specs.declared.value.PossibleValues.{PossibleValues}
use Rattle.ctd_states.specs.calls.Changed.{AssignsAlone, AssignsElements, Clears}
use Rattle.ctd_states.specs.calls.States.{EachStands, Tells, at_key, entries_in, name_at, named_values, pins_alone, pins_in, StateIsWithin}
use Rattle.ctd_states.proofs.Assigning.{pinned_value}
use Rattle.ctd_elements.specs.declared.fact.Fact.{Fact}
use Rattle.ctd_elements.specs.declared.fact.AbstractState.{AbstractState}
use Rattle.ctd_elements.specs.declared.limits.Limits.{Limits}
use Rattle.ctd_elements.specs.calls.Blocks.{AllStand}
use Rattle.ctd_elements.specs.calls.States.{Describes}
use Rattle.ctd_elements.specs.calls.Limits.{IsLimited}
use Rattle.ctd_element_changes.specs.declared.element.Target.{Target}
use Rattle.ctd_element_changes.specs.calls.Changes.{AgreeBeside, AreAt, Gets, GetsElement, GivesElement, GivesName, IsIndexFrom, KeepsBeside}
use Rattle.ctd_element_changes.specs.calls.Joins.{ImpliesAll, IsPartOf}
use Rattle.ctd_store.proofs.StoreLaws.{assignment_keeps_other_keys, unset_keeps_other_names}
use Rattle.ctd_partitions.specs.declared.change.Position.{Position}
use Rattle.ctd_partitions.specs.declared.state.State.{State}
use Rattle.ctd_partitions.specs.calls.States.{AssignsAt, AssignsName, ClearsName, IsPinnedBy, IsStateWithin, IsViewOf, StateStands}
use Rattle.ctd_partitions.specs.inner.States.{AssignsFacts, AssignsFactsAt, FactsLead, IsNone, IsTidied}

-- an element of a name whose pins have none
no_pin : (o : Option Value) → ((v : Value) → o ≡ Some v → ⊥) → is_some o ≡ false
no_pin None never = refl
no_pin (Some v) never = absurd (never v refl)

few : 0 < 2 ^ 64
few = omega arith

pub unpinned_element : (g : Context) (name : List ℕ) (pin : AbstractValue) (i : Value) (is : List Value) → Tells (pins_in g) name pin → IsNone pin.elements → IsPinnedBy g name (i ∷ is) false
unpinned_element g name pin i is tells none pins h stand same =
    let key : Key = at_key name (i ∷ is) in
    let there = tells 0 (pins_alone pins) (stand 0 few) in
    ap is_some (pinned_value pins h key same) ∙ no_pin (value_at (pins_alone pins) key) (λ v has. none 0 v (there.elements i is v has))

-- what is looked at describes what the state does
pub viewed : (g : Context) (st : State) (view : AbstractState) (n : ℕ) (h : Bindings) → IsViewOf g st view → StateStands g st n h → Describes view n h
viewed g st view n h is stands = record {
  values = subst (λ q. EachStands (named_values q view.entries.now) n h) (sym is.names) (subst (λ l. EachStands (named_values g.names.now l) n h) (sym is.entries) stands.values);
  facts = subst (λ q. AllStand q h view.facts.now) (sym is.names) (subst (λ l. AllStand g.names.now h l) (sym is.facts) stands.facts);
}

-- facts, and others behind them
pub all_both : (names : List (Bor (List ℕ))) (h : Bindings) (fs others : List Fact) → AllStand names h fs → AllStand names h others → AllStand names h (fs ++ others)
all_both names h [] others front behind = behind
all_both names h (f ∷ fs) others front behind = (front.0, all_both names h fs others front.1 behind)

all_front : (names : List (Bor (List ℕ))) (h : Bindings) (fs others : List Fact) → AllStand names h (fs ++ others) → AllStand names h fs
all_front names h [] others all = tt
all_front names h (f ∷ fs) others all = (all.0, all_front names h fs others all.1)

all_behind : (names : List (Bor (List ℕ))) (h : Bindings) (fs others : List Fact) → AllStand names h (fs ++ others) → AllStand names h others
all_behind names h [] others all = all
all_behind names h (f ∷ fs) others all = all_behind names h fs others all.1

pub part_behind : (fs few others : List Fact) → IsPartOf few others → IsPartOf (fs ++ few) (fs ++ others)
part_behind fs few others part names h all = all_both names h fs few (all_front names h fs others all) (part names h (all_behind names h fs others all))

-- an assignment changes what its name has, and nothing else
assigned_beside : (h : Bindings) (name : List ℕ) (is : List Value) (v : Value) → AgreeBeside name h (assign h (at_key name is) v)
assigned_beside h name is v key apart = assignment_keeps_other_keys h (at_key name is) key v (λ same. apart (ap (λ (k : Key). k.name) same))

pub name_facts : (g : Context) (st : State) (view : AbstractState) (name : List ℕ) (limits : Limits) (staying changed : List Fact) → IsViewOf g st view → KeepsBeside view.names.now view.facts.now name staying → GivesName view name limits changed → IsPinnedBy g name [] false → AssignsFacts g st name limits (staying ++ changed)
name_facts g st view name limits staying changed is_view keeps gives free pins n h v stand same stands limited =
    let it = viewed g st view n h is_view stands in
    let after = assign h (at_key name []) v in
    let gets : Gets view.names.now h name limits v = record { free = free pins h stand same; is = subst (λ q. IsLimited q h limits v) (sym is_view.names) limited } in
    subst (λ q. AllStand q after (staying ++ changed)) is_view.names (all_both view.names.now after staying changed (keeps h after (assigned_beside h name [] v) it.facts) (gives n h v it gets))

pub element_facts : (g : Context) (st : State) (view : AbstractState) (name : List ℕ) (target : Target) (at : Position) (limits : Limits) (staying changed : List Fact) → IsViewOf g st view → name_at g.names.now target.array ≡ name → target.cell ≡ at.cell → target.source ≡ at.source
    → (target.is_free ≡ true → (i : Value) (is : List Value) → IsPinnedBy g name (i ∷ is) false) → KeepsBeside view.names.now view.facts.now name staying → GivesElement view target limits changed → AssignsFactsAt g st name at limits (staying ++ changed)
element_facts g st view name target at limits staying changed is_view named cell source free keeps gives pins n h i is v stand same stands are_at limited =
    let it = viewed g st view n h is_view stands in
    let after = assign h (at_key name (i ∷ is)) v in
    let array : name_at view.names.now target.array ≡ name = subst (λ q. name_at q target.array ≡ name) (sym is_view.names) named in
    let gets : GetsElement view.names.now h target limits (i ∷ is) v = record {
      at = subst (λ q. AreAt q h target.cell (i ∷ is)) (sym is_view.names) (subst (λ o. AreAt g.names.now h o (i ∷ is)) (sym cell) are_at.cell);
      from = subst (λ q. IsIndexFrom q h target.source (i ∷ is)) (sym is_view.names) (subst (λ o. IsIndexFrom g.names.now h o (i ∷ is)) (sym source) are_at.source);
      unpinned = λ yes. subst (λ m. is_pinned h (at_key m (i ∷ is)) ≡ false) (sym array) (free yes i is pins h stand same);
      limited = subst (λ q. IsLimited q h limits v) (sym is_view.names) limited;
    } in
    let all : AllStand view.names.now (assign h (at_key (name_at view.names.now target.array) (i ∷ is)) v) changed = gives n h (i ∷ is) v it gets in
    let given : AllStand view.names.now after changed = subst (λ m. AllStand view.names.now (assign h (at_key m (i ∷ is)) v) changed) array all in
    subst (λ q. AllStand q after (staying ++ changed)) is_view.names (all_both view.names.now after staying changed (keeps h after (assigned_beside h name (i ∷ is) v) it.facts) given)

pub name_cleared : (g : Context) (st after : State) (name : List ℕ) → Clears (pins_in g) (entries_in g st.entries.items) name (entries_in g after.entries.items) → KeepsBeside g.names.now st.facts.items name after.facts.items → ClearsName g st name after
name_cleared g st after name values keeps pins n h stand same stands = record { values = values pins n h stand same stands.values; facts = keeps h (unset h name) (unset_keeps_other_names h name) stands.facts }

pub when_ok : {A E : Type 0} {P Q : A → Type 0} (r : Result A E) → ((x : A) → P x → Q x) → IfOk r P → IfOk r Q
when_ok (Ok x) more holds = more x holds
when_ok (Err e) more holds = tt

pub name_tidied : (g : Context) (st after : State) (name : List ℕ) (possible : PossibleValues) (limits : Limits) (entries : List AbstractValue) (fs : List Fact) → AssignsAlone (pins_in g) (entries_in g st.entries.items) name possible (entries_in g entries) → AssignsFacts g st name limits fs → IsTidied entries fs after → AssignsName g st name possible limits after
name_tidied g st after name possible limits entries fs values facts is pins n h v stand same stands may limited = record {
  values = subst (λ l. EachStands (entries_in g l) n (assign h (at_key name []) v)) (sym is.0) (values pins n h v stand same stands.values may);
  facts = is.1 g.names.now (assign h (at_key name []) v) (facts pins n h v stand same stands limited);
}

pub element_tidied : (g : Context) (st after : State) (name : List ℕ) (at : Position) (possible : PossibleValues) (limits : Limits) (entries : List AbstractValue) (fs : List Fact) → AssignsElements (entries_in g st.entries.items) name possible (entries_in g entries) → AssignsFactsAt g st name at limits fs → IsTidied entries fs after → AssignsAt g st name at possible limits after
element_tidied g st after name at possible limits entries fs values facts is pins n h i more v stand same stands are_at may limited = record {
  values = subst (λ l. EachStands (entries_in g l) n (assign h (at_key name (i ∷ more)) v)) (sym is.0) (values n h i more v stands.values may);
  facts = is.1 g.names.now (assign h (at_key name (i ∷ more)) v) (facts pins n h i more v stand same stands are_at limited);
}

-- a state with more facts, which are so
more_stands : (g : Context) (st after : State) (fs : List Fact) (n : ℕ) (h : Bindings) → IsTidied st.entries.items (st.facts.items ++ fs) after → StateStands g st n h → AllStand g.names.now h fs → StateStands g after n h
more_stands g st after fs n h is stands more = record {
  values = subst (λ l. EachStands (entries_in g l) n h) (sym is.0) stands.values;
  facts = is.1 g.names.now h (all_both g.names.now h st.facts.items fs stands.facts more);
}

-- where two numbers compare so
pub compared_tidied : (g : Context) (st after : State) (view : AbstractState) (by : Compare) (a b : Limits) (fs : List Fact) → IsViewOf g st view → Compares view by a b fs → IsTidied st.entries.items (st.facts.items ++ fs) after → ComparesState g st by a b after
compared_tidied g st after view by a b fs is_view compares is n h x y stands is_x is_y relates =
    more_stands g st after fs n h is stands (subst (λ q. AllStand q h fs) is_view.names
    (compares n h x y (viewed g st view n h is_view stands) (subst (λ q. IsLimited q h a (values.Int x)) (sym is_view.names) is_x) (subst (λ q. IsLimited q h b (values.Int y)) (sym is_view.names) is_y) relates))

-- where a value is one of an array
pub hit_tidied : (g : Context) (st after : State) (view : AbstractState) (limits : Limits) (array : ℕ) (fs : List Fact) → IsViewOf g st view → IsHit view limits array fs → IsTidied st.entries.items (st.facts.items ++ fs) after → HitsState g st limits array after
hit_tidied g st after view limits array fs is_view hits is n h v stands limited found =
    more_stands g st after fs n h is stands (subst (λ q. AllStand q h fs) is_view.names
    (hits n h v (viewed g st view n h is_view stands) (subst (λ q. IsLimited q h limits v) (sym is_view.names) limited) (subst (λ q. value_in_array (Ok v) (values_of h (name_at q array)) ≡ Ok true) (sym is_view.names) found)))

-- facts that follow from a state
pub lead_viewed : (g : Context) (st : State) (view : AbstractState) (fs : List Fact) → IsViewOf g st view → ImpliesAll view fs → FactsLead g st fs
lead_viewed g st view fs is_view implied n h stands = subst (λ q. AllStand q h fs) is_view.names (implied n h (viewed g st view n h is_view stands))

pub lead_both : (g : Context) (st : State) (fs others : List Fact) → FactsLead g st fs → FactsLead g st others → FactsLead g st (fs ++ others)
lead_both g st fs others front behind n h stands = all_both g.names.now h fs others (front n h stands) (behind n h stands)

-- the same state in other words
pub words_tidied : (g : Context) (st after : State) (view : AbstractState) (entries : List AbstractValue) (staying changed : List Fact) → IsViewOf g st view → entries ≡ st.entries.items → staying ≡ [] → ImpliesAll view changed → IsTidied entries (staying ++ changed) after → IsStateWithin g st after
words_tidied g st after view entries staying changed is_view same none implied is n h stands = record {
  values = subst (λ l. EachStands (entries_in g l) n h) (sym (is.0 ∙ same)) stands.values;
  facts = is.1 g.names.now h (subst (λ l. AllStand g.names.now h (l ++ changed)) (sym none) (lead_viewed g st view changed is_view implied n h stands));
}

pub compared_within : (g : Context) (st same after : State) (by : Compare) (a b : Limits) → ComparesState g st by a b same → IsStateWithin g same after → ComparesState g st by a b after
compared_within g st same after by a b compares within n h x y stands is_x is_y relates = within n h (compares n h x y stands is_x is_y relates)

-- what one of two states that are joined describes
pub joined_tidied : (g : Context) (st all : State) (old entries : List AbstractValue) (fs : List Fact) → old ≡ st.entries.items → ((names : List (Bor (List ℕ))) → StateIsWithin (named_values names old) (named_values names entries)) → FactsLead g st fs → IsTidied entries fs all → IsStateWithin g st all
joined_tidied g st all old entries fs same within lead is n h stands = record {
  values = subst (λ l. EachStands (entries_in g l) n h) (sym is.0) (within g.names.now n h (subst (λ l. EachStands (entries_in g l) n h) (sym same) stands.values));
  facts = is.1 g.names.now h (lead n h stands);
}
