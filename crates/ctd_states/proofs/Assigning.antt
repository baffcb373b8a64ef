-- The state once variables got values, or lost them.
use Rattle.ctd_states.proofs.Common.{AbstractValue, AreWithin, AssignsAlone, AssignsElements, Bindings, Bool, Clears, Decides, EachStands, Key, List, MayBe, MayHave, NameStands, NamedValue, None}
use Rattle.ctd_states.proofs.Common.{Option, PossibleValues, Some, Tells, Value, Variables, [], ap, assign, assigned_key_has_its_value, assignment_keeps_other_keys, at_key, exact_lists, false}
use Rattle.ctd_states.proofs.Common.{is_pinned, is_some, map, not, pinned_key_stays, pins_alone, refl, same_values, subst, sym, tells_apart, true, unset, unset_keeps_other_names}
use Rattle.ctd_states.proofs.Common.{unset_key_has_its_pin, value_at, value_under, values_equiv, with_value, ℕ, ◌<◌, ◌^◌, ◌∙◌, ◌∷◌, ◌≡◌, ◌≢◌}
use Rattle.ctd_states.proofs.Standing.{each_changed, each_few, name_same}

-- keys of different names, or at different indices
other_names : (name other : List ℕ) (is js : List Value) → other ≢ name → at_key other is ≢ at_key name js
other_names name other is js apart same = apart (ap (λ k. k.name) same)

other_indices : (name : List ℕ) (is js : List Value) → is ≢ js → at_key name is ≢ at_key name js
other_indices name is js apart same = apart (ap (λ k. k.indices) same)

more_indices : (i : Value) (is : List Value) → (i ∷ is) ≢ []
more_indices i is same = absurd (cc same)

no_indices : (i : Value) (is : List Value) → [] ≢ (i ∷ is)
no_indices i is same = absurd (cc same)

abbrev others_stay : (h : Bindings) (name : List ℕ) (js : List Value) (v : Value) (other : List ℕ) (is : List Value) → other ≢ name → value_at (assign h (at_key name js) v) (at_key other is) ≡ value_at h (at_key other is)
others_stay h name js v other is apart = assignment_keeps_other_keys h (at_key name js) (at_key other is) v (other_names name other is js apart)

-- what describes the pins describes the pins of a history
pub pinned_value : (pins : Variables) (h : Bindings) (key : Key) → h.pins ≡ pins → value_under key h.pins ≡ value_at (pins_alone pins) key
pinned_value pins h key same = ap (λ p. value_under key p) same

-- a name that is surely pinned, or surely not
pub sure_value : (f : AbstractValue) (n : ℕ) (v : Option Value) → f.may_lack ≡ false → MayHave f n v → is_some v ≡ true
sure_value f n None sure may = absurd (cc (sure, may))
sure_value f n (Some v) sure may = refl

pub free_value : (f : AbstractValue) (n : ℕ) (v : Option Value) → ((k : ℕ) (w : Value) → MayBe f.alone k w → ⊥) → MayHave f n v → is_some v ≡ false
free_value f n None none may = refl
free_value f n (Some v) none may = absurd (none n v may)

pub not_true : (b : Bool) → not b ≡ true → b ≡ false
not_true true is = absurd (cc is)
not_true false is = refl

pub assign_pinned : (pinned entries : List NamedValue) (name : List ℕ) (possible : PossibleValues) (pin : AbstractValue) → Tells pinned name pin → pin.may_lack ≡ false → AssignsAlone pinned entries name possible entries
assign_pinned pinned entries name possible pin tells sure pins n h v stand same each may =
    let key = at_key name [] in
    let there : is_some (value_at (pins_alone pins) key) ≡ true = sure_value pin n (value_at (pins_alone pins) key) sure (tells n (pins_alone pins) (stand n (each_few entries n h each))).alone in
    let is : is_pinned h key ≡ true = ap is_some (pinned_value pins h key same) ∙ there in
    subst (λ g. EachStands entries n g) (sym (pinned_key_stays h key v is)) each

pub assign_free : (pinned entries : List NamedValue) (name : List ℕ) (possible : PossibleValues) (pin value new : AbstractValue) → Tells pinned name pin → ((k : ℕ) (w : Value) → MayBe pin.alone k w → ⊥) → Tells entries name value → new.alone ≡ possible → new.elements ≡ value.elements
    → AssignsAlone pinned entries name possible (map (with_value name new) entries)
assign_free pinned entries name possible pin value new pin_tells none tells alone elements pins n h v stand same each may =
    let key = at_key name [] in
    let there : is_some (value_at (pins_alone pins) key) ≡ false = free_value pin n (value_at (pins_alone pins) key) none (pin_tells n (pins_alone pins) (stand n (each_few entries n h each))).alone in
    let free : is_pinned h key ≡ false = ap is_some (pinned_value pins h key same) ∙ there in
    let g : Bindings = assign h key v in
    let has : value_at g key ≡ Some v = assigned_key_has_its_value h key v free in
    let old : NameStands name value n h = tells n h each in
    let here : NameStands name new n g = record {
      alone = subst (λ o. MayHave new n o) (sym has) (subst (λ k. MayBe k n v) (sym alone) may);
      elements = λ i is w is_there. subst (λ k. MayBe k n w) (sym elements) (old.elements i is w (sym (assignment_keeps_other_keys h key (at_key name (i ∷ is)) v (other_indices name (i ∷ is) [] (more_indices i is))) ∙ is_there));
    } in
    each_changed name new entries n h g here (λ other is apart. others_stay h name [] v other is apart) each

-- whether two index lists are one
decides : (a b : List Value) → Decides (same_values a b) (a ≡ b)
decides a b = (tells_apart exact_lists a b, λ e. subst (λ x. same_values a x ≡ true) e (values_equiv.refl a))

-- an element
element_after : (name : List ℕ) (value new : AbstractValue) (possible : PossibleValues) (n : ℕ) (h : Bindings) (i : Value) (is : List Value) (v : Value) (j : Value) (js : List Value) (w : Value) (b c : Bool) → n < 2 ^ 64 → same_values (j ∷ js) (i ∷ is) ≡ b → is_pinned h (at_key name (i ∷ is)) ≡ c
    → NameStands name value n h → AreWithin value.elements new.elements → AreWithin possible new.elements → MayBe possible n v → value_at (assign h (at_key name (i ∷ is)) v) (at_key name (j ∷ js)) ≡ Some w → MayBe new.elements n w
element_after name value new possible n h i is v j js w true true few same pinned old olds news may has =
    olds n w few (old.elements j js w (ap (λ g. value_at g (at_key name (j ∷ js))) (sym (pinned_key_stays h (at_key name (i ∷ is)) v pinned)) ∙ has))
element_after name value new possible n h i is v j js w true false few same free old olds news may has =
    let one : (j ∷ js) ≡ (i ∷ is) = (decides (j ∷ js) (i ∷ is)).0 same in
    let got : Some v ≡ Some w = sym (assigned_key_has_its_value h (at_key name (i ∷ is)) v free) ∙ ap (λ l. value_at (assign h (at_key name (i ∷ is)) v) (at_key name l)) (sym one) ∙ has in
    let it : v ≡ w = cc got in
    subst (λ x. MayBe new.elements n x) it (news n v few may)
element_after name value new possible n h i is v j js w false c few different pinned old olds news may has =
    let apart : (j ∷ js) ≢ (i ∷ is) = λ one. (let yes : same_values (j ∷ js) (i ∷ is) ≡ true = (decides (j ∷ js) (i ∷ is)).1 one in absurd (cc (yes, different))) in
    olds n w few (old.elements j js w (sym (assignment_keeps_other_keys h (at_key name (i ∷ is)) (at_key name (j ∷ js)) v (other_indices name (j ∷ js) (i ∷ is) apart)) ∙ has))

kept_alone : (old new : AbstractValue) (n : ℕ) (v : Option Value) → new.may_lack ≡ old.may_lack → new.alone ≡ old.alone → MayHave old n v → MayHave new n v
kept_alone old new n None lacks alone may = lacks ∙ may
kept_alone old new n (Some v) lacks alone may = subst (λ k. MayBe k n v) (sym alone) may

pub assign_element : (entries : List NamedValue) (name : List ℕ) (possible : PossibleValues) (value new : AbstractValue) → Tells entries name value → new.may_lack ≡ value.may_lack → new.alone ≡ value.alone → AreWithin value.elements new.elements → AreWithin possible new.elements
    → AssignsElements entries name possible (map (with_value name new) entries)
assign_element entries name possible value new tells lacks alone olds news n h i is v each may =
    let key = at_key name (i ∷ is) in
    let g : Bindings = assign h key v in
    let old : NameStands name value n h = tells n h each in
    let stays : value_at g (at_key name []) ≡ value_at h (at_key name []) = assignment_keeps_other_keys h key (at_key name []) v (other_indices name [] (i ∷ is) (no_indices i is)) in
    let here : NameStands name new n g = record {
      alone = subst (λ o. MayHave new n o) (sym stays) (kept_alone value new n (value_at h (at_key name [])) lacks alone old.alone);
      elements = λ j js w has. element_after name value new possible n h i is v j js w (same_values (j ∷ js) (i ∷ is)) (is_pinned h key) (each_few entries n h each) refl refl old olds news may has;
    } in
    each_changed name new entries n h g here (λ other is' apart. others_stay h name (i ∷ is) v other is' apart) each

-- UNSET
pub clear_name : (pinned entries : List NamedValue) (name : List ℕ) (value : AbstractValue) → Tells pinned name value → Clears pinned entries name (map (with_value name value) entries)
clear_name pinned entries name value tells pins n h stand same each =
    let of_pin : NameStands name value n (pins_alone pins) = tells n (pins_alone pins) (stand n (each_few entries n h each)) in
    let is_pin : (is : List Value) → value_at (unset h name) (at_key name is) ≡ value_at (pins_alone pins) (at_key name is) = λ is. unset_key_has_its_pin h (at_key name is) ∙ pinned_value pins h (at_key name is) same in
    let here : NameStands name value n (unset h name) = name_same name value n (pins_alone pins) (unset h name) is_pin of_pin in
    each_changed name value entries n h (unset h name) here (λ other is apart. unset_keeps_other_names h name (at_key other is) apart) each
