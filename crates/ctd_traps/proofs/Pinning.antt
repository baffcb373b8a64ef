-- The state of presets.
use Rattle.ctd_traps.proofs.Common.{AbstractValue, AssignsAlone, AssignsElements, EachStands, List, MayBe, NameStands, NamedValue, PinsStand, PossibleValues, Preset, PresetValue, Value, Variables, []}
use Rattle.ctd_traps.proofs.Common.{ap, arith, assign, at_drop_more, at_key, drop, drop_all, each_push, false, fold, get_or, length, map, nat_tests, pins_alone, pins_of, refl, subst, sym, true}
use Rattle.ctd_traps.proofs.Common.{value_of, with_pin, ℕ, ◌++◌, ◌+◌, ◌<◌, ◌==◌, ◌∙◌, ◌∷◌, ◌≡◌, ◌≢◌, ◌≤◌}

-- a pin is an assignment where nothing is pinned
pin_is : (pins : Variables) (name : List ℕ) (is : List Value) (v : Value) (p : Preset) → name ≡ p.name → is ≡ map value_of p.indices → v ≡ value_of p.value → assign (pins_alone pins) (at_key name is) v ≡ pins_alone (with_pin pins p)
pin_is pins name is v p same_name same_is same_v = λ i. assign (pins_alone pins) (at_key (same_name i) (same_is i)) (same_v i)

pub pin_alone : (nothing entries after : List NamedValue) (possible : PossibleValues) (p : Preset) → p.indices ≡ [] → AssignsAlone nothing entries p.name possible after → ((n : ℕ) → MayBe possible n (value_of p.value)) → PinsStand nothing [] → (pins : Variables) → PinsStand entries pins → PinsStand after (with_pin pins p)
pin_alone nothing entries after possible p none assigns may empty pins stand n few =
    subst (λ h. EachStands after n h) (pin_is pins p.name [] (value_of p.value) p refl (sym (ap (map value_of) none)) refl) (assigns [] n (pins_alone pins) (value_of p.value) empty refl (stand n few) (may n))

element_pin : (entries after : List NamedValue) (possible : PossibleValues) (p : Preset) (is : List PresetValue) → p.indices ≡ is → is ≢ [] → AssignsElements entries p.name possible after → ((n : ℕ) → MayBe possible n (value_of p.value)) → (pins : Variables) → PinsStand entries pins → PinsStand after (with_pin pins p)
element_pin entries after possible p [] same some assigns may pins stand n few = absurd (some refl)
element_pin entries after possible p (i ∷ is) same some assigns may pins stand n few =
    subst (λ h. EachStands after n h) (pin_is pins p.name (value_of i ∷ map value_of is) (value_of p.value) p refl (sym (ap (map value_of) same)) refl) (assigns n (pins_alone pins) (value_of i) (map value_of is) (value_of p.value) (stand n few) (may n))

pub pin_element : (entries after : List NamedValue) (possible : PossibleValues) (p : Preset) → p.indices ≢ [] → AssignsElements entries p.name possible after → ((n : ℕ) → MayBe possible n (value_of p.value)) → (pins : Variables) → PinsStand entries pins → PinsStand after (with_pin pins p)
pin_element entries after possible p some assigns may pins stand n few = element_pin entries after possible p p.indices refl some assigns may pins stand n few

-- presets one after the other
abbrev pub PinLeads : (nothing entries : List NamedValue) (rest whole : List Preset) → Type 0
PinLeads nothing entries rest whole = PinsStand nothing [] → (pins : Variables) × (fold with_pin pins rest ≡ pins_of whole) × PinsStand entries pins

pub pin_leads_on : (nothing before after : List NamedValue) (p : Preset) (rest whole : List Preset) → (PinsStand nothing [] → (pins : Variables) → PinsStand before pins → PinsStand after (with_pin pins p)) → PinLeads nothing before (p ∷ rest) whole → PinLeads nothing after rest whole
pin_leads_on nothing before after p rest whole pin leads empty = let so_far = leads empty in (with_pin so_far.0 p, so_far.1, pin empty so_far.0 so_far.2)

pub all_pinned : (nothing entries : List NamedValue) (whole : List Preset) → PinLeads nothing entries [] whole → PinsStand nothing [] → PinsStand entries (pins_of whole)
all_pinned nothing entries whole leads empty = let so_far = leads empty in subst (λ pins. PinsStand entries pins) so_far.1 so_far.2

pub pin_step : (nothing before slice after : List NamedValue) (ps : List Preset) (i : ℕ) (p : Preset) → slice ≡ before → i < length ps → p ≡ get_or ps i p → (PinsStand nothing [] → (pins : Variables) → PinsStand slice pins → PinsStand after (with_pin pins p)) → PinLeads nothing before (drop i ps) ps
    → PinLeads nothing after (drop (i + 1) ps) ps
pin_step nothing before slice after ps i p lent inside is pin leads =
    pin_leads_on nothing before after p (drop (i + 1) ps) ps (subst (λ b. PinsStand nothing [] → (pins : Variables) → PinsStand b pins → PinsStand after (with_pin pins p)) lent pin)
    (subst (λ l. PinLeads nothing before l ps) (at_drop_more (λ l. l) ps i p inside ∙ ap (λ (q : Preset). q ∷ drop (i + 1) ps) (sym is)) leads)

pub pin_done : (nothing entries : List NamedValue) (ps : List Preset) (i : ℕ) → length ps ≤ i → PinLeads nothing entries (drop i ps) ps → PinsStand nothing [] → PinsStand entries (pins_of ps)
pin_done nothing entries ps i all leads = all_pinned nothing entries ps (subst (λ l. PinLeads nothing entries l ps) (drop_all i ps all) leads)

-- a name without a value
pub nothing_stands : (name : List ℕ) (f : AbstractValue) (n : ℕ) → f.may_lack ≡ true → NameStands name f n (pins_alone [])
nothing_stands name f n lacks = record { alone = lacks; elements = λ i is v has. absurd (cc has) }

pub one_more_name : (xs : List NamedValue) (x : NamedValue) → x.value.may_lack ≡ true → PinsStand xs [] → PinsStand (xs ++ x ∷ []) []
one_more_name xs x lacks stand n few = each_push xs x n (pins_alone []) (stand n few) (nothing_stands x.name x.value n lacks)

-- a list without elements, and one with some
pub no_indices : (indices : List PresetValue) → true ≡ (length indices == 0) → indices ≡ []
no_indices [] is = refl
no_indices (i ∷ indices) is = absurd (grind (arith, nat_tests, is))

pub some_indices : (indices : List PresetValue) → false ≡ (length indices == 0) → indices ≢ []
some_indices [] is none = absurd (cc is)
some_indices (i ∷ indices) is none = absurd (cc none)
