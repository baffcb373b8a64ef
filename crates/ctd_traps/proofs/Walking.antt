-- A walk over commands.
use Rattle.ctd_traps.proofs.Common.{AbstractState, Act, ActsKeep, ActsTo, AreNoted, Asks, AssertFailed, BegunIn, Bindings, Bool, CommandList, CommandTree, Context, Does, Effect, Events, Faults, Fits, Happens}
use Rattle.ctd_traps.proofs.Common.{Holds, HoldsBeside, IsPart, IsPlain, IsSimple, Leaves, List, Noted, NotedIn, OneStands, PartitionIsWithin, Place, Separator, SeparatorKeeps, Spares, SparesBetween}
use Rattle.ctd_traps.proofs.Common.{SparesEach, Splits, StaysIn, StepKeeps, TestData, TestTree, Unchanged, Variables, WalkKeeps, answer, answers, arith, assert, assert_answers, done, false, faulty}
use Rattle.ctd_traps.proofs.Common.{if_answers, if◌then◌else◌, is_assert, noted_in, place_of, proceed, refl, reject, rejected, return, separator_before, start, subst, suc, true, zero, ℕ, ⊤, ◌<◌, ◌^◌, ◌∷◌, ◌≡◌}
use Rattle.ctd_program.specs.Tree
use Rattle.ctd_command.specs.State.{State}
use Rattle.ctd_traps.specs.calls.Events.{goes_on}
use Rattle.ctd_traps.proofs.Framing.{beside_command, beside_leads, leaves_more, splits_more, then_same}
use Rattle.ctd_traps.proofs.Holding.{answer_fits, answer_same, holds_of, one_fewer, splits_noted, tells_holds}
use Rattle.ctd_traps.proofs.Leading.{answer_is_event, choice_leads, list_leads, none_leads, safe_without_steps, simple_is_safe, weaker_leads}
use Rattle.ctd_traps.proofs.Noting.{begins_by, begun_more, faults_more, noted_more, part_trans}
use Rattle.ctd_traps.proofs.Sparing.{simple_spares}

-- a plain command has no test
no_answer : (d : TestData) (c : CommandTree) (m : Act ⊤) (s : State) (place : Place) (b : Bool) → IsPlain c → IsSimple c m → Happens d (start c) s place (answers b) → ⊥
no_answer d c m s place b plain simple (assert_answers is) = plain
no_answer d c m s place b plain simple (if_answers is) = plain

-- a plain command, of which all is noted
fits_leaves : (g : Context) (noted : Noted) (place : Place) (f : Faults) (pins : Variables) (after : List AbstractState) (n : ℕ) (a : Effect ⊤) → n < 2 ^ 64 → AreNoted noted place f → Fits f (λ _ t. StaysIn g pins after n t) a → Leaves (noted_in g noted) place (λ _ t. Holds g pins after n t) a
fits_leaves g noted place f pins after n (done x t) less faults fits = holds_of g pins after n t less fits
fits_leaves g noted place f pins after n (rejected reason consumed) less faults fits = tt
fits_leaves g noted place f pins after n (faulty fault consumed) less faults fits = λ of_value. faults g fault of_value fits

pub acts_step : (g : Context) (states after : List AbstractState) (f : Faults) (c : CommandTree) (noted : Noted) → ActsKeep g states after f c → BegunIn g noted (place_of c) states → NotedIn g noted (place_of c) goes_on after → AreNoted noted (place_of c) f → StepKeeps g states after noted c
acts_step g states after f c noted keeps begun gone faults pins d all h stand part ts zero s here next = safe_without_steps d (noted_in g all) (start c ∷ ts) s
acts_step g states after f c noted keeps begun gone faults pins d all h stand part ts (suc n) s here next =
    let steps = here.0.steps in
    let less : n < 2 ^ 64 = omega (arith, steps) in
    let one : OneStands g states n s.store = one_fewer g states n s.store here.0.one in
    let does : Does c (ActsTo g after f n s.store) = keeps n s.store one in
    let S : List ℕ → Type 0 = λ name. Spares name c in
    simple_is_safe d (noted_in g all) (HoldsBeside g pins after S h) c does.act ts n s does.simple (begins_by g all (place_of c) states n s (begun_more g noted all (place_of c) states part begun) one)
    (λ t end. noted_more g noted all (place_of c) goes_on after part gone n t.store end.0.one) (λ place b happens. absurd (no_answer d c does.act s place b does.plain does.simple happens))
    (leaves_more (noted_in g all) (place_of c) (λ _ t. Holds g pins after n t) (λ _ t. HoldsBeside g pins after S h n t) (does.act d s)
    (λ x t is holds. (holds, then_same S h s.store t.store here.1 (simple_spares c does.act d s t x does.simple is)))
    (fits_leaves g all (place_of c) f pins after n (does.act d s) less (faults_more g noted all (place_of c) f part faults) (does.holds pins d s refl stand here.0.pinned))) next

-- a test, of which all is noted
pub asks_more : (g : Context) (states on_true others : List AbstractState) (t : TestTree) (f : Faults) (a b : Noted) (place : Place) → IsPart g a b → Asks g states on_true others t f a place → Asks g states on_true others t f b place
asks_more g states on_true others t f a b place part asks = record {
  divides = asks.divides;
  begun = begun_more g a b place states part asks.begun;
  true_noted = noted_more g a b place (answers true) on_true part asks.true_noted;
  false_noted = noted_more g a b place (answers false) others part asks.false_noted;
  faults_noted = faults_more g a b place f part asks.faults_noted;
}

still_beside : (g : Context) (pins : Variables) (states : List AbstractState) (S : List ℕ → Type 0) (h : Bindings) (n : ℕ) (s t : State) → s ≡ t → Unchanged S h s.store → Holds g pins states n t → HoldsBeside g pins states S h n t
still_beside g pins states S h n s t is same holds = (holds, subst (λ (u : State). Unchanged S h u.store) is same)

asks_splits : (g : Context) (states on_true others : List AbstractState) (t : TestTree) (f : Faults) (noted all : Noted) (place : Place) → IsPart g noted all → Asks g states on_true others t f noted place → (pins : Variables) (d : TestData) (S : List ℕ → Type 0) (h : Bindings) (n : ℕ) (s : State) → HoldsBeside g pins states S h (suc n) s →
    Splits (noted_in g all) place (HoldsBeside g pins on_true S h n) (HoldsBeside g pins others S h n) (answer t d s)
asks_splits g states on_true others t f noted all place part asks pins d S h n s here =
    let steps = here.0.steps in
    let less : n < 2 ^ 64 = omega (arith, steps) in
    let more : Asks g states on_true others t f all place = asks_more g states on_true others t f noted all place part asks in
    splits_more (noted_in g all) place (Holds g pins on_true n) (Holds g pins others n) (HoldsBeside g pins on_true S h n) (HoldsBeside g pins others S h n) (answer t d s)
    (λ u is. still_beside g pins on_true S h n s u (answer_same t d s u true is) here.1) (λ u is. still_beside g pins others S h n s u (answer_same t d s u false is) here.1)
    (splits_noted g all place f pins on_true others n (answer t d s) less more.true_noted more.false_noted more.faults_noted
    (answer_fits g pins states on_true others f t d n s asks.divides (here.0.pinned, one_fewer g states n s.store here.0.one)))

-- ASSERT
assert_answered : (d : TestData) (events : Events) (at : Place) (test : TestTree) (P Q : State → Type 0) (s : State) → Splits events at P Q (answer test d s) → (place : Place) (b : Bool) → Happens d (start (Tree.assert at test)) s place (answers b) → events place (answers b)
assert_answered d events at test P Q s splits place b (assert_answers {t} is) = answer_is_event events at P Q b t (subst (Splits events at P Q) is splits)

assert_leaves : (events : Events) (place : Place) (P Q : State → Type 0) (d : TestData) (a : Effect Bool) → Splits events place P Q a → Leaves events place (λ _ t. P t) (proceed a (λ b t. (if b then return {A = ⊤} tt else reject AssertFailed) d t))
assert_leaves events place P Q d (done true t) splits = splits.holds
assert_leaves events place P Q d (done false t) splits = tt
assert_leaves events place P Q d (rejected reason consumed) splits = tt
assert_leaves events place P Q d (faulty fault consumed) splits = splits

pub assert_steps : (g : Context) (states on_true others : List AbstractState) (f : Faults) (place : Place) (t : TestTree) (noted : Noted) → Asks g states on_true others t f noted place → NotedIn g noted place goes_on on_true → StepKeeps g states on_true noted (Tree.assert place t)
assert_steps g states on_true others f place t noted asks gone pins d all h stand part ts zero s here next = safe_without_steps d (noted_in g all) (start (Tree.assert place t) ∷ ts) s
assert_steps g states on_true others f place t noted asks gone pins d all h stand part ts (suc n) s here next =
    let S : List ℕ → Type 0 = λ name. Spares name (Tree.assert place t) in
    let P : State → Type 0 = HoldsBeside g pins on_true S h n in
    let Q : State → Type 0 = HoldsBeside g pins others S h n in
    let splits : Splits (noted_in g all) place P Q (answer t d s) = asks_splits g states on_true others t f noted all place part asks pins d S h n s here in
    simple_is_safe d (noted_in g all) (HoldsBeside g pins on_true S h) (Tree.assert place t) (assert t) ts n s is_assert (begins_by g all place states (suc n) s (begun_more g noted all place states part asks.begun) here.0.one)
    (λ u end. noted_more g noted all place goes_on on_true part gone n u.store end.0.one) (assert_answered d (noted_in g all) place t P Q s splits)
    (assert_leaves (noted_in g all) place P Q d (answer t d s) splits) next

-- more states behind commands, and more notes
pub walk_more : (g : Context) (states after wider : List AbstractState) (old new : Noted) (cs : CommandList) → PartitionIsWithin g after wider → IsPart g old new → WalkKeeps g states after old cs → WalkKeeps g states wider new cs
walk_more g states after wider old new cs tells part keeps pins d all h stand within =
    let S : List ℕ → Type 0 = λ name. SparesEach name cs in
    weaker_leads d (noted_in g all) (HoldsBeside g pins states S h) (HoldsBeside g pins after S h) (HoldsBeside g pins wider S h) cs (λ m t here. (tells_holds g pins after wider tells m t here.0, here.1)) (keeps pins d all h stand (part_trans g old new all part within))

pub separator_more : (g : Context) (states after wider : List AbstractState) (old new : Noted) (sep : Separator) → PartitionIsWithin g after wider → IsPart g old new → SeparatorKeeps g states after old sep → SeparatorKeeps g states wider new sep
separator_more g states after wider old new sep tells part keeps pins d all k h stand within =
    let S : List ℕ → Type 0 = λ name. SparesBetween name sep in
    weaker_leads d (noted_in g all) (HoldsBeside g pins states S h) (HoldsBeside g pins after S h) (HoldsBeside g pins wider S h) (separator_before (suc k) sep) (λ m t here. (tells_holds g pins after wider tells m t here.0, here.1)) (keeps pins d all k h stand (part_trans g old new all part within))

-- IF
pub choice_steps : (g : Context) (states on_true others true_after false_after after : List AbstractState) (f : Faults) (place : Place) (t : TestTree) (cs ds : CommandList) (asked first noted : Noted) → Asks g states on_true others t f asked place → NotedIn g asked place goes_on on_true → NotedIn g asked place goes_on others →
    IsPart g asked noted → IsPart g first noted → WalkKeeps g on_true true_after first cs → WalkKeeps g others false_after noted ds → PartitionIsWithin g true_after after → PartitionIsWithin g false_after after → StepKeeps g states after noted (Tree.choice place t cs ds)
choice_steps g states on_true others true_after false_after after f place t cs ds asked first noted asks if_gone else_gone part_asked part_first left right left_tells right_tells pins d all h stand within =
    let part : IsPart g asked all = part_trans g asked noted all part_asked within in
    let S : List ℕ → Type 0 = λ name. Spares name (Tree.choice place t cs ds) in
    choice_leads d (noted_in g all) place t cs ds (HoldsBeside g pins states S h) (HoldsBeside g pins on_true S h) (HoldsBeside g pins others S h) (HoldsBeside g pins after S h)
    (λ n s here. begins_by g all place states (suc n) s (begun_more g asked all place states part asks.begun) here.0.one)
    (λ n u here. noted_more g asked all place goes_on on_true part if_gone n u.store here.0.one) (λ n u here. noted_more g asked all place goes_on others part else_gone n u.store here.0.one)
    (λ n s here. asks_splits g states on_true others t f asked all place part asks pins d S h n s here)
    (beside_leads d (noted_in g all) g pins on_true after cs (λ name. SparesEach name cs) S h (λ name spared. spared.0) (λ k. walk_more g on_true true_after after first noted cs left_tells part_first left pins d all k stand within))
    (beside_leads d (noted_in g all) g pins others after ds (λ name. SparesEach name ds) S h (λ name spared. spared.1) (λ k. walk_more g others false_after after noted noted ds right_tells (λ x e is. is) right pins d all k stand within))

-- commands one after the other: if the rest keeps, all do
abbrev pub WalkLeads : (g : Context) (states after : List AbstractState) → (noted : Noted) → (rest whole : CommandList) → Type 0
WalkLeads g states after noted rest whole = (last : List AbstractState) (more : Noted) → IsPart g noted more → WalkKeeps g after last more rest → WalkKeeps g states last more whole

pub walk_leads_on : (g : Context) (states before after : List AbstractState) (old new : Noted) (c : CommandTree) (rest whole : CommandList) → IsPart g old new → StepKeeps g before after new c → WalkLeads g states before old (Tree.then c rest) whole → WalkLeads g states after new rest whole
walk_leads_on g states before after old new c rest whole part step leads last more parts keeps =
    leads last more (part_trans g old new more part parts) (λ pins d all h stand within.
    let S : List ℕ → Type 0 = λ name. SparesEach name (Tree.then c rest) in
    list_leads d (noted_in g all) (HoldsBeside g pins before S h) (HoldsBeside g pins after S h) (HoldsBeside g pins last S h) c rest
    (beside_command d (noted_in g all) g pins before after c (λ name. Spares name c) S h (λ name spared. spared.0) (λ k. step pins d all k stand (part_trans g new more all parts within)))
    (beside_leads d (noted_in g all) g pins after last rest (λ name. SparesEach name rest) S h (λ name spared. spared.1) (λ k. keeps pins d all k stand within)))

pub nothing_walked : (g : Context) (states : List AbstractState) (noted : Noted) → WalkKeeps g states states noted Tree.done
nothing_walked g states noted pins d all h stand part = none_leads d (noted_in g all) (HoldsBeside g pins states (λ name. SparesEach name Tree.done) h)

-- the separator
pub between_keeps : (g : Context) (states after : List AbstractState) (noted : Noted) (c : CommandTree) → StepKeeps g states after noted c → SeparatorKeeps g states after noted (Tree.between c)
between_keeps g states after noted c step pins d all k h stand part =
    let S : List ℕ → Type 0 = λ name. Spares name c in
    list_leads d (noted_in g all) (HoldsBeside g pins states S h) (HoldsBeside g pins after S h) (HoldsBeside g pins after S h) c Tree.done (step pins d all h stand part) (none_leads d (noted_in g all) (HoldsBeside g pins after S h))

pub nothing_between : (g : Context) (states : List AbstractState) (noted : Noted) → SeparatorKeeps g states states noted Tree.nothing
nothing_between g states noted pins d all k h stand part = none_leads d (noted_in g all) (HoldsBeside g pins states (λ name. SparesBetween name Tree.nothing) h)

-- a command leads from the states of a partition where it does from those of a wider one
pub wider_step : (g : Context) (states wider after : List AbstractState) (noted : Noted) (c : CommandTree) → PartitionIsWithin g states wider → StepKeeps g wider after noted c → StepKeeps g states after noted c
wider_step g states wider after noted c within step pins d all h stand part ts n s here = step pins d all h stand part ts n s (tells_holds g pins states wider within n s here.0, here.1)
