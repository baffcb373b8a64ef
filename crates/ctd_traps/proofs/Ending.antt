-- The end of a run that does all its tasks, and what is known there and at the places to which runs come.
use Rattle.ctd_traps.proofs.Common.{Bindings, BlanksOk, Bool, Comes, CommandList, Contains, Context, Effect, Event, Exact, ExpectedEof, Fault, HasEachEvent, IfSome, IsFound, List, Moment, Mode, None, Noted, Option, Place, Preset, Result, Ok, Err, Some, Start, Task, TestData, Vec, [], all_done}
use Rattle.ctd_traps.proofs.Common.{ap, append_assoc, at_once, at_start, by_step, done, end, end_finds, end_in, eof, false, fault_of_look, faulty, finds, finish, first_skip, if◌then◌else◌, is_blank, is_end, lift, next_byte, noted_in, perform}
use Rattle.ctd_traps.proofs.Common.{prefix_len, proceed, program_end, refl, reject, rejected, resume, return, run, see_next, site_of, skip_blanks, subst, suc, sym, tasks, true, visible, with_fault, zero, ℕ, ⊤, ◌++◌, ◌+◌, ◌∙◌, ◌∷◌, ◌≡◌, Bor}
use Rattle.ctd_command.specs.State.{State}
use Rattle.ctd_outcome.specs.declared.outcome.Site.TheVariants.{Finish}
use Rattle.ctd_traps.specs.calls.Known.{AreSo, EachAcceptedHas, EachFinds, IsKnownOf}
use Rattle.ctd_traps.specs.declared.joined.Moment.TheVariants as moments
use Rattle.ctd_traps.specs.declared.known.Known.{Known}
use Rattle.ctd_traps.specs.declared.known.KnownAt.{KnownAt}
use Rattle.ctd_traps.specs.declared.known.Knowledge.{Knowledge}
use Rattle.ctd_traps.specs.inner.Knowing.{IsKnowledge}

-- an effect leaves these variables
abbrev Leaves_store : Bindings → {A : Type 0} → Effect A → Type 0
Leaves_store h (done x t) = t.store ≡ h
Leaves_store h (rejected reason consumed) = Unit {0}
Leaves_store h (faulty fault consumed) = Unit {0}

next_leaves : {A B : Type 0} (h : Bindings) (a : Effect A) (next : A → State → Effect B) → Leaves_store h a → ((x : A) (u : State) → u.store ≡ h → Leaves_store h (next x u)) → Leaves_store h (proceed a next)
next_leaves h (done x after) next first second = second x after first
next_leaves h (rejected reason consumed) next first second = tt
next_leaves h (faulty fault consumed) next first second = tt

lift_leaves : {A : Type 0} (r : Result A Fault) (s : State) → Leaves_store s.store (lift r s)
lift_leaves (Ok x) s = refl
lift_leaves (Err why) s = tt

if_leaves : (h : Bindings) (b : Bool) (d : TestData) (s : State) → s.store ≡ h → Leaves_store h {A = ⊤} ((if b then return {A = ⊤} tt else reject ExpectedEof) d s)
if_leaves h true d s same = same
if_leaves h false d s same = tt

eof_leaves : (h : Bindings) (d : TestData) (s : State) → s.store ≡ h → Leaves_store h (eof d s)
eof_leaves h d s same = next_leaves h (see_next d s) (λ next u. (if is_end next then return {A = ⊤} tt else reject ExpectedEof) d u) (subst (λ k. Leaves_store k (see_next d s)) same (lift_leaves (with_fault fault_of_look (next_byte d s.offset)) s)) (λ next u. if_leaves h (is_end next) d u)

skip_leaves : (d : TestData) (s : State) → Leaves_store s.store (skip_blanks d s)
skip_leaves d s =
    let p : ℕ = s.offset + prefix_len is_blank (visible d s.offset) in
    let u : State = record { offset = p; store = s.store; mode = s.mode } in
    next_leaves {B = ⊤} s.store (see_next d u) (λ _ t. done tt t) (lift_leaves (with_fault fault_of_look (next_byte d p)) u) (λ _ t same. same)

end_leaves_in : (m : Mode) (d : TestData) (s : State) → Leaves_store s.store (end_in m d s)
end_leaves_in Exact d s = eof_leaves s.store d s refl
end_leaves_in BlanksOk d s = next_leaves s.store (skip_blanks d s) (λ _ u. eof d u) (skip_leaves d s) (λ _ u same. eof_leaves s.store d u same)

end_leaves : (d : TestData) (s : State) → Leaves_store s.store (end d s)
end_leaves d s = end_leaves_in s.mode d s

-- a run that does all its tasks comes to the end of the program
pub record ComesToEnd (d : TestData) (n : ℕ) (ts : List Task) (s after : State) : Type 0 where
  pub left : ℕ
  pub rest : List Task
  pub state : State
  pub comes : Comes d n ts s (suc left) (finish ∷ rest) state
  pub same : state.store ≡ after.store

nothing_more : (d : TestData) (n : ℕ) (v after : State) (left : ℕ) → run d n [] v ≡ all_done after left → v ≡ after
nothing_more d n v after left is = cc is

end_done : (d : TestData) (n : ℕ) (s after : State) (left : ℕ) (a : Effect ⊤) → Leaves_store s.store a →
    resume d Finish s.offset n (proceed {B = List Task} a (λ _ v. done [] v)) (λ more t. run d n (more ++ []) t) ≡ all_done after left → s.store ≡ after.store
end_done d n s after left (done x v) leaves is = sym leaves ∙ ap (λ (u : State). u.store) (nothing_more d n v after left is)
end_done d n s after left (rejected reason consumed) leaves is = absurd (cc is)
end_done d n s after left (faulty fault consumed) leaves is = absurd (cc is)

abbrev EndsFrom : TestData → ℕ → Type 0
EndsFrom d n = (us : List Task) (s after : State) (left : ℕ) → run d n (us ++ finish ∷ []) s ≡ all_done after left → ComesToEnd d n (us ++ finish ∷ []) s after

end_by_case : (d : TestData) (n : ℕ) → EndsFrom d n → (task : Task) (us : List Task) (s after : State) (left : ℕ) (a : Effect (List Task)) → perform task d s ≡ a →
    resume d (site_of task) s.offset n a (λ more t. run d n (more ++ (us ++ finish ∷ [])) t) ≡ all_done after left → ComesToEnd d (suc n) (task ∷ (us ++ finish ∷ [])) s after
end_by_case d n later task us s after left (done more t) act is =
    let e : ComesToEnd d n ((more ++ us) ++ finish ∷ []) t after = later (more ++ us) t after left (subst (λ l. run d n l t ≡ all_done after left) (sym (append_assoc more us (finish ∷ []))) is) in
    record { left = e.left; rest = e.rest; state = e.state; comes = by_step act (subst (λ l. Comes d n l t (suc e.left) (finish ∷ e.rest) e.state) (append_assoc more us (finish ∷ [])) e.comes); same = e.same }
end_by_case d n later task us s after left (rejected reason consumed) act is = absurd (cc is)
end_by_case d n later task us s after left (faulty fault consumed) act is = absurd (cc is)

comes_to_end : (d : TestData) (n : ℕ) → EndsFrom d n
comes_to_end d zero [] s after left is = absurd (cc is)
comes_to_end d zero (task ∷ us) s after left is = absurd (cc is)
comes_to_end d (suc n) [] s after left is = record { left = n; rest = []; state = s; comes = at_once; same = end_done d n s after left (end d s) (end_leaves d s) is }
comes_to_end d (suc n) (task ∷ us) s after left is = end_by_case d n (comes_to_end d n) task us s after left (perform task d s) refl is

-- what is known in the end of each file that is accepted
pub accepted_has : (program : CommandList) (presets : List Preset) (names : List (Bor (List ℕ))) (known : Option (Vec Known)) (g : Context) (noted : Noted) → HasEachEvent program presets (noted_in g noted) →
    ((h : Bindings) → IsFound g noted.joined program_end moments.Done h → IsKnownOf names h known) → EachAcceptedHas program presets names known
accepted_has program presets names known g noted each knows mode d steps left after less is = from_skip (first_skip d (at_start mode presets)) refl is
  where
    from_skip : (a : Effect ⊤) → first_skip d (at_start mode presets) ≡ a → resume d Start 0 steps a (λ _ t. run d steps (tasks program ++ finish ∷ []) t) ≡ all_done after left → IsKnownOf names after.store known
    from_skip (done tt t) skipped is =
        let e : ComesToEnd d steps (tasks program ++ finish ∷ []) t after = comes_to_end d steps (tasks program) t after left is in
        subst (λ h. IsKnownOf names h known) e.same (knows e.state.store (each mode d steps e.left t e.state finish e.rest program_end (finds moments.Done e.state.store) less skipped e.comes end_finds))
    from_skip (rejected reason consumed) skipped is = absurd (cc is)
    from_skip (faulty fault consumed) skipped is = absurd (cc is)

-- what is found is noted
found_noted : (g : Context) (noted : Noted) (place other : Place) (event : Event) (moment : Moment) (h : Bindings) → noted_in g noted place event → place ≡ other → event ≡ finds moment h → IsFound g noted.joined other moment h
found_noted g noted place other event moment h is same finding = subst (λ p. IsFound g noted.joined p moment h) same (subst (λ e. noted_in g noted place e) finding is)

-- and at the places to which runs come
pub each_finds : (program : CommandList) (presets : List Preset) (known : List KnownAt) (g : Context) (noted : Noted) → HasEachEvent program presets (noted_in g noted) →
    ((x : KnownAt) → Contains known x → (h : Bindings) → IsFound g noted.joined x.place x.moment h → AreSo g.names.now h x.known.items) → EachFinds program presets g.names.now known
each_finds program presets known g noted each knows x h among mode d steps n s t task rest place event less skipped comes happens at finding =
    knows x among h (found_noted g noted place x.place event x.moment h (each mode d steps n s t task rest place event less skipped comes happens) at finding)

-- both, of what is known, if it is asked for
pub knowledge_ends : (program : CommandList) (presets : List Preset) (g : Context) (noted : Noted) (answer : Option Knowledge) → HasEachEvent program presets (noted_in g noted) → IfSome answer (λ k. IsKnowledge g noted.joined k) →
    IfSome answer (λ k. EachAcceptedHas program presets g.names.now k.at_end)
knowledge_ends program presets g noted None each knows = tt
knowledge_ends program presets g noted (Some k) each knows = accepted_has program presets g.names.now k.at_end g noted each knows.at_end

pub knowledge_finds : (program : CommandList) (presets : List Preset) (g : Context) (noted : Noted) (answer : Option Knowledge) → HasEachEvent program presets (noted_in g noted) → IfSome answer (λ k. IsKnowledge g noted.joined k) →
    IfSome answer (λ k. EachFinds program presets g.names.now k.at_places.items)
knowledge_finds program presets g noted None each knows = tt
knowledge_finds program presets g noted (Some k) each knows = each_finds program presets k.at_places.items g noted each knows.at_places
