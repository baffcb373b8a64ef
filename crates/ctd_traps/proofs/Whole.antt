-- From what commands lead to, to the theorems.
use Rattle.ctd_traps.proofs.Common.{AbstractState, Bindings, BlanksOk, Bool, CommandList, Context, Effect, Err, Events, Exact, ExpectedEof, FoundIn, HasEachEvent, HasEachTrap, Holds, IsOfValue, IsPart, List, LookFault}
use Rattle.ctd_traps.proofs.Common.{Mode, None, Noted, Ok, OneStands, Option, PinsAreIn, PinsStand, PlacedFault, Preset, Result, Some, SparesEach, TestData, Value, Variables, WalkKeeps, ap, at_key, at_start}
use Rattle.ctd_traps.proofs.Common.{done, each_same, end, end_in, eof, false, fault_of_look, faulty, first_skip, if◌then◌else◌, initial, is_blank, is_end, lift, next_byte, noted_in, option_or, pins_alone}
use Rattle.ctd_traps.proofs.Common.{pins_in, pins_of, prefix_len, proceed, program_end, refl, reject, rejected, return, see_next, skip_blanks, start_in, subst, sym, true, value_at, value_under, visible, with_fault, ℕ, ⊤}
use Rattle.ctd_traps.proofs.Common.{◌+◌, ◌<◌, ◌^◌, ◌≡◌}
use Rattle.ctd_source.specs.declared.spot.LookFault.TheVariants as looks
use Rattle.ctd_command.specs.State.{State}
use Rattle.ctd_traps.proofs.Framing.{framed_leads}
use Rattle.ctd_traps.proofs.Reaching.{AreTraps, NoFault, events_follow, traps_are_events}
use Rattle.ctd_traps.specs.declared.joined.Moment.TheVariants as moments

-- an effect with no fault of a value
abbrev OnlyLooks : {A : Type 0} → Effect A → Type 0
OnlyLooks (done x after) = Unit {0}
OnlyLooks (rejected reason consumed) = Unit {0}
OnlyLooks (faulty fault consumed) = IsOfValue fault → ⊥

next_looks : {A B : Type 0} (a : Effect A) (next : A → State → Effect B) → OnlyLooks a → ((x : A) (u : State) → OnlyLooks (next x u)) → OnlyLooks (proceed a next)
next_looks (done x after) next h second = second x after
next_looks (rejected reason consumed) next h second = tt
next_looks (faulty fault consumed) next h second = h

look_looks : {A : Type 0} (r : Result A LookFault) (s : State) → OnlyLooks (lift (with_fault fault_of_look r) s)
look_looks (Ok x) s = tt
look_looks (Err looks.Read) s = λ of_value. of_value
look_looks (Err looks.DataTooLong) s = λ of_value. of_value

-- nothing more is done
abbrev finished : State → Effect ⊤
finished t = done tt t

skip_looks : (d : TestData) (s : State) → OnlyLooks (skip_blanks d s)
skip_looks d s =
    let p : ℕ = s.offset + prefix_len is_blank (visible d s.offset) in
    let u : State = record { offset = p; store = s.store; mode = s.mode } in
    next_looks {B = ⊤} (see_next d u) (λ _ t. finished t) (look_looks (next_byte d p) u) (λ _ t. tt)

start_looks : (m : Mode) (d : TestData) (s : State) → OnlyLooks (start_in m d s)
start_looks Exact d s = tt
start_looks BlanksOk d s = skip_looks d s

if_looks : (b : Bool) (d : TestData) (s : State) → OnlyLooks {A = ⊤} ((if b then return {A = ⊤} tt else reject ExpectedEof) d s)
if_looks true d s = tt
if_looks false d s = tt

eof_looks : (d : TestData) (s : State) → OnlyLooks (eof d s)
eof_looks d s = next_looks (see_next d s) (λ next u. (if is_end next then return {A = ⊤} tt else reject ExpectedEof) d u) (look_looks (next_byte d s.offset) s) (λ next u. if_looks (is_end next) d u)

end_looks : (m : Mode) (d : TestData) (s : State) → OnlyLooks (end_in m d s)
end_looks Exact d s = eof_looks d s
end_looks BlanksOk d s = next_looks (skip_blanks d s) (λ _ u. eof d u) (skip_looks d s) (λ _ u. eof_looks d u)

-- the blanks before the first command change no variable
abbrev Keeps_store : Bindings → {A : Type 0} → Effect A → Type 0
Keeps_store h (done x t) = t.store ≡ h
Keeps_store h (rejected reason consumed) = Unit {0}
Keeps_store h (faulty fault consumed) = Unit {0}

skip_same : (s : State) (r : Result (Option ℕ) LookFault) (p : ℕ) → Keeps_store s.store {A = ⊤} (proceed (lift (with_fault fault_of_look r) (record { offset = p; store = s.store; mode = s.mode })) (λ _ t. finished t))
skip_same s (Ok x) p = refl
skip_same s (Err f) p = tt

start_same : (m : Mode) (d : TestData) (s : State) → Keeps_store s.store (start_in m d s)
start_same Exact d s = refl
start_same BlanksOk d s = let p : ℕ = s.offset + prefix_len is_blank (visible d s.offset) in skip_same s (next_byte d p) p

-- at first each variable has its pin or nothing
or_nothing : (o : Option Value) → option_or o None ≡ o
or_nothing None = refl
or_nothing (Some v) = refl

at_first : (presets : List Preset) (name : List ℕ) (is : List Value) → value_at (initial presets) (at_key name is) ≡ value_at (pins_alone (pins_of presets)) (at_key name is)
at_first presets name is = or_nothing (value_under (at_key name is) (pins_of presets))

-- looks have no faults of values
no_fault : {A : Type 0} (a : Effect A) → OnlyLooks a → NoFault a
no_fault a looks fault consumed of_value is = subst OnlyLooks is looks of_value

-- before the first command a run is in the first of the states
first_holds : (presets : List Preset) (g : Context) (first : List AbstractState) → PinsStand (pins_in g) (pins_of presets) → PinsAreIn g first →
    (mode : Mode) (d : TestData) (n : ℕ) (s : State) → n < 2 ^ 64 → first_skip d (at_start mode presets) ≡ done tt s → Holds g (pins_of presets) first n s
first_holds presets g first stand tells mode d n s less skipped =
    let same : s.store ≡ initial presets = subst (Keeps_store (initial presets)) skipped (start_same mode d (at_start mode presets)) in
    record {
      steps = less;
      pinned = ap (λ h. h.pins) same;
      one = subst (λ h. OneStands g first n h) (sym same) (tells n (initial presets) (each_same (pins_in g) n (pins_alone (pins_of presets)) (initial presets) (at_first presets) (stand n less)));
    }

-- all that happens is noted
pub events_noted : (program : CommandList) (presets : List Preset) (g : Context) (first last : List AbstractState) (walked noted : Noted) → PinsStand (pins_in g) (pins_of presets) → PinsAreIn g first → WalkKeeps g first last walked program → IsPart g walked noted → FoundIn g noted program_end moments.Done last → HasEachEvent program presets (noted_in g noted)
events_noted program presets g first last walked noted stand tells keeps part found =
    let pins : Variables = pins_of presets in
    events_follow program presets (noted_in g noted) (Holds g pins first) (Holds g pins last) (first_holds presets g first stand tells)
    (λ d. framed_leads d (noted_in g noted) program (Holds g pins first) (Holds g pins last) (Holds g pins first) (Holds g pins last) (λ name. SparesEach name program) (λ h. keeps pins d noted h stand part)
    (λ n s here. here) (λ n m s t less here end same. end))
    (λ n s here. found n s.store here.one)

-- and so is each trap
pub traps_noted : (program : CommandList) (presets : List Preset) (events : Events) (traps : List PlacedFault) → AreTraps events traps → HasEachEvent program presets events → HasEachTrap program presets traps
traps_noted program presets events traps are each =
    traps_are_events (λ d s. no_fault (first_skip d s) (start_looks s.mode d s)) (λ d s. no_fault (end d s) (end_looks s.mode d s)) program presets events traps are each
