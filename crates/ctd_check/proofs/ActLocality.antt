-- What each act does to its place in the data, and that over longer data it does the same unless a read failed that it needs.
use Rattle.std.proofs.Common.{◌≡◌, ◌≢◌, ℕ, ◌+◌, ◌<◌, ◌≤◌, Bool, true, false, List, ◌⊎◌, inl, inr, length, take, Option, Result, Ok, Err, refl, ap, ◌∙◌, arith, le_refl, le_trans, le-add_right}
use Rattle.std.specs.Prelude.{⊤, if◌then◌else◌}
use Rattle.ctd_source.specs.declared.limits.TheConstants.{WINDOW}
use Rattle.ctd_source.specs.declared.spot.LookFault.{LookFault}
use Rattle.ctd_source.specs.declared.spot.LookFault.TheVariants as looks
use Rattle.ctd_source.specs.TestData.{TestData, next_byte, look, visible}
use Rattle.ctd_program.specs.Tree.{TestTree}
use Rattle.ctd_store.specs.declared.value.Value.{Value}
use Rattle.ctd_store.specs.Store.{Bindings, Key}
use Rattle.ctd_value.specs.Fault.{with_fault, fault_of_look}
use Rattle.ctd_value.proofs.Ordinary.{HasSteps, look_has_steps, truth_has_steps}
use Rattle.ctd_value.specs.Truth.{truth}
use Rattle.ctd_outcome.specs.declared.reason.Reason.{Reason}
use Rattle.ctd_outcome.specs.declared.reason.Fault.{Fault}
use Rattle.ctd_outcome.specs.declared.reason.Fault.TheVariants.{StepLimit, Read}
use Rattle.ctd_command.specs.State.{State, Effect, done, rejected, faulty, Act, proceed, ◌>>=◌, return, reject, stop, lift, evaluate, see_next, see_window}
use Rattle.ctd_command.specs.Commands.{assign_key, answer, unset_all}
use Rattle.ctd_check.proofs.LongerData.{Extends, SameOrRead, longer_look, longer_byte, longer_truth, longer_visible, visible_within, begins}

-- an effect from an offset on: no byte is given back, and a fault is no limit of steps
abbrev pub Forward : {A : Type 0} → ℕ → Effect A → Type 0
Forward p (done answer after) = p ≤ after.offset
Forward p (rejected reason consumed) = p ≤ consumed
Forward p (faulty fault consumed) = (p ≤ consumed) × (fault ≢ StepLimit)

-- an effect within data of this size
abbrev pub Inside : {A : Type 0} → ℕ → Effect A → Type 0
Inside size (done answer after) = after.offset ≤ size
Inside size (rejected reason consumed) = Unit {0}
Inside size (faulty fault consumed) = Unit {0}

-- the offset where an effect ends
abbrev pub end_of : {A : Type 0} → Effect A → ℕ
end_of (done answer after) = after.offset
end_of (rejected reason consumed) = consumed
end_of (faulty fault consumed) = consumed

-- an effect over data of this size that broke off, and one over longer data: they are the same, or the first is the fault of the failed read, no further on than the second, and the data end within a window of there
pub data SameOrCut {A : Type 0} (size : ℕ) (short long : Effect A) : Type 0 where
  same : long ≡ short → SameOrCut size short long
  cut : (consumed : ℕ) → short ≡ faulty Read consumed → consumed ≤ end_of long → size < consumed + WINDOW → SameOrCut size short long

-- what every act does
pub record IsLocal {A : Type 0} (m : Act A) : Type 0 where
  pub forward : (d : TestData) (s : State) → Forward s.offset (m d s)
  pub inside : (d : TestData) (s : State) → s.offset ≤ length d.bytes → Inside (length d.bytes) (m d s)
  pub longer : (d e : TestData) (s : State) → Extends d e → s.offset ≤ length d.bytes → SameOrCut (length d.bytes) (m d s) (m e s)

-- One act and then the next.
forward_from : {A : Type 0} (p q : ℕ) (e : Effect A) → p ≤ q → Forward q e → Forward p e
forward_from p q (done answer after) before h = le_trans before h
forward_from p q (rejected reason consumed) before h = le_trans before h
forward_from p q (faulty fault consumed) before h = (le_trans before h.0, h.1)

pub ends_after : {A : Type 0} (p : ℕ) (e : Effect A) → Forward p e → p ≤ end_of e
ends_after p (done answer after) h = h
ends_after p (rejected reason consumed) h = h
ends_after p (faulty fault consumed) h = h.0

pub forward_next : {A B : Type 0} (p : ℕ) (e : Effect A) (next : A → State → Effect B) → Forward p e → ((x : A) (u : State) → Forward u.offset (next x u)) → Forward p (proceed e next)
forward_next p (done x after) next h second = forward_from p after.offset (next x after) h (second x after)
forward_next p (rejected reason consumed) next h second = h
forward_next p (faulty fault consumed) next h second = h

ends_later : {A B : Type 0} (a : Effect A) (next : A → State → Effect B) → ((x : A) (u : State) → Forward u.offset (next x u)) → end_of a ≤ end_of (proceed a next)
ends_later (done x after) next second = ends_after after.offset (next x after) (second x after)
ends_later (rejected reason consumed) next second = le_refl consumed
ends_later (faulty fault consumed) next second = le_refl consumed

inside_next : {A B : Type 0} (size : ℕ) (a : Effect A) (next : A → State → Effect B) → Inside size a → ((x : A) (u : State) → u.offset ≤ size → Inside size (next x u)) → Inside size (proceed a next)
inside_next size (done x after) next h second = second x after h
inside_next size (rejected reason consumed) next h second = tt
inside_next size (faulty fault consumed) next h second = tt

-- an effect over the longer data may be replaced by an equal one
pub instead : {A : Type 0} (size : ℕ) (short long other : Effect A) → other ≡ long → SameOrCut size short long → SameOrCut size short other
instead size short long other is (same h) = same (is ∙ h)
instead size short long other is (cut consumed h later early) =
    let behind : consumed ≤ end_of other = omega (arith, later, ap end_of is) in cut consumed h behind early

next_of_same : {A B : Type 0} (size : ℕ) (a : Effect A) (f g : A → State → Effect B) → Inside size a → ((x : A) (u : State) → u.offset ≤ size → SameOrCut size (f x u) (g x u)) → SameOrCut size (proceed a f) (proceed a g)
next_of_same size (done x after) f g inside next = next x after inside
next_of_same size (rejected reason consumed) f g inside next = same refl
next_of_same size (faulty fault consumed) f g inside next = same refl

pub longer_next : {A B : Type 0} (size : ℕ) (a b : Effect A) (f g : A → State → Effect B) → Inside size a → ((x : A) (u : State) → Forward u.offset (g x u)) → ((x : A) (u : State) → u.offset ≤ size → SameOrCut size (f x u) (g x u))
    → SameOrCut size a b → SameOrCut size (proceed a f) (proceed b g)
longer_next size a b f g inside forward next (same is) = instead size (proceed a f) (proceed a g) (proceed b g) (ap (λ c. proceed c g) is) (next_of_same size a f g inside next)
longer_next size a b f g inside forward next (cut consumed is later early) = cut consumed (ap (λ c. proceed c f) is) (le_trans later (ends_later b g forward)) early

pub both : {A B : Type 0} (m : Act A) (f : A → Act B) → IsLocal m → ((x : A) → IsLocal (f x)) → IsLocal (m >>= f)
both m f first second = record {
  forward = λ d s. forward_next s.offset (m d s) (λ x u. f x d u) (first.forward d s) (λ x u. (second x).forward d u);
  inside = λ d s within. inside_next (length d.bytes) (m d s) (λ x u. f x d u) (first.inside d s within) (λ x u. (second x).inside d u);
  longer = λ d e s x within. longer_next (length d.bytes) (m d s) (m e s) (λ y u. f y d u) (λ y u. f y e u) (first.inside d s within) (λ y u. (second y).forward e u) (λ y u. (second y).longer d e u x) (first.longer d e s x within);
}

-- one of two acts
pub either : {A : Type 0} (b : Bool) (m n : Act A) → IsLocal m → IsLocal n → IsLocal (if b then m else n)
either true m n f g = f
either false m n f g = g

-- Acts that look at no data.
pub given : {A : Type 0} (x : A) → IsLocal (return x)
given x = record { forward = λ d s. le_refl s.offset; inside = λ d s within. within; longer = λ d e s x within. same refl }

pub idle : IsLocal {A = ⊤} (return tt)
idle = record { forward = λ d s. le_refl s.offset; inside = λ d s within. within; longer = λ d e s x within. same refl }

pub rejecting : {A : Type 0} (reason : Reason) → IsLocal {A = A} (reject reason)
rejecting reason = record { forward = λ d s. le_refl s.offset; inside = λ d s within. tt; longer = λ d e s x within. same refl }

pub stopping : {A : Type 0} (fault : Fault) → fault ≢ StepLimit → IsLocal {A = A} (stop fault)
stopping fault other = record { forward = λ d s. (le_refl s.offset, other); inside = λ d s within. tt; longer = λ d e s x within. same refl }

pub assigning : (k : Key) (value : Value) → IsLocal (assign_key k value)
assigning k value = record { forward = λ d s. le_refl s.offset; inside = λ d s within. within; longer = λ d e s x within. same refl }

pub unsetting : (names : List (List ℕ)) → IsLocal (unset_all names)
unsetting names = record { forward = λ d s. le_refl s.offset; inside = λ d s within. within; longer = λ d e s x within. same refl }

-- Values, tests and looks, none of which reaches the limit of steps.
lift_forward : {A : Type 0} (r : Result A Fault) (s : State) → HasSteps r → Forward s.offset (lift r s)
lift_forward (Ok x) s other = le_refl s.offset
lift_forward (Err fault) s other = (le_refl s.offset, other)

lift_inside : {A : Type 0} (size : ℕ) (r : Result A Fault) (s : State) → s.offset ≤ size → Inside size (lift r s)
lift_inside size (Ok x) s within = within
lift_inside size (Err fault) s within = tt

lift_longer : {A : Type 0} (size n : ℕ) (short long : Result A Fault) (s : State) → HasSteps long → n ≤ WINDOW → SameOrRead Read (size < s.offset + n) short long → SameOrCut size (lift short s) (lift long s)
lift_longer size n short long s other few (inl h) = same (ap (λ r. lift r s) h)
lift_longer size n short long s other few (inr h) = cut s.offset (ap (λ r. lift r s) h.0) (ends_after s.offset (lift long s) (lift_forward long s other)) (omega (arith, h.1, few))

look_longer : {A : Type 0} (Early : Type 0) (short long : Result A LookFault) → SameOrRead looks.Read Early short long → SameOrRead Read Early (with_fault fault_of_look short) (with_fault fault_of_look long)
look_longer Early short long (inl h) = inl (ap (with_fault fault_of_look) h)
look_longer Early short long (inr h) = inr (ap (with_fault fault_of_look) h.0, h.1)

pub evaluating : {A : Type 0} (f : Bindings → Result A Fault) → ((h : Bindings) → HasSteps (f h)) → IsLocal (evaluate f)
evaluating f steps = record {
  forward = λ d s. lift_forward (f s.store) s (steps s.store);
  inside = λ d s within. lift_inside (length d.bytes) (f s.store) s within;
  longer = λ d e s x within. same refl;
}

one : 1 ≤ WINDOW
one = omega arith

pub seeing : IsLocal see_next
seeing = record {
  forward = λ d s. lift_forward (with_fault fault_of_look (next_byte d s.offset)) s (look_has_steps (next_byte d s.offset));
  inside = λ d s within. lift_inside (length d.bytes) (with_fault fault_of_look (next_byte d s.offset)) s within;
  longer = λ d e s x within. lift_longer (length d.bytes) 1 (with_fault fault_of_look (next_byte d s.offset)) (with_fault fault_of_look (next_byte e s.offset)) s (look_has_steps (next_byte e s.offset)) one
      (look_longer (length d.bytes < s.offset + 1) (next_byte d s.offset) (next_byte e s.offset) (longer_byte d e s.offset x));
}

pub windowing : IsLocal see_window
windowing = record {
  forward = λ d s. lift_forward (with_fault fault_of_look (look d s.offset WINDOW)) s (look_has_steps (look d s.offset WINDOW));
  inside = λ d s within. lift_inside (length d.bytes) (with_fault fault_of_look (look d s.offset WINDOW)) s within;
  longer = λ d e s x within. lift_longer (length d.bytes) WINDOW (with_fault fault_of_look (look d s.offset WINDOW)) (with_fault fault_of_look (look e s.offset WINDOW)) s (look_has_steps (look e s.offset WINDOW)) (le_refl WINDOW)
      (look_longer (length d.bytes < s.offset + WINDOW) (look d s.offset WINDOW) (look e s.offset WINDOW) (longer_look d e s.offset WINDOW x));
}

pub answering : (t : TestTree) → IsLocal (answer t)
answering t = record {
  forward = λ d s. lift_forward (truth t s.store d s.offset) s (truth_has_steps t s.store d s.offset);
  inside = λ d s within. lift_inside (length d.bytes) (truth t s.store d s.offset) s within;
  longer = λ d e s x within. lift_longer (length d.bytes) 1 (truth t s.store d s.offset) (truth t s.store e s.offset) s (truth_has_steps t s.store e s.offset) one (longer_truth t s.store d e s.offset x);
}

-- Acts that pass bytes.
-- a state that many bytes on
abbrev pub on : ℕ → State → State
on n s = record { offset = s.offset + n; store = s.store; mode = s.mode }

pub forward_past : {B : Type 0} (n : ℕ) (m : Act B) (d : TestData) (s : State) → IsLocal m → Forward s.offset (m d (on n s))
forward_past n m d s h = forward_from s.offset (s.offset + n) (m d (on n s)) (le-add_right s.offset n) (h.forward d (on n s))

-- where the look behind the bytes that are passed is the fault of the failed read
pub cut_behind : {B : Type 0} (size n k : ℕ) (d e : TestData) (s : State) (f : Option ℕ → Act B) (m : Act B) → IsLocal m → n ≤ k → next_byte d (s.offset + n) ≡ Err looks.Read → size < (s.offset + n) + 1 → SameOrCut size ((see_next >>= f) d (on n s)) (m e (on k s))
cut_behind size n k d e s f m h less is early =
    let begun : s.offset + k ≤ end_of (m e (on k s)) = ends_after (s.offset + k) (m e (on k s)) (h.forward e (on k s)) in
    let later : s.offset + n ≤ end_of (m e (on k s)) = omega (arith, begun, less) in
    cut (s.offset + n) (ap (λ r. proceed (lift (with_fault fault_of_look r) (on n s)) (λ next u. f next d u)) is) later (omega (arith, early))

-- Some of the visible bytes are passed, and then the next one is seen. They are found by what they are, up to the byte behind them.
module _ {P B : Type 0} (found : List ℕ → P) (size_of : P → ℕ) (f : P → Option ℕ → Act B) (fits : (xs : List ℕ) → size_of (found xs) ≤ length xs) (grows : (k : ℕ) (xs : List ℕ) → size_of (found (take k xs)) ≤ size_of (found xs))
    (settled : (ys xs : List ℕ) → take (size_of (found xs) + 1) ys ≡ take (size_of (found xs) + 1) xs → found ys ≡ found xs) (local : (x : P) → IsLocal (see_next >>= f x)) where
  abbrev behind : P → Act B
  behind x = see_next >>= f x

  abbrev passes : P → Act B
  passes x d s = behind x d (on (size_of x) s)

  passed_by_case : (d e : TestData) (s : State) → Extends d e → s.offset ≤ length d.bytes
      → (take (size_of (found (visible d s.offset)) + 1) (visible e s.offset) ≡ take (size_of (found (visible d s.offset)) + 1) (visible d s.offset))
      ⊎ ((next_byte d (s.offset + size_of (found (visible d s.offset))) ≡ Err looks.Read) × (length d.bytes < (s.offset + size_of (found (visible d s.offset))) + 1))
      → SameOrCut (length d.bytes) (passes (found (visible d s.offset)) d s) (passes (found (visible e s.offset)) e s)
  passed_by_case d e s x within (inl front) =
      let here : P = found (visible d s.offset) in
      let inside : s.offset + size_of here ≤ length d.bytes = visible_within d s.offset (size_of here) within (fits (visible d s.offset)) in
      instead (length d.bytes) (passes here d s) (passes here e s) (passes (found (visible e s.offset)) e s) (ap (λ y. passes y e s) (settled (visible e s.offset) (visible d s.offset) front)) ((local here).longer d e (on (size_of here) s) x inside)
  passed_by_case d e s x within (inr early) =
      let here : P = found (visible d s.offset) in
      let there : P = found (visible e s.offset) in
      let front : size_of here ≤ size_of there = omega (arith, grows (length (visible d s.offset)) (visible e s.offset), ap (λ xs. size_of (found xs)) (begins d e s.offset x within)) in
      cut_behind (length d.bytes) (size_of here) (size_of there) d e s (f here) (behind there) (local there) front early.0 early.1

  pub passing : IsLocal (λ d s. passes (found (visible d s.offset)) d s)
  passing = record {
    forward = λ d s. forward_past (size_of (found (visible d s.offset))) (behind (found (visible d s.offset))) d s (local (found (visible d s.offset)));
    inside = λ d s within.
        let here : P = found (visible d s.offset) in
        (local here).inside d (on (size_of here) s) (visible_within d s.offset (size_of here) within (fits (visible d s.offset)));
    longer = λ d e s x within. passed_by_case d e s x within (longer_visible d e s.offset (size_of (found (visible d s.offset))) x);
  }
