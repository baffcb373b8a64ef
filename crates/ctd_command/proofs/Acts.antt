-- What is done one after the other.
use Rattle.std.proofs.Common.{◌≡◌, ℕ, Bool, true, false, refl, ap, sym, ◌∙◌, subst, Option, None, Result, Ok, Err, OnOk}
use Rattle.std.specs.Prelude.{⊤, if◌then◌else◌}
use Rattle.std.specs.Result.{IsErr, IsErrAnd}
use Rattle.ctd_source.specs.declared.source.Source.{Ghosts}
use Rattle.ctd_source.specs.declared.cursor.Cursor.{Cursor}
use Rattle.ctd_source.specs.declared.spot.LookFault.{LookFault}
use Rattle.ctd_source.specs.TestData.{TestData, look, first_of, is_byte}
use Rattle.ctd_source.specs.calls.Consistency.{IsConsistentWith}
use Rattle.ctd_source.specs.calls.SourceReads.{state_of, ReadsOn, MovesPast, GivesByte, PassesIfEqual, whether_byte}
use Rattle.ctd_source.specs.calls.Received.{AdvancesSuchThat}
use Rattle.ctd_source.proofs.AdvanceLemmas.{advances_so, advances_both, advances_nowhere, advances_looking, advances_moving}
use Rattle.ctd_store.specs.Store.{Bindings}
use Rattle.ctd_value.specs.Fault.{with_fault, fault_of_look}
use Rattle.ctd_value.specs.calls.Lending.{map_ok}
use Rattle.ctd_command.specs.Commands.{one_byte}
use Rattle.ctd_command.specs.declared.machine.Run.{Run}
use Rattle.ctd_outcome.specs.declared.reason.Reason.{Reason}
use Rattle.ctd_outcome.specs.declared.reason.Fault.{Fault}
use Rattle.ctd_command.specs.declared.failure.CommandFailure.{CommandFailure}
use Rattle.ctd_command.specs.declared.failure.Failure.TheVariants.{Rejected, Stopped, Memory}
use Rattle.ctd_command.specs.State.{State, Effect, Act, done, faulty, proceed, ◌>>=◌, return, reject, lift, evaluate, see_next, pass}
use Rattle.ctd_command.specs.calls.Performs.{Does, state, IsSound, Performs}
use Rattle.ctd_command.specs.inner.Performs.{Tells}

pub does_early : {A B : Type 0} (r : CommandFailure) (s : State) (e : Effect A) (k : A → State → Effect B) → Does {A = A} (Err r) s e → Does {A = B} (Err r) s (proceed e k)
does_early (Rejected reason) s e k is = ap (λ x. proceed x k) is
does_early (Stopped fault) s e k is = ap (λ x. proceed x k) is
does_early Memory s e k is = tt

-- what tells an answer does just that
pub does_lift : {A : Type 0} (r : Result A CommandFailure) (meant : Result A Fault) (s : State) → Tells r meant → Does r s (lift meant s)
does_lift (Ok x) meant s is = ap (λ m. lift m s) is
does_lift (Err (Rejected reason)) meant s is = absurd is
does_lift (Err (Stopped fault)) meant s is = ap (λ m. lift m s) is
does_lift (Err Memory) meant s is = tt

pub always : {A : Type 0} {P : Type 0} (r : Result A CommandFailure) → P → OnOk r P
always (Ok x) p = p
always (Err e) p = tt

does_map_ok : {A B : Type 0} (g : A → B) (r : Result A CommandFailure) (s : State) (e : Effect A) → Does r s e → Does (map_ok g r) s (proceed e (λ x t. done (g x) t))
does_map_ok g (Ok x) s e is = ap (λ y. proceed y (λ z t. done (g z) t)) is
does_map_ok g (Err failure) s e is = does_early failure s e (λ x t. done (g x) t) is

sound_map_ok : {A B : Type 0} (P : Type 0) (g : A → B) (r : Result A CommandFailure) → OnOk r P → OnOk (map_ok g r) P
sound_map_ok P g (Ok x) p = p
sound_map_ok P g (Err failure) p = tt

-- whether a byte is the one that is wanted has one answer; apart, since `cc` looks at all that a lemma is given
answer_is : (wanted : ℕ) (next : Option ℕ) (answer : Bool) → Ok answer ≡ whether_byte wanted (Ok next) → is_byte wanted next ≡ answer
answer_is wanted next answer is = cc

no_answer : (wanted : ℕ) (fault : LookFault) (answer : Bool) → Ok answer ≡ whether_byte wanted (Err fault) → ⊥
no_answer wanted fault answer is = cc

fault_is : (wanted : ℕ) (fault other : LookFault) → Err fault ≡ whether_byte wanted (Err other) → fault ≡ other
fault_is wanted fault other is = cc

no_fault : (wanted : ℕ) (fault : LookFault) (next : Option ℕ) → Err fault ≡ whether_byte wanted (Ok next) → ⊥
no_fault wanted fault next is = cc

module _ {R : Type 0} {G : Ghosts R} where
  -- an answer alone
  pub given : {A : Type 0} (a : Run R G) (x : A) → IsSound a → Performs a a (Ok x) (return x)
  given a x sound = record { sound = sound; goes = advances_so (advances_nowhere a.cursor) (λ d _ _. refl) }

  -- a failure alone
  pub rejecting : {A : Type 0} (a : Run R G) (reason : Reason) → Performs {A = A} a a (Err (Rejected reason)) (reject reason)
  rejecting a reason = record { sound = tt; goes = advances_so (advances_nowhere a.cursor) (λ d _ _. refl) }

  -- one thing and then the next
  pub and_then : {A B : Type 0} {a b c : Run R G} {x : A} {r : Result B CommandFailure} {m : Act A} (f : A → Act B) → Performs a b (Ok x) m → Performs b c r (f x) → Performs a c r (m >>= f)
  and_then {A = A} {B = B} {a = a} {b = b} {c = c} {x = x} {r = r} {m = m} f p q = record {
    sound = q.sound;
    goes = advances_so (advances_both p.goes q.goes) (λ d _ e. let P : Effect A → Type 0 = λ eff. Does r (state c) (proceed eff (λ y t. f y d t)) in subst P (sym e.0) e.1);
  }

  -- what does not go on
  pub early : {A B : Type 0} {a b : Run R G} {failure : CommandFailure} {m : Act A} (f : A → Act B) → Performs {A = A} a b (Err failure) m → Performs {A = B} a b (Err failure) (m >>= f)
  early {A = A} {B = B} {a = a} {b = b} {failure = failure} {m = m} f p = record {
    sound = tt;
    goes = advances_so p.goes (λ d _ e. does_early failure (state b) (m d (state a)) (λ y t. f y d t) e);
  }

  -- the same under another name of the act
  pub performs_as : {A : Type 0} {a b : Run R G} {r : Result A CommandFailure} {m n : Act A} → ((d : TestData) (s : State) → m d s ≡ n d s) → Performs a b r m → Performs a b r n
  performs_as {A = A} {a = a} {b = b} {r = r} {m = m} {n = n} same p = record {
    sound = p.sound;
    goes = advances_so p.goes (λ d _ e. let P : Effect A → Type 0 = λ x. Does r (state b) x in subst P (same d (state a)) e);
  }

  -- under its name at the state where it begins
  pub performs_at : {A : Type 0} {a b : Run R G} {r : Result A CommandFailure} {m n : Act A} → ((d : TestData) → m d (state a) ≡ n d (state a)) → Performs a b r m → Performs a b r n
  performs_at {A = A} {a = a} {b = b} {r = r} {m = m} {n = n} same p = record {
    sound = p.sound;
    goes = advances_so p.goes (λ d _ e. let P : Effect A → Type 0 = λ x. Does r (state b) x in subst P (same d) e);
  }

  -- and of the result
  pub answers_as : {A : Type 0} {a b : Run R G} {r q : Result A CommandFailure} {m : Act A} → q ≡ r → Performs a b r m → Performs a b q m
  answers_as {A = A} {a = a} {b = b} {r = r} {q = q} {m = m} same p = let P : Result A CommandFailure → Type 0 = λ x. Performs a b x m in subst P (sym same) p

  -- no memory was left, so nothing is said
  pub out_of_memory : {A : Type 0} {m : Act A} (a : Run R G) (q : Result A CommandFailure) → IsErr q × IsErrAnd q (λ e. e ≡ Memory) → Performs a a q m
  out_of_memory a (Ok x) is = let e : true ≡ false = sym is.0 in cc
  out_of_memory a (Err e) is = answers_as (ap Err is.1) (record { sound = tt; goes = advances_so (advances_nowhere a.cursor) (λ d _ _. tt) })

  -- what was done so far, and then what is left of it
  pub performs_after : {A : Type 0} {a b c : Run R G} {r : Result A CommandFailure} {m n : Act A} → AdvancesSuchThat a.cursor b.cursor (λ d. m d (state a) ≡ n d (state b)) → Performs b c r n → Performs a c r m
  performs_after {A = A} {c = c} {r = r} before p = record {
    sound = p.sound;
    goes = advances_so (advances_both before p.goes) (λ d _ e. let P : Effect A → Type 0 = λ x. Does r (state c) x in subst P (sym e.0) e.1);
  }

  -- what a fault of a look gives by `?`
  pub stopped_by : {A : Type 0} {a b : Run R G} {m : Act A} (fault : LookFault) (q : Result A CommandFailure) → IsErr q × IsErrAnd q (λ e. e ≡ Stopped (fault_of_look fault)) → AdvancesSuchThat a.cursor b.cursor (λ d. m d (state a) ≡ faulty (fault_of_look fault) b.cursor.spot.offset) → Performs a b q m
  stopped_by fault (Ok x) is goes = let e : true ≡ false = sym is.0 in cc
  stopped_by fault (Err e) is goes = answers_as (ap Err is.1) (record { sound = tt; goes = goes })

  -- what `?` gives
  pub early_by : {A B : Type 0} {a b : Run R G} {failure : CommandFailure} {m : Act A} (f : A → Act B) (q : Result B CommandFailure) → IsErr q × IsErrAnd q (λ e. e ≡ failure) → Performs {A = A} a b (Err failure) m → Performs {A = B} a b q (m >>= f)
  early_by f (Ok x) is p = let e : true ≡ false = sym is.0 in cc
  early_by f (Err e) is p = answers_as (ap Err is.1) (early f p)

  -- an answer that stands for something
  pub performs_map_ok : {A B : Type 0} {a b : Run R G} {r : Result A CommandFailure} {m : Act A} (g : A → B) → Performs a b r m → Performs a b (map_ok g r) (m >>= λ x. return (g x))
  performs_map_ok {A = A} {B = B} {a = a} {b = b} {r = r} {m = m} g p = record {
    sound = sound_map_ok (IsSound b) g r p.sound;
    goes = advances_so p.goes (λ d _ e. does_map_ok g r (state b) (m d (state a)) e);
  }

  -- what `?` gives, where the answer stands for something
  pub early_map_ok : {A B C : Type 0} {a b : Run R G} {failure : CommandFailure} {m : Act A} (g : B → C) (f : A → Act C) (q : Result B CommandFailure) → IsErr q × IsErrAnd q (λ e. e ≡ failure) → Performs {A = A} a b (Err failure) m → Performs {A = C} a b (map_ok g q) (m >>= f)
  early_map_ok g f (Ok x) is p = let e : true ≡ false = sym is.0 in cc
  early_map_ok g f (Err e) is p = answers_as (ap Err is.1) (early f p)

  -- a given answer under another name
  pub given_as : {A : Type 0} (a : Run R G) (x y : A) → x ≡ y → IsSound a → Performs a a (Ok x) (return y)
  given_as a x y same sound = answers_as (ap Ok same) (given a y sound)

  -- a value
  pub evaluated : {A : Type 0} (a : Run R G) (r : Result A CommandFailure) (f : Bindings → Result A Fault) → IsSound a → Tells r (f a.store) → Performs a a r (evaluate f)
  evaluated a r f sound is = record { sound = always r sound; goes = advances_so (advances_nowhere a.cursor) (λ d _ _. does_lift r (f a.store) (state a) is) }

  -- the same run over another cursor
  abbrev pub with_cursor : Run R G → Cursor R G → Run R G
  with_cursor a now = record { alloc = a.alloc; cursor = now; store = a.store; mode = a.mode }

  -- the next byte
  pub looked : (a : Run R G) (now : Cursor R G) (next : Option ℕ) → (r : ReadsOn a.cursor now) → now.fault ≡ None → ((d : TestData) → IsConsistentWith d (state_of now) → Ok next ≡ first_of (look d (state_of now).spot.offset 1))
      → Performs a (with_cursor a now) (Ok next) see_next
  looked a now next r sound answer = record {
    sound = sound;
    goes = advances_so (advances_looking a.cursor now (Ok next) r answer)
        (λ d _ e. ap (λ x. lift (with_fault fault_of_look x) (state a)) e ∙ ap (λ x. done next (record { offset = x.offset; store = a.store; mode = a.mode })) (sym r.spot));
  }

  -- a fault in its place
  pub looked_faulty : (a : Run R G) (now : Cursor R G) (fault : LookFault) (failure : CommandFailure) → (r : ReadsOn a.cursor now) → failure ≡ Stopped (fault_of_look fault) → ((d : TestData) → IsConsistentWith d (state_of now) → Err fault ≡ first_of (look d (state_of now).spot.offset 1))
      → Performs a (with_cursor a now) (Err failure) see_next
  looked_faulty a now fault failure r is answer =
      let b = with_cursor a now in
      answers_as (ap Err is) (record {
        sound = tt;
        goes = advances_so (advances_looking a.cursor now (Err fault) r answer)
            (λ d _ e. ap (λ x. lift (with_fault fault_of_look x) (state a)) e ∙ ap (λ x. faulty (fault_of_look fault) x.offset) (sym r.spot));
      })

  -- bytes that are passed
  pub passed : (n : ℕ) (a : Run R G) (now : Cursor R G) → IsSound a → MovesPast n a.cursor now → Performs a (with_cursor a now) (Ok tt) (pass n)
  passed n a now sound m = record {
    sound = m.fault ∙ sound;
    goes = advances_so (advances_moving n a.cursor now m) (λ d _ _. ap (λ p. done tt (record { offset = p; store = a.store; mode = a.mode })) (sym m.offset));
  }

  -- where the next byte is the one that is wanted, it is passed
  wanted_by : (wanted : ℕ) (reason : Reason) (a : Run R G) (seen now : Cursor R G) (next : Result (Option ℕ) LookFault) → IsSound a → GivesByte a.cursor seen next → Ok true ≡ whether_byte wanted next → MovesPast 1 seen now
      → Performs a (with_cursor a now) (Ok tt) (one_byte wanted reason)
  wanted_by wanted reason a seen now (Ok byte) sound looks is moves =
      let wanted_is : is_byte wanted byte ≡ true = answer_is wanted byte true is in
      and_then (λ next. if is_byte wanted next then pass 1 else reject reason) (looked a seen byte looks.reads looks.fault (looks.answer sound)) (rw wanted_is (passed 1 (with_cursor a seen) now looks.fault moves))
  wanted_by wanted reason a seen now (Err fault) sound looks is moves = absurd (no_answer wanted fault true is)

  pub wanted_passed : (wanted : ℕ) (reason : Reason) (a : Run R G) (now : Cursor R G) → IsSound a → PassesIfEqual wanted a.cursor now (Ok true) → Performs a (with_cursor a now) (Ok tt) (one_byte wanted reason)
  wanted_passed wanted reason a now sound p = wanted_by wanted reason a p.looked now p.next sound p.looks p.answer (p.moves refl)

  -- and where it is not, the data are rejected
  other_by : (wanted : ℕ) (reason : Reason) (a : Run R G) (seen : Cursor R G) (next : Result (Option ℕ) LookFault) → IsSound a → GivesByte a.cursor seen next → Ok false ≡ whether_byte wanted next
      → Performs {A = ⊤} a (with_cursor a seen) (Err (Rejected reason)) (one_byte wanted reason)
  other_by wanted reason a seen (Ok byte) sound looks is =
      let other : is_byte wanted byte ≡ false = answer_is wanted byte false is in
      and_then (λ next. if is_byte wanted next then pass 1 else reject reason) (looked a seen byte looks.reads looks.fault (looks.answer sound)) (rw other (rejecting (with_cursor a seen) reason))
  other_by wanted reason a seen (Err fault) sound looks is = absurd (no_answer wanted fault false is)

  pub other_rejected : (wanted : ℕ) (reason : Reason) (a : Run R G) (now : Cursor R G) → IsSound a → PassesIfEqual wanted a.cursor now (Ok false) → Performs {A = ⊤} a (with_cursor a now) (Err (Rejected reason)) (one_byte wanted reason)
  other_rejected wanted reason a now sound p =
      let P : Cursor R G → Type 0 = λ c. Performs {A = ⊤} a (with_cursor a c) (Err (Rejected reason)) (one_byte wanted reason) in
      subst P (sym (p.stays (λ e. cc))) (other_by wanted reason a p.looked p.next sound p.looks p.answer)

  -- a fault in its place
  unseen_by : (wanted : ℕ) (reason : Reason) (a : Run R G) (seen : Cursor R G) (fault : LookFault) (failure : CommandFailure) (next : Result (Option ℕ) LookFault) → IsSound a → failure ≡ Stopped (fault_of_look fault) → GivesByte a.cursor seen next → Err fault ≡ whether_byte wanted next
      → Performs {A = ⊤} a (with_cursor a seen) (Err failure) (one_byte wanted reason)
  unseen_by wanted reason a seen fault failure (Ok byte) sound stops looks is = absurd (no_fault wanted fault byte is)
  unseen_by wanted reason a seen fault failure (Err other) sound stops looks is =
      let same : fault ≡ other = fault_is wanted fault other is in
      early {B = ⊤} (λ next. if is_byte wanted next then pass 1 else reject reason) (looked_faulty a seen other failure looks.reads (stops ∙ ap (λ f. Stopped (fault_of_look f)) same) (looks.answer sound))

  pub byte_unseen : (wanted : ℕ) (reason : Reason) (a : Run R G) (now : Cursor R G) (fault : LookFault) (failure : CommandFailure) → IsSound a → failure ≡ Stopped (fault_of_look fault) → PassesIfEqual wanted a.cursor now (Err fault)
      → Performs {A = ⊤} a (with_cursor a now) (Err failure) (one_byte wanted reason)
  byte_unseen wanted reason a now fault failure sound stops p =
      let P : Cursor R G → Type 0 = λ c. Performs {A = ⊤} a (with_cursor a c) (Err failure) (one_byte wanted reason) in
      subst P (sym (p.stays (λ e. cc))) (unseen_by wanted reason a p.looked fault failure p.next sound stops p.looks p.answer)
