-- Where a run stands, and what is done to that.
use Rattle.std.specs.Prelude.{ℕ, ◌+◌, ⊤, List, Option, Result, Ok, Err}
use Rattle.ctd_source.specs.declared.limits.TheConstants.{WINDOW}
use Rattle.ctd_source.specs.TestData.{TestData, next_byte, look, visible}
use Rattle.ctd_store.specs.Store.{Bindings}
use Rattle.ctd_value.specs.Fault.{with_fault, fault_of_look}
use Rattle.ctd_program.specs.declared.mode.Mode.{Mode}
use Rattle.ctd_outcome.specs.declared.reason.Reason.{Reason}
use Rattle.ctd_outcome.specs.declared.reason.Fault.{Fault}

-- the offset of the next byte, the variables, and how blanks are matched, which nothing changes
pub record State : Type 0 where
  pub offset : ℕ
  pub store : Bindings
  pub mode : Mode

-- what was done gave an answer and left a state; or the data are rejected, or a fault stops the run, once this many bytes are consumed
pub data Effect (A : Type 0) : Type 0 where
  done : (answer : A) (after : State) → Effect A
  rejected : (reason : Reason) (consumed : ℕ) → Effect A
  faulty : (fault : Fault) (consumed : ℕ) → Effect A

-- what is done to a state, over some data, for an answer
abbrev pub Act : Type 0 → Type 0
Act A = TestData → State → Effect A

-- with the answer and the state that were left go on
abbrev pub proceed : {A B : Type 0} → Effect A → (A → State → Effect B) → Effect B
proceed (done answer after) next = next answer after
proceed (rejected reason consumed) next = rejected reason consumed
proceed (faulty fault consumed) next = faulty fault consumed

-- one after the other
infixl 10 ◌>>=◌
abbrev pub ◌>>=◌ : {A B : Type 0} → Act A → (A → Act B) → Act B
m >>= f = λ d s. proceed (m d s) (λ x t. f x d t)

-- this answer, and nothing is done
abbrev pub return : {A : Type 0} → A → Act A
return x d s = done x s

-- the data do not match
abbrev pub reject : {A : Type 0} → Reason → Act A
reject reason d s = rejected reason s.offset

-- a fault stops the run
abbrev pub stop : {A : Type 0} → Fault → Act A
stop fault d s = faulty fault s.offset

-- so many bytes are passed
abbrev pub pass : ℕ → Act ⊤
pass n d s = done tt (record { offset = s.offset + n; store = s.store; mode = s.mode })

-- an answer, or a fault that stops the run at this state
abbrev pub lift : {A : Type 0} → Result A Fault → State → Effect A
lift (Ok x) s = done x s
lift (Err fault) s = faulty fault s.offset

-- a value of the variables, or its fault
abbrev pub evaluate : {A : Type 0} → (Bindings → Result A Fault) → Act A
evaluate f d s = lift (f s.store) s

-- the next byte, or none at the end
abbrev pub see_next : Act (Option ℕ)
see_next d s = lift (with_fault fault_of_look (next_byte d s.offset)) s

-- the bytes to come that are visible: up to the end, the limit or a failed read
abbrev pub see_visible : Act (List ℕ)
see_visible d s = done (visible d s.offset) s

-- consumes the longest prefix of a form, then peeks at the byte after it; goes on with the bytes that were visible
abbrev pub pass_longest : {A : Type 0} → (List ℕ → ℕ) → (List ℕ → Act A) → Act A
pass_longest prefix_len next = do
  rest ← see_visible
  _ ← pass (prefix_len rest)
  _ ← see_next
  next rest

-- the window: as many of the bytes to come as it has, or all of them
abbrev pub see_window : Act (List ℕ)
see_window d s = lift (with_fault fault_of_look (look d s.offset WINDOW)) s
