-- What each simple command does.
use Rattle.std.specs.Prelude.{ℕ, Bool, is_none, ⊤, List, [], ◌∷◌, fold, ℤ, Option, Some, None, Result, Ok, Err, if◌then◌else◌}
use Rattle.ctd_source.specs.TestData.{is_byte}
use Rattle.ctd_program.specs.Tree.{ExprTree, VarTree, TestTree}
use Rattle.ctd_store.specs.declared.value.Value.{Value}
use Rattle.ctd_store.specs.declared.value.Value.TheVariants as values
use Rattle.ctd_store.specs.Store.{Key, assign, unset}
use Rattle.ctd_value.specs.Truth.{truth}
use Rattle.ctd_value.specs.Val.{val, key, number_of, text_of}
use Rattle.ctd_outcome.specs.declared.reason.Reason.{Reason}
use Rattle.ctd_outcome.specs.declared.reason.Reason.TheVariants.{ExpectedEof, StringMismatch, AssertFailed}
use Rattle.ctd_command.specs.Integer.{prefix_len_of, judge, is_minus, digits_of}
use Rattle.ctd_command.specs.State.{Act, done, ◌>>=◌, return, reject, pass, lift, evaluate, see_next, pass_longest}

-- this byte, and else the reason
abbrev pub one_byte : ℕ → Reason → Act ⊤
one_byte c reason = do
  next ← see_next
  if is_byte c next then pass 1 else reject reason

-- the end of the data
abbrev pub eof : Act ⊤
eof = do
  next ← see_next
  if is_none next then return tt else reject ExpectedEof

-- a key has the value from now on
abbrev pub assign_key : Key → Value → Act ⊤
assign_key k value d s = done tt (record { offset = s.offset; store = assign s.store k value; mode = s.mode })

-- the indices of a variable are evaluated, and it gets the value
abbrev pub set_to : VarTree → Value → Act ⊤
set_to v value = do
  k ← evaluate (key v)
  assign_key k value

-- a target, where there is one, gets the value
abbrev pub keep : Option VarTree → Value → Act ⊤
keep None value = return tt
keep (Some v) value = set_to v value

-- a judgement decides
abbrev pub decide : Result ℤ Reason → Act ℤ
decide (Ok z) = return z
decide (Err reason) = reject reason

-- an integer in an interval: the bytes of its form are passed, up to a byte that does not belong to it or the end, and they are judged
abbrev pub integer : ℤ → ℤ → Act ℤ
integer least most = pass_longest prefix_len_of (λ rest. decide (judge least most (is_minus rest) (digits_of rest)))

-- both bounds, then the integer, then its target
abbrev pub int : ExprTree → ExprTree → Option VarTree → Act ⊤
int low high target = do
  least ← evaluate (number_of low)
  most ← evaluate (number_of high)
  z ← integer least most
  keep target (values.Int z)

-- just these bytes, one after the other
abbrev pub match_bytes : List ℕ → Act ⊤
match_bytes [] = return tt
match_bytes (b ∷ rest) = do
  _ ← one_byte b StringMismatch
  match_bytes rest

-- the value, which has to be a string, and then its bytes
abbrev pub string : ExprTree → Act ⊤
string e = evaluate (text_of e) >>= match_bytes

-- a test's answer
abbrev pub answer : TestTree → Act Bool
answer t d s = lift (truth t s.store d s.offset) s

-- a test that is false rejects the data
abbrev pub assert : TestTree → Act ⊤
assert t = do
  b ← answer t
  if b then return tt else reject AssertFailed

-- a value, then the indices of the variable that gets it
abbrev pub give_value : VarTree × ExprTree → Act ⊤
give_value a = do
  value ← evaluate (val a.1)
  set_to a.0 value

-- one assignment after the other
abbrev pub set : List (VarTree × ExprTree) → Act ⊤
set [] = return tt
set (a ∷ rest) = do
  _ ← give_value a
  set rest

-- each name loses all that was assigned to it
abbrev pub unset_all : List (List ℕ) → Act ⊤
unset_all names d s = done tt (record { offset = s.offset; store = fold unset s.store names; mode = s.mode })
