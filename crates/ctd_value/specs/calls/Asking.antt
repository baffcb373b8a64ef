-- Whether a test comes to ask for the next byte.
use Rattle.ctd_program.specs.Tree
use Rattle.std.specs.Prelude.{ℕ, Bool, true, false, not, ◌&&◌, ◌||◌, is_ok, Result, Ok, Err}
use Rattle.ctd_source.specs.TestData.{TestData}
use Rattle.ctd_program.specs.Tree.{ExprTree, TestTree}
use Rattle.ctd_store.specs.Store.{Bindings}
use Rattle.ctd_outcome.specs.declared.reason.Fault.{Fault}
use Rattle.ctd_value.specs.Truth.{truth}
use Rattle.ctd_value.specs.Val.{text_of}

-- whether a test is known to be true, or to be false
abbrev pub is_answer : Bool → Result Bool Fault → Bool
is_answer true (Ok b) = b
is_answer false (Ok b) = not b
is_answer wanted (Err fault) = false

-- whether its evaluation, from left to right, reaches an ISEOF or the byte of a MATCH
abbrev pub asks : TestTree → Bindings → TestData → ℕ → Bool
asks (Tree.or s t) h d p = asks s h d p || (is_answer false (truth s h d p) && asks t h d p)
asks (Tree.and s t) h d p = asks s h d p || (is_answer true (truth s h d p) && asks t h d p)
asks (Tree.not t) h d p = asks t h d p
asks (Tree.matches e) h d p = is_ok (text_of e h)
asks Tree.at_end h d p = true
asks (Tree.compare by a b) h d p = false
asks (Tree.unique names) h d p = false
asks (Tree.in_array e name) h d p = false

-- a string as written
abbrev pub is_text : ExprTree → Bool
is_text (Tree.text bytes) = true
is_text e = false

-- ISEOF, or MATCH of a string as written
abbrev pub is_of_byte : TestTree → Bool
is_of_byte Tree.at_end = true
is_of_byte (Tree.matches e) = is_text e
is_of_byte t = false

-- a test that the next byte alone decides, where there is one: one of these, or its negation
abbrev pub is_decided_by_byte : TestTree → Bool
is_decided_by_byte (Tree.not t) = is_of_byte t
is_decided_by_byte t = is_of_byte t
