-- Small expressions and tests, and what they give.
use Rattle.ctd_program.specs.declared.preset.PresetValue.TheVariants as literals
use Rattle.ctd_program.specs.Tree
use Rattle.ctd_store.specs.declared.value.Value.TheVariants as values
use Rattle.std.specs.Prelude.{◌≡◌, refl, ℤ, [], ◌∷◌, pos, negsuc, codes, true, false, Some, None, Ok, Err}
use Rattle.ctd_source.specs.TestData.{TestData}
use Rattle.ctd_program.specs.declared.preset.Preset.{Preset}
use Rattle.ctd_program.specs.declared.tree.Compare.TheVariants.{Equal, Less}
use Rattle.ctd_program.specs.Tree.{ExprTree, TestTree}
use Rattle.ctd_store.specs.Store.{Key, Bindings, initial, assign, unset, value_at, values_of}
use Rattle.ctd_outcome.specs.declared.reason.Fault.TheVariants.{Overflow, Exponent, DivisionByZero, WrongType, Count, Read}
use Rattle.ctd_value.specs.Val.{val, key, count}
use Rattle.ctd_value.specs.Truth.{truth}

-- no variable has a value
abbrev pub nothing : Bindings
nothing = initial []

-- a numeral
abbrev pub num : ℤ → ExprTree
num n = Tree.numeral n

-- data of one byte
abbrev pub one_byte : TestData
one_byte = record { bytes = codes "b"; broken = false; limit = 10 }

-- data without a byte
abbrev pub no_bytes : TestData
no_bytes = record { bytes = []; broken = false; limit = 10 }

-- data whose first read fails
abbrev pub failing : TestData
failing = record { bytes = []; broken = true; limit = 10 }

-- 7%-2
pub remainder_of_negative : val (Tree.remainder (num (pos 7)) (Tree.minus (num (pos 2)))) nothing ≡ Ok (values.Int (pos 1))
remainder_of_negative = refl

-- -2^2==-4 && 7/-2==-3 && -7%2==-1 && 2^3^2==512
pub precedence : truth (Tree.and (Tree.and (Tree.and
    (Tree.compare Equal (Tree.minus (Tree.power (num (pos 2)) (num (pos 2)))) (Tree.minus (num (pos 4))))
    (Tree.compare Equal (Tree.quotient (num (pos 7)) (Tree.minus (num (pos 2)))) (Tree.minus (num (pos 3)))))
    (Tree.compare Equal (Tree.remainder (Tree.minus (num (pos 7))) (num (pos 2))) (Tree.minus (num (pos 1)))))
    (Tree.compare Equal (Tree.power (num (pos 2)) (Tree.power (num (pos 3)) (num (pos 2)))) (num (pos 512))))
    nothing no_bytes 0 ≡ Ok true
precedence = refl

-- -170141183460469231731687303715884105727-1
abbrev pub least : ExprTree
least = Tree.difference (Tree.minus (num (pos 170141183460469231731687303715884105727))) (num (pos 1))

-- the least value leaves 0 when it is divided by -1
pub least_by_minus_one : val (Tree.remainder least (Tree.minus (num (pos 1)))) nothing ≡ Ok (values.Int (pos 0))
least_by_minus_one = refl

-- but its quotient is no value
pub least_over_minus_one : val (Tree.quotient least (Tree.minus (num (pos 1)))) nothing ≡ Err Overflow
least_over_minus_one = refl

-- 0^0, (-1)^18446744073709551615 and (-2)^127
pub powers : truth (Tree.and (Tree.and
    (Tree.compare Equal (Tree.power (num (pos 0)) (num (pos 0))) (num (pos 1)))
    (Tree.compare Equal (Tree.power (Tree.minus (num (pos 1))) (num (pos 18446744073709551615))) (Tree.minus (num (pos 1)))))
    (Tree.compare Less (Tree.power (Tree.minus (num (pos 2))) (num (pos 127))) (num (pos 0))))
    nothing no_bytes 0 ≡ Ok true
powers = refl

-- an exponent has 64 bits
pub exponent_too_large : val (Tree.power (num (pos 1)) (num (pos 18446744073709551616))) nothing ≡ Err Exponent
exponent_too_large = refl

-- 2^127 is no value
pub power_too_large : val (Tree.power (num (pos 2)) (num (pos 127))) nothing ≡ Err Overflow
power_too_large = refl

-- 1==1 || 1/0==1, and the other way round
abbrev pub one_is_one : TestTree
one_is_one = Tree.compare Equal (num (pos 1)) (num (pos 1))

-- a test with a division by zero
abbrev pub by_zero : TestTree
by_zero = Tree.compare Equal (Tree.quotient (num (pos 1)) (num (pos 0))) (num (pos 1))

-- || asks for its right side only where its left side is false
pub short_cut : truth (Tree.or one_is_one by_zero) nothing no_bytes 0 ≡ Ok true
short_cut = refl

-- a fault of the left side is a fault of the whole
pub no_short_cut : truth (Tree.or by_zero one_is_one) nothing no_bytes 0 ≡ Err DivisionByZero
no_short_cut = refl

-- a number and a string are not compared
pub apart : truth (Tree.compare Equal (num (pos 1)) (Tree.text (codes "1"))) nothing no_bytes 0 ≡ Err WrongType
apart = refl

-- a pin stays, whatever is assigned or unset
pub pin_stays : value_at (unset (assign (initial (record { name = codes "n"; indices = []; value = literals.Int (pos 5) } ∷ [])) (record { name = codes "n"; indices = [] }) (values.Int (pos 9))) (codes "n")) (record { name = codes "n"; indices = [] }) ≡ Some (values.Int (pos 5))
pin_stays = refl

-- an element that is pinned stays, and no other element is pinned with it
abbrev pub a_preset : Preset
a_preset = record { name = codes "a"; indices = literals.Int (pos 1) ∷ []; value = literals.Int (pos 5) }

-- the element of a at an index
abbrev pub element : ℤ → Key
element n = record { name = codes "a"; indices = values.Int n ∷ [] }

-- two elements that were set, the first of which is a preset
abbrev pub set_elements : Bindings
set_elements = assign (assign (initial (a_preset ∷ [])) (element (pos 1)) (values.Int (pos 9))) (element (pos 2)) (values.Int (pos 9))

-- the preset keeps its value
pub element_stays : value_at set_elements (element (pos 1)) ≡ Some (values.Int (pos 5))
element_stays = refl

-- the other has the value that was set
pub other_element : value_at set_elements (element (pos 2)) ≡ Some (values.Int (pos 9))
other_element = refl

-- and is among the values of its name, also once that is unset
pub element_is_left : values_of (unset set_elements (codes "a")) (codes "a") ≡ ((values.Int (pos 1) ∷ [], values.Int (pos 5)) ∷ [])
element_is_left = refl

-- the last preset of a key counts
pub last_of_element : value_at (initial (a_preset ∷ record { name = codes "a"; indices = literals.Text (codes "1") ∷ []; value = literals.Int (pos 7) } ∷ record a_preset { value = literals.Int (pos 6) } ∷ [])) (element (pos 1)) ≡ Some (values.Int (pos 6))
last_of_element = refl

-- of two presets of one variable the last counts
pub last_counts : value_at (initial (record { name = codes "n"; indices = []; value = literals.Int (negsuc 2) } ∷ record { name = codes "n"; indices = []; value = literals.Int (pos 4) } ∷ [])) (record { name = codes "n"; indices = [] }) ≡ Some (values.Int (pos 4))
last_counts = refl

-- one entry of a, and none once a is unset
abbrev pub one_entry : Bindings
one_entry = assign nothing (record { name = codes "a"; indices = values.Int (pos 1) ∷ [] }) (values.Text (codes "x"))

-- the entries of a, where one element was set
pub entries_of_one : values_of one_entry (codes "a") ≡ ((values.Int (pos 1) ∷ [], values.Text (codes "x")) ∷ [])
entries_of_one = refl

-- after UNSET the element has no value
pub unset_one : value_at (unset one_entry (codes "a")) (record { name = codes "a"; indices = values.Int (pos 1) ∷ [] }) ≡ None
unset_one = refl

-- b alone stays once a is unset
abbrev pub two_names : Bindings
two_names = assign (assign (assign nothing (record { name = codes "a"; indices = [] }) (values.Int (pos 7))) (record { name = codes "b"; indices = [] }) (values.Int (pos 8))) (record { name = codes "a"; indices = values.Int (pos 1) ∷ [] }) (values.Int (pos 9))

-- UNSET takes all of a name, and leaves other names alone
pub unset_all : unset two_names (codes "a") ≡ assign nothing (record { name = codes "b"; indices = [] }) (values.Int (pos 8))
unset_all = refl

-- a pin and what is assigned beside it, in the order of the index lists
pub beside_a_pin : values_of (assign (initial (record { name = codes "n"; indices = []; value = literals.Int (pos 5) } ∷ [])) (record { name = codes "n"; indices = values.Int (pos 1) ∷ [] }) (values.Int (pos 6))) (codes "n")
    ≡ (([], values.Int (pos 5)) ∷ (values.Int (pos 1) ∷ [], values.Int (pos 6)) ∷ [])
beside_a_pin = refl

-- a[1+1]
pub key_of_sum : key (record { name = codes "a"; indices = Tree.some (Tree.sum (num (pos 1)) (num (pos 1))) Tree.none }) nothing ≡ Ok (record { name = codes "a"; indices = values.Int (pos 2) ∷ [] })
key_of_sum = refl

-- the count 3
pub count_three : count (num (pos 3)) nothing ≡ Ok 3
count_three = refl

-- a count is not negative
pub count_negative : count (Tree.minus (num (pos 1))) nothing ≡ Err Count
count_negative = refl

-- a count is a number
pub count_text : count (Tree.text (codes "x")) nothing ≡ Err WrongType
count_text = refl

-- MATCH("ab") before b, at the end, and where a read fails
pub match_b : truth (Tree.matches (Tree.text (codes "ab"))) nothing one_byte 0 ≡ Ok true
match_b = refl

-- MATCH is false at the end of the data
pub match_at_end : truth (Tree.matches (Tree.text (codes "ab"))) nothing no_bytes 0 ≡ Ok false
match_at_end = refl

-- MATCH has the fault of the look where the read fails
pub match_failing : truth (Tree.matches (Tree.text (codes "ab"))) nothing failing 0 ≡ Err Read
match_failing = refl

-- the look is not asked where the first part is false
pub unasked : truth (Tree.and (Tree.compare Equal (num (pos 1)) (num (pos 2))) Tree.at_end) nothing failing 0 ≡ Ok false
unasked = refl

-- a count has 64 bits
pub count_too_large : count (num (pos 18446744073709551616)) nothing ≡ Err Count
count_too_large = refl
