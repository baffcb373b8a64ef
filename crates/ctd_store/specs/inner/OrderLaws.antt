-- The orders of values, of their lists and of keys are total, and what compares alike is one.
use Rattle.ctd_store.specs.declared.value.Value.TheVariants as values
use Rattle.std.proofs.Common.{◌≡◌, true, ℕ, ℤ, pos, List, [], refl, ap, subst}
use Rattle.std.specs.declared.cmp.Ordering.{Ordering}
use Rattle.std.specs.declared.cmp.Ordering.TheVariants.{Less, Equal, Greater}
use Rattle.std.specs.Ordering.{nat_cmp, int_cmp, ordering_then, eq_by_cmp}
use Rattle.std.specs.Cmp.{IsTotalOrder, IsEquivalence, then_total, on_total, nat_cmp_total, int_cmp_total, eq_by_cmp_equiv}
use Rattle.std.specs.Cmp.Lexicographic.{lists_total, nat_list_cmp_total}
use Rattle.std.specs.FinMap.{slice_cmp-IsAntisymmetric}
use Rattle.std.proofs.lemmas.Map.Lookups.{CmpEqualImpliesEq, exact_signed, exact_bytes, exact_pairs}
use Rattle.ctd_store.specs.declared.value.Value.{Value}
use Rattle.std.proofs.lemmas.Map.Views.{tells_apart}
use Rattle.ctd_store.specs.Order.{bytes_cmp, same_value, value_cmp, values_cmp}
use Rattle.ctd_store.specs.calls.Hashing.{hash_writes}
use Rattle.ctd_store.specs.calls.Store.{key_cmp}

-- integers before strings
kind : Value → ℕ
kind (values.Int n) = 0
kind (values.Text bytes) = 1

-- the number of a value, 0 for a string
number : Value → ℤ
number (values.Int n) = n
number (values.Text bytes) = pos 0

-- the bytes of a value, none for a number
bytes_of : Value → List ℕ
bytes_of (values.Int n) = []
bytes_of (values.Text bytes) = bytes

-- values by their kind, then by their number, then by their bytes
by_parts : Value → Value → Ordering
by_parts v w = ordering_then (nat_cmp (kind v) (kind w)) (ordering_then (int_cmp (number v) (number w)) (bytes_cmp (bytes_of v) (bytes_of w)))

-- an order is not changed by an equal one after it
then_nothing : (o : Ordering) → ordering_then o Equal ≡ o
then_nothing Less = refl
then_nothing Equal = refl
then_nothing Greater = refl

-- the order of values is that by their parts
by_parts_is : (v w : Value) → by_parts v w ≡ value_cmp v w
unfolding kind number bytes_of by_parts
by_parts_is (values.Int a) (values.Int b) = then_nothing (int_cmp a b)
by_parts_is (values.Int a) (values.Text b) = refl
by_parts_is (values.Text a) (values.Int b) = refl
by_parts_is (values.Text a) (values.Text b) = refl

-- the order by parts is total
by_parts_total : IsTotalOrder by_parts
unfolding by_parts
by_parts_total = then_total (on_total kind nat_cmp_total) (then_total (on_total number int_cmp_total) (on_total bytes_of nat_list_cmp_total))

-- the order of values is total
pub value_total : IsTotalOrder value_cmp
value_total = subst IsTotalOrder (λ i v w. by_parts_is v w i) by_parts_total

-- the order of lists of values is total
pub values_total : IsTotalOrder values_cmp
values_total = lists_total value_total

-- values that compare alike are one
pub exact_values : CmpEqualImpliesEq value_cmp
exact_values (values.Int a) (values.Int b) h = ap values.Int (exact_signed a b h)
exact_values (values.Int a) (values.Text b) h = cc
exact_values (values.Text a) (values.Int b) h = cc
exact_values (values.Text a) (values.Text b) h = ap values.Text (exact_bytes a b h)

-- and feed a hasher the same
pub same_writes : (v w : Value) → same_value v w ≡ true → hash_writes v ≡ hash_writes w
same_writes v w h = ap hash_writes (tells_apart exact_values v w h)

-- lists of values that compare alike are one
pub exact_lists : CmpEqualImpliesEq values_cmp
exact_lists = slice_cmp-IsAntisymmetric exact_values

-- to compare alike is an equivalence of values
pub value_equiv : IsEquivalence (eq_by_cmp value_cmp)
value_equiv = eq_by_cmp_equiv value_total

-- to compare alike is an equivalence of lists of values
pub values_equiv : IsEquivalence (eq_by_cmp values_cmp)
values_equiv = eq_by_cmp_equiv values_total

-- the order of keys is total
pub key_total : IsTotalOrder key_cmp
key_total = then_total (on_total (λ k. k.name) nat_list_cmp_total) (on_total (λ k. k.indices) values_total)

-- keys that compare alike are one
pub exact_keys : CmpEqualImpliesEq key_cmp
exact_keys a b h = ap (λ (p : List ℕ × List Value). record { name = p.0; indices = p.1 })
    (exact_pairs bytes_cmp values_cmp exact_bytes exact_lists (a.name, a.indices) (b.name, b.indices) h)

-- to compare alike is an equivalence of keys
pub key_equiv : IsEquivalence (eq_by_cmp key_cmp)
key_equiv = eq_by_cmp_equiv key_total
