-- What is the same of two stores in which names without indices have the same values.
use Rattle.ctd_element_changes.proofs.Common.{AreExcepted, AreIn, AreOn, Bindings, Block, Bor, Bound, Index, IsAt, IsBound, IsNumber, IsOn, IsUpTo, List, None, Option, Side, Some, Term, Value, [], alone, more_sides, name_at, nothing_more, refl, sym, ℕ, ℤ, ◌∙◌, ◌∷◌, ◌≡◌, ◌≢◌}
use Rattle.ctd_element_changes.specs.inner.Free.{BlockIsFree, BoundIsFree, ExceptionIsFree, IndexIsFree, SecondIsFree, SideIsFree}
use Rattle.ctd_elements.specs.declared.fact.Index.TheVariants as indices
use Rattle.ctd_elements.specs.declared.fact.Side.TheVariants as sides
use Rattle.ctd_store.specs.declared.value.Value.TheVariants as values

-- where names without indices have one value in both
abbrev pub AreSame : List (Bor (List ℕ)) → Bindings → Bindings → Type 0
AreSame names g h = (j : ℕ) → alone names g j ≡ alone names h j

pub number_to : (names : List (Bor (List ℕ))) (g h : Bindings) (o : Option Term) (c z : ℤ) → AreSame names g h → IsNumber names g o c z → IsNumber names h o c z
number_to names g h None c z same is = is
number_to names g h (Some t) c z same is = (is.0, sym (same t.name) ∙ is.1, is.2)

pub index_to : (names : List (Bor (List ℕ))) (g h : Bindings) (index : Index) (v : Value) → AreSame names g h → IsAt names g index v → IsAt names h index v
index_to names g h (indices.Number b) (values.Int k) same at = number_to names g h b.term b.add k same at
index_to names g h (indices.Number b) (values.Text bytes) same at = at
index_to names g h (indices.Value i) v same at = sym (same i) ∙ at
index_to names g h (indices.Text i) v same at = at

pub side_to : (names : List (Bor (List ℕ))) (g h : Bindings) (side : Side) (v : Value) → AreSame names g h → IsOn names g side v → IsOn names h side v
side_to names g h (sides.Between s) (values.Text bytes) same on = on
side_to names g h (sides.Between s) (values.Int k) same on = record { low = on.low; high = on.high; is_low = number_to names g h s.low.term s.low.add on.low same on.is_low; is_high = number_to names g h s.high.term s.high.add on.high same on.is_high; above = on.above; below = on.below }
side_to names g h (sides.At index) v same on = index_to names g h index v same on

pub sides_to : (names : List (Bor (List ℕ))) (g h : Bindings) (ss : List Side) (is : List Value) → AreSame names g h → AreOn names g ss is → AreOn names h ss is
sides_to names g h [] [] same on = on
sides_to names g h [] (i ∷ is) same on = on
sides_to names g h (s ∷ ss) [] same on = on
sides_to names g h (s ∷ ss) (i ∷ is) same on = (side_to names g h s i same on.0, sides_to names g h ss is same on.1)

pub excepted_to : (names : List (Bor (List ℕ))) (g h : Bindings) (o : Option Block) (is : List Value) → AreSame names g h → AreExcepted names g o is → AreExcepted names h o is
excepted_to names g h None is same on = on
excepted_to names g h (Some b) is same on = sides_to names g h (b.first ∷ more_sides b.second) is same on

pub most_to : (names : List (Bor (List ℕ))) (g h : Bindings) (o : Option Bound) (v : Value) → AreSame names h g → IsUpTo names g o v → IsUpTo names h o v
most_to names g h None v same up = tt
most_to names g h (Some m) (values.Text bytes) same up = up
most_to names g h (Some m) (values.Int x) same up = λ z is. up z (number_to names h g m.term m.add z same is)

-- the same of what does not speak of a name
abbrev pub AreSameBut : List (Bor (List ℕ)) → List ℕ → Bindings → Bindings → Type 0
AreSameBut names name g h = (j : ℕ) → name_at names j ≢ name → alone names g j ≡ alone names h j

free_term : (names : List (Bor (List ℕ))) (name : List ℕ) (g h : Bindings) (o : Option Term) (c z : ℤ) → AreSameBut names name g h → ((t : Term) → o ≡ Some t → name_at names t.name ≢ name) → IsNumber names g o c z → IsNumber names h o c z
free_term names name g h None c z same free is = is
free_term names name g h (Some t) c z same free is = (is.0, sym (same t.name (free t refl)) ∙ is.1, is.2)

pub free_bound : (names : List (Bor (List ℕ))) (name : List ℕ) (g h : Bindings) (b : Bound) (z : ℤ) → AreSameBut names name g h → BoundIsFree names name b → IsBound names g b z → IsBound names h b z
free_bound names name g h b z same free is = free_term names name g h b.term b.add z same free is

free_index : (names : List (Bor (List ℕ))) (name : List ℕ) (g h : Bindings) (index : Index) (v : Value) → AreSameBut names name g h → IndexIsFree names name index → IsAt names g index v → IsAt names h index v
free_index names name g h (indices.Number b) (values.Int k) same free at = free_bound names name g h b k same free at
free_index names name g h (indices.Number b) (values.Text bytes) same free at = at
free_index names name g h (indices.Value i) v same free at = sym (same i free) ∙ at
free_index names name g h (indices.Text i) v same free at = at

free_side : (names : List (Bor (List ℕ))) (name : List ℕ) (g h : Bindings) (side : Side) (v : Value) → AreSameBut names name g h → SideIsFree names name side → IsOn names g side v → IsOn names h side v
free_side names name g h (sides.Between s) (values.Text bytes) same free on = on
free_side names name g h (sides.Between s) (values.Int k) same free on = record { low = on.low; high = on.high; is_low = free_bound names name g h s.low on.low same free.0 on.is_low; is_high = free_bound names name g h s.high on.high same free.1 on.is_high; above = on.above; below = on.below }
free_side names name g h (sides.At index) v same free on = free_index names name g h index v same free on

free_second : (names : List (Bor (List ℕ))) (name : List ℕ) (g h : Bindings) (o : Option Side) (is : List Value) → AreSameBut names name g h → SecondIsFree names name o → AreOn names g (more_sides o) is → AreOn names h (more_sides o) is
free_second names name g h None is same free on = nothing_more names g h is on
free_second names name g h (Some s) [] same free on = absurd on
free_second names name g h (Some s) (i ∷ is) same free on = (free_side names name g h s i same free on.0, nothing_more names g h is on.1)

pub free_block : (names : List (Bor (List ℕ))) (name : List ℕ) (g h : Bindings) (b : Block) (is : List Value) → AreSameBut names name g h → BlockIsFree names name b → AreIn names g b is → AreIn names h b is
free_block names name g h b [] same free on = absurd on
free_block names name g h b (i ∷ is) same free on = (free_side names name g h b.first i same free.0 on.0, free_second names name g h b.second is same free.1 on.1)

pub free_exception : (names : List (Bor (List ℕ))) (name : List ℕ) (g h : Bindings) (o : Option Block) (is : List Value) → AreSameBut names name g h → ExceptionIsFree names name o → AreExcepted names g o is → AreExcepted names h o is
free_exception names name g h None is same free on = on
free_exception names name g h (Some b) is same free on = free_block names name g h b is same free on
