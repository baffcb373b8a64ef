-- Blocks of indices, and what is known of the elements in them.
use Rattle.std.specs.Prelude.{◌≡◌, ◌⊎◌, ℕ, List, [], ◌∷◌, Option, Some, None, ℤ, ◌≤ℤ◌, ◌<ℤ◌}
use Rattle.std.specs.Borrow.{Bor}
use Rattle.ctd_store.specs.declared.value.Value.{Value}
use Rattle.ctd_store.specs.declared.value.Value.TheVariants as values
use Rattle.ctd_store.specs.Store.{Bindings, value_at}
use Rattle.ctd_states.specs.calls.States.{at_key, name_at}
use Rattle.ctd_elements.specs.declared.fact.Bound.{Bound}
use Rattle.ctd_elements.specs.declared.fact.Interval.{Interval}
use Rattle.ctd_elements.specs.declared.fact.Side.{Side}
use Rattle.ctd_elements.specs.declared.fact.Side.TheVariants as sides
use Rattle.ctd_elements.specs.declared.fact.Block.{Block}
use Rattle.ctd_elements.specs.declared.fact.Cell.{Cell}
use Rattle.ctd_elements.specs.declared.fact.Index.{Index}
use Rattle.ctd_elements.specs.declared.fact.Fact.{Fact}
use Rattle.ctd_elements.specs.declared.fact.Fact.TheVariants as facts
use Rattle.ctd_elements.specs.calls.Bounds.{AreUnequal, IsAt, IsBound, IsOrdered}

-- a number lies in an interval: its ends have numbers, and it is between them
pub record LiesIn (names : List (Bor (List ℕ))) (h : Bindings) (s : Interval) (k : ℤ) : Type 0 where
  pub low : ℤ
  pub high : ℤ
  pub is_low : IsBound names h s.low low
  pub is_high : IsBound names h s.high high
  pub above : low ≤ℤ k
  pub below : k <ℤ high

-- an index is on a side
abbrev pub IsOn : List (Bor (List ℕ)) → Bindings → Side → Value → Type 0
IsOn names h (sides.Between s) (values.Int k) = LiesIn names h s k
IsOn names h (sides.Between s) (values.Text bytes) = ⊥
IsOn names h (sides.At index) v = IsAt names h index v

-- so are indices, each on its side
abbrev pub AreOn : List (Bor (List ℕ)) → Bindings → List Side → List Value → Type 0
AreOn names h [] [] = Unit {0}
AreOn names h [] (i ∷ is) = ⊥
AreOn names h (s ∷ ss) [] = ⊥
AreOn names h (s ∷ ss) (i ∷ is) = IsOn names h s i × AreOn names h ss is

-- the sides of a block
abbrev pub more_sides : Option Side → List Side
more_sides None = []
more_sides (Some s) = s ∷ []

-- the sides of a block, one or two
abbrev pub sides_of : Block → List Side
sides_of b = b.first ∷ more_sides b.second

-- indices lie in a block
abbrev pub AreIn : List (Bor (List ℕ)) → Bindings → Block → List Value → Type 0
AreIn names h b is = AreOn names h (sides_of b) is

-- the block of one cell
abbrev pub second_at : Option Index → Option Side
second_at None = None
second_at (Some index) = Some (sides.At index)

-- the block that is one cell
abbrev pub block_at : Cell → Block
block_at p = record { first = sides.At p.first; second = second_at p.second }

-- a value is a number of at most a bound, if there is one; nothing is said where the bound has no number
abbrev pub IsUpTo : List (Bor (List ℕ)) → Bindings → Option Bound → Value → Type 0
IsUpTo names h None v = Unit {0}
IsUpTo names h (Some m) (values.Int x) = (z : ℤ) → IsBound names h m z → x ≤ℤ z
IsUpTo names h (Some m) (values.Text bytes) = ⊥

-- an element has a value, which is a number of at most a bound, if there is one
pub record HasValue (names : List (Bor (List ℕ))) (h : Bindings) (array : ℕ) (indices : List Value) (most : Option Bound) : Type 0 where
  pub value : Value
  pub is : value_at h (at_key (name_at names array) indices) ≡ Some value
  pub up_to : IsUpTo names h most value

-- an element has a value
abbrev pub Has : List (Bor (List ℕ)) → Bindings → ℕ → List Value → Type 0
Has names h array is = (v : Value) × (value_at h (at_key (name_at names array) is) ≡ Some v)

-- indices lie in a block, if there is one
abbrev pub AreExcepted : List (Bor (List ℕ)) → Bindings → Option Block → List Value → Type 0
AreExcepted names h None is = ⊥
AreExcepted names h (Some b) is = AreIn names h b is

-- a fact is so of some variables
abbrev pub Stands : List (Bor (List ℕ)) → Bindings → Fact → Type 0
Stands names h (facts.AtMost a b) = IsOrdered names h a b
Stands names h (facts.Unequal a b) = AreUnequal names h a b
Stands names h (facts.Filled f) = (is : List Value) → AreIn names h f.block is → HasValue names h f.array is f.most
Stands names h (facts.KeysWithin k) = (i v : Value) (is : List Value) → value_at h (at_key (name_at names k.array) (i ∷ is)) ≡ Some v → Has names h k.other (i ∷ is) ⊎ AreExcepted names h k.except (i ∷ is)
Stands names h (facts.ValuesAreKeys k) = (i v : Value) (is : List Value) → value_at h (at_key (name_at names k.array) (i ∷ is)) ≡ Some v → Has names h k.other (v ∷ []) ⊎ AreExcepted names h k.except (i ∷ is)

-- all facts are so
abbrev pub AllStand : List (Bor (List ℕ)) → Bindings → List Fact → Type 0
AllStand names h [] = Unit {0}
AllStand names h (f ∷ fs) = Stands names h f × AllStand names h fs
