-- What a contract sees of the bytes that a cursor holds.
use Rattle.std.specs.Prelude.{ℕ, List}

-- the bytes, from the next one on, and how many have to be moved before they lie in one piece
pub record Holding : Type 0 where
  pub items : List ℕ
  pub to_gather : ℕ
