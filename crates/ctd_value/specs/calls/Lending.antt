-- What a call lends or makes, and what is meant.
use Rattle.std.specs.Prelude.{Result, Ok, Err}

-- the same result, of what its value stands for
abbrev pub map_ok : {A B E : Type 0} → (A → B) → Result A E → Result B E
map_ok f (Ok x) = Ok (f x)
map_ok f (Err e) = Err e
