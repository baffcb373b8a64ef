-- Tests with two equal sides.
use Rattle.std.specs.Prelude.{◌≡◌, ◌⊎◌}
use Rattle.ctd_program.specs.Tree
use Rattle.ctd_program.specs.Tree.{TestTree}

-- a comparison in a test has one tree on both sides
abbrev pub ComparesOneTree : TestTree → Type 0
ComparesOneTree (Tree.or a b) = ComparesOneTree a ⊎ ComparesOneTree b
ComparesOneTree (Tree.and a b) = ComparesOneTree a ⊎ ComparesOneTree b
ComparesOneTree (Tree.not t) = ComparesOneTree t
ComparesOneTree (Tree.compare by a b) = a ≡ b
ComparesOneTree (Tree.matches e) = ⊥
ComparesOneTree Tree.at_end = ⊥
ComparesOneTree (Tree.unique names) = ⊥
ComparesOneTree (Tree.in_array e name) = ⊥
