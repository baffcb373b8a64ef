-- How many blocks of a program are open at once.
use Rattle.std.specs.Prelude.{ℕ, ◌+◌, max}
use Rattle.ctd_program.specs.Tree.{CommandTree, Separator, CommandList, space, newline, eof, int, string, regex, assert, set, unset, loop, choice, nothing, between, done, then}

-- how many blocks are open at a command at most
abbrev mutual
  -- how many blocks are open at most inside a command
  pub blocks : CommandTree → ℕ
  blocks (space place) = 0
  blocks (newline place) = 0
  blocks (eof place) = 0
  blocks (int place low high target) = 0
  blocks (string place e) = 0
  blocks (regex place literal target) = 0
  blocks (assert place t) = 0
  blocks (set place assignments) = 0
  blocks (unset place names) = 0
  blocks (loop place guard counter sep body) = 1 + max (separator_blocks sep) (list_blocks body)
  blocks (choice place t a b) = 1 + max (list_blocks a) (list_blocks b)

  -- how many blocks a separator opens inside one another
  pub separator_blocks : Separator → ℕ
  separator_blocks nothing = 0
  separator_blocks (between c) = blocks c

  -- the greatest of a list
  pub list_blocks : CommandList → ℕ
  list_blocks done = 0
  list_blocks (then c rest) = max (blocks c) (list_blocks rest)
