-- What opening a program does, by what opening its file does.
use Rattle.std.specs.Prelude.{ℕ, List, Option, None, Some}

-- the file of this name was opened, and this source reads it from its start
pub record OpensAs {F R S : Type 0} (opens : F → List ℕ → Option R → F → Type 0) (starts : R → S → Type 0) (old : F) (name : List ℕ) (program : S) (new : F) : Type 0 where
  pub file : R
  pub opened : opens old name (Some file) new
  pub starts_on : starts file program

-- a program of this name was opened as this source; or its file could not be opened
abbrev pub OpensProgram : {F R S : Type 0} → (F → List ℕ → Option R → F → Type 0) → (R → S → Type 0) → F → List ℕ → Option S → F → Type 0
OpensProgram opens starts old name (Some program) new = OpensAs opens starts old name program new
OpensProgram opens starts old name None new = opens old name None new

-- a file of this name was asked for
pub record AsksFor {F R : Type 0} (opens : F → List ℕ → Option R → F → Type 0) (old : F) (name : List ℕ) (new : F) : Type 0 where
  pub file : Option R
  pub opened : opens old name file new

-- a program of this name was asked for, whatever came of it; where its source was made, it was handed back
pub data WasAskedFor {F S : Type 0} (opens : F → List ℕ → Option S → F → Type 0) (closes : F → S → F → Type 0) (asks : F → List ℕ → F → Type 0) (old : F) (name : List ℕ) (new : F) : Type 0 where
  not_read : asks old name new → WasAskedFor opens closes asks old name new
  handed_back : (program after : S) (between : F) → opens old name (Some program) between → closes between after new → WasAskedFor opens closes asks old name new
