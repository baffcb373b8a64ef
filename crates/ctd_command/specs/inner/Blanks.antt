-- The commands that skip blanks, by the mode.
use Rattle.std.specs.Prelude.{ℕ, Bool, false, Option, ⊤}
use Rattle.std.specs.Option.{option_map_or}
use Rattle.ctd_program.specs.declared.mode.Mode.{Mode}
use Rattle.ctd_outcome.specs.declared.reason.Reason.TheVariants.{ExpectedSpace, ExpectedNewline}
use Rattle.ctd_command.specs.State.{Act, return}
use Rattle.ctd_command.specs.Commands.{one_byte, eof}
use Rattle.ctd_command.specs.Blanks.{by_mode, is_blank, end_behind_blanks, newline_between_blanks, skip_blanks, some_blanks}

-- whether a blank comes next
abbrev pub blank_next : Option ℕ → Bool
blank_next next = option_map_or is_blank next false

-- what SPACE does in each mode
abbrev pub space_in : Mode → Act ⊤
space_in m = by_mode m (one_byte 32 ExpectedSpace) some_blanks

-- what NEWLINE does in each mode
abbrev pub newline_in : Mode → Act ⊤
newline_in m = by_mode m (one_byte 10 ExpectedNewline) newline_between_blanks

-- what EOF, and the end of a program, does in each mode
abbrev pub end_in : Mode → Act ⊤
end_in m = by_mode m eof end_behind_blanks

-- what is done before the first command in each mode
abbrev pub start_in : Mode → Act ⊤
start_in m = by_mode m (return tt) skip_blanks
