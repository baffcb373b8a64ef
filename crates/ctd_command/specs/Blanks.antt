-- The commands that skip blanks: SPACE, NEWLINE and EOF; and the start of the data.
use Rattle.std.specs.Prelude.{ℕ, Bool, false, ◌||◌, nat_eq, ⊤, if◌then◌else◌}
use Rattle.std.specs.List.{prefix_len}
use Rattle.std.specs.Option.{option_map_or}
use Rattle.ctd_program.specs.declared.mode.Mode.{Mode}
use Rattle.ctd_program.specs.declared.mode.Mode.TheVariants.{Exact, BlanksOk}
use Rattle.ctd_outcome.specs.declared.reason.Reason.TheVariants.{ExpectedSpace, ExpectedNewline}
use Rattle.ctd_command.specs.State.{Act, ◌>>=◌, return, reject, see_next, pass_longest}
use Rattle.ctd_command.specs.Commands.{one_byte, eof}

-- a blank is a space, a tab, a vertical tab, a form feed or a carriage return
abbrev pub is_blank : ℕ → Bool
is_blank b = nat_eq b 32 || nat_eq b 9 || nat_eq b 11 || nat_eq b 12 || nat_eq b 13

-- all blanks that come next, up to another byte or the end
abbrev pub skip_blanks : Act ⊤
skip_blanks = pass_longest (prefix_len is_blank) (λ _. return tt)

-- one blank or more, as many as there are
abbrev pub some_blanks : Act ⊤
some_blanks = do
  next ← see_next
  if option_map_or is_blank next false then skip_blanks else reject ExpectedSpace

-- a line feed with the blanks around it
abbrev pub newline_between_blanks : Act ⊤
newline_between_blanks = do
  _ ← skip_blanks
  _ ← one_byte 10 ExpectedNewline
  skip_blanks

-- the end of the data after blanks
abbrev pub end_behind_blanks : Act ⊤
end_behind_blanks = do
  _ ← skip_blanks
  eof

-- one of two, by the mode
abbrev pub by_mode : {A : Type 0} → Mode → (in_exact in_blanks_ok : A) → A
by_mode Exact in_exact in_blanks_ok = in_exact
by_mode BlanksOk in_exact in_blanks_ok = in_blanks_ok

-- SPACE in the mode of the run
abbrev pub space : Act ⊤
space d s = by_mode s.mode (one_byte 32 ExpectedSpace) some_blanks d s

-- NEWLINE in the mode of the run
abbrev pub newline : Act ⊤
newline d s = by_mode s.mode (one_byte 10 ExpectedNewline) newline_between_blanks d s

-- EOF, and the end of a program, in the mode of the run
abbrev pub end : Act ⊤
end d s = by_mode s.mode eof end_behind_blanks d s

-- what is done before the first command, in the mode of the run
abbrev pub first_skip : Act ⊤
first_skip d s = by_mode s.mode (return tt) skip_blanks d s
