-- The literals of a program, as the code lists them.
use Rattle.std.specs.Prelude.{◌≡◌, List, map, Some}
use Rattle.std.specs.Borrow.{Bor}
use Rattle.ctd_token.specs.declared.fault.LoadFault.{LoadFault}
use Rattle.ctd_token.specs.declared.fault.LoadKind.TheVariants.{BadPattern}
use Rattle.ctd_program.specs.declared.tree.PatternLiteral.{PatternLiteral}
use Rattle.ctd_program.specs.declared.tree.RegexArguments.{RegexArguments}
use Rattle.ctd_pattern.specs.declared.pattern.PatternFault.{PatternFault}
use Rattle.ctd_loader.specs.Loading.{IsUnbuilt}

-- the literals of some REGEX
abbrev pub literals_at : List (Bor RegexArguments) → List PatternLiteral
literals_at found = map (λ x. x.now.literal) found

-- of a literal no pattern is built, and the fault has its place
pub record IsBadLiteral (literal : PatternLiteral) (f : LoadFault) : Type 0 where
  pub why : PatternFault
  pub unbuilt : IsUnbuilt literal.bytes why
  pub fault : f ≡ record { kind = BadPattern; place = Some literal.place }
