-- How places of a program and its faults are written.
use Rattle.std.specs.Prelude.{ℕ, List, [], ◌++◌, codes}
use Rattle.std.specs.Option.{option_map_or}
use Rattle.std.specs.Fmt.{decimal}
use Rattle.ctd_token.specs.declared.text.Place.{Place}
use Rattle.ctd_token.specs.declared.fault.LoadKind.{LoadKind}
use Rattle.ctd_token.specs.declared.fault.LoadKind.TheVariants as kind
use Rattle.ctd_token.specs.declared.fault.LoadFault.{LoadFault}

-- a place of the program
abbrev pub place_text : Place → List ℕ
place_text p = codes "program line " ++ decimal p.line ++ codes " column " ++ decimal p.column

-- why a program is not read
abbrev pub kind_text : LoadKind → List ℕ
kind_text kind.ProgramTooLong = codes "program too long"
kind_text kind.BadByte = codes "unexpected byte"
kind_text kind.UnfinishedString = codes "unfinished string"
kind_text kind.BadOctal = codes "octal escape above 255"
kind_text kind.NumberTooLarge = codes "number too large"
kind_text kind.NotInProfile = codes "not in this profile"
kind_text kind.TooDeep = codes "nested too deeply"
kind_text kind.Syntax = codes "syntax error"
kind_text kind.BadPattern = codes "bad pattern"
kind_text kind.Read = codes "cannot read program"
kind_text kind.Memory = codes "out of memory"

-- a fault with its place in front, where it has one
abbrev pub load_fault_text : LoadFault → List ℕ
load_fault_text f = option_map_or (λ p. place_text p ++ codes ": ") f.place [] ++ kind_text f.kind
