use Rattle.std.proofs.Common.{◌≡◌, ◌<◌, ◌^◌, take}
use Rattle.ctd_token.specs.Cut.{digits_value}
use Rattle.ctd_token.proofs.scan.digits_value.Given as goal

abbrev pub invariant-loop-b : goal.invariant-loop-b
invariant-loop-b l = record {
  small : l.value < 2 ^ 127;
  read : l.value ≡ digits_value (take l.b-index l.digits);
}
