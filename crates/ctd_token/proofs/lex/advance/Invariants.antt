use Rattle.std.proofs.Common.{◌≡◌, ◌≤◌, ◌-◌}
use Rattle.ctd_token.specs.Cut.{place_at}
use Rattle.ctd_token.proofs.lex.advance.Given as goal

abbrev pub invariant-loop-n : goal.invariant-loop-n
invariant-loop-n l = record {
  here : l.place ≡ place_at l.text l.n;
  within : l.n ≤ l.to;
}

abbrev pub decreases-loop-n : goal.decreases-loop-n
decreases-loop-n l = l.to - l.n
