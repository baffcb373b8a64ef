-- What scanning for one token answers.
use Rattle.std.specs.Prelude.{◌≡◌, ◌≤◌, ℕ, Result, Ok, Err}
use Rattle.ctd_token.specs.declared.token.TokenKind.{TokenKind}
use Rattle.ctd_token.specs.declared.fault.TokenFault.{TokenFault}
use Rattle.ctd_token.specs.declared.fault.TokenFault.TheVariants.{Wrong, Memory}
use Rattle.ctd_token.specs.declared.fault.LoadKind.{LoadKind}
use Rattle.ctd_token.specs.Cut.{TokenOrFault}

-- a fault this many bytes after the first
abbrev pub wrong : LoadKind → ℕ → TokenOrFault
wrong kind behind = Err (kind, behind)

-- the token or the fault that is found, unless no memory was left
abbrev pub Scans : Result (TokenKind × ℕ) TokenFault → TokenOrFault → Type 0
Scans (Ok t) found = found ≡ Ok t
Scans (Err (Wrong kind behind)) found = found ≡ wrong kind behind
Scans (Err Memory) found = Unit {0}

-- a fault is within so many bytes
abbrev pub FaultWithin : TokenFault → ℕ → Type 0
FaultWithin (Wrong kind behind) n = behind ≤ n
FaultWithin Memory n = Unit {0}
