-- Each text is cut or has a fault.
use Rattle.std.proofs.Common.{◌≡◌, ℕ, zero, suc, ◌+◌, ◌<◌, ◌≤◌, Bool, true, false, cond, nat_eq, ◌⊎◌, inl, inr, List, [], ◌∷◌, length, drop, Ok, Err, refl, sym, ap, ◌∙◌, length-drop, arith}
use Rattle.ctd_token.specs.declared.token.Token.{Token}
use Rattle.ctd_token.specs.declared.fault.LoadKind.{LoadKind}
use Rattle.ctd_token.specs.Cut.{TokenOrFault, is_whitespace, skip_gap, skip_comment, token_at, place_at, next_token, Cuts, none, token, Faults, here, later}
use Rattle.ctd_token.proofs.TokenFaults.{token_some}

gap_if : (blank comment : Bool) (xs ys bs : List ℕ) (b : ℕ) → length xs ≤ length bs → length ys ≤ length bs → length (cond blank xs (cond comment ys (b ∷ bs))) ≤ length (b ∷ bs)
gap_if true comment xs ys bs b le le' = omega (arith, le)
gap_if false true xs ys bs b le le' = omega (arith, le')
gap_if false false xs ys bs b le le' = omega arith

comment_if : (newline : Bool) (xs ys bs : List ℕ) (b : ℕ) → length xs ≤ length bs → length ys ≤ length bs → length (cond newline xs ys) ≤ length (b ∷ bs)
comment_if true xs ys bs b le le' = omega (arith, le)
comment_if false xs ys bs b le le' = omega (arith, le')

mutual
  -- what stands behind a gap is no longer than the bytes
  gap_le : (bs : List ℕ) → length (skip_gap bs) ≤ length bs
  gap_le [] = omega arith
  gap_le (b ∷ bs) = gap_if (is_whitespace b) (nat_eq b 35) (skip_gap bs) (skip_comment bs) bs b (gap_le bs) (comment_le bs)

  comment_le : (bs : List ℕ) → length (skip_comment bs) ≤ length bs
  comment_le [] = omega arith
  comment_le (b ∷ bs) = comment_if (nat_eq b 10) (skip_gap bs) (skip_comment bs) bs b (gap_le bs) (comment_le bs)

-- the bytes of a text from an offset on are cut, or have a fault
abbrev Ends : List ℕ → ℕ → List ℕ → Type 0
Ends text at bytes = ((ts : List Token) × Cuts text at bytes ts) ⊎ ((kind : LoadKind) × (offset : ℕ) × Faults at bytes kind offset)

by_found : (text : List ℕ) (at : ℕ) (bytes : List ℕ) (b : ℕ) (bs : List ℕ) (found : TokenOrFault) → skip_gap bytes ≡ b ∷ bs → token_at (skip_gap bytes) ≡ found → ((n : ℕ) → 0 < n → Ends text (next_token at bytes + n) (drop n (skip_gap bytes))) → Ends text at bytes
by_found text at bytes b bs (Err (kind, n)) gap is rest = inr (kind, next_token at bytes + n, here gap (ap token_at (sym gap) ∙ is))
by_found text at bytes b bs (Ok (t, n)) gap is rest = elim (rest n (token_some (skip_gap bytes) t n is)) [
  | inl w ↦ inl (record { kind = t; first = next_token at bytes; after = next_token at bytes + n; place = place_at text (next_token at bytes) } ∷ w.0, token is refl refl refl w.1)
  | inr w ↦ inr (w.0, w.1, later is w.2)
]

by_gap : (text : List ℕ) (at : ℕ) (bytes gap : List ℕ) → skip_gap bytes ≡ gap → ((n : ℕ) → 0 < n → 0 < length (skip_gap bytes) → Ends text (next_token at bytes + n) (drop n (skip_gap bytes))) → Ends text at bytes
by_gap text at bytes [] gap rest = inl ([], none gap)
by_gap text at bytes (b ∷ bs) gap rest =
    let some : 0 < length (skip_gap bytes) = omega (arith, ap length gap) in
    by_found text at bytes b bs (token_at (skip_gap bytes)) gap refl (λ n long. rest n long some)

-- by the number of bytes that are left at most
ends : (left : ℕ) (text : List ℕ) (at : ℕ) (bytes : List ℕ) → length bytes ≤ left → Ends text at bytes
ends zero text at bytes le = by_gap text at bytes (skip_gap bytes) refl (λ n long some. absurd (omega (arith, some, le, gap_le bytes)))
ends (suc left) text at bytes le = by_gap text at bytes (skip_gap bytes) refl (λ n long some. ends left text (next_token at bytes + n) (drop n (skip_gap bytes)) (omega (arith, long, some, le, gap_le bytes, length-drop n (skip_gap bytes))))

pub decided : (text : List ℕ) → Ends text 0 text
decided text = ends (length text) text 0 text (omega arith)
