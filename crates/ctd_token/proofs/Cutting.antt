-- The loop that cuts a text, by one token after another.
use Rattle.std.proofs.Common.{◌≡◌, ℕ, ◌+◌, ◌<◌, ◌≤◌, List, [], ◌∷◌, ◌++◌, length, drop, get_or, Err, false, refl, sym, ap, ◌∙◌, subst, append_assoc, append-nil, length-drop, drop-drop, inl, inr, arith}
use Rattle.std.specs.Prelude.{Option, None, Some, Ok, IfNone}
use Rattle.ctd_token.specs.declared.token.Token.{Token}
use Rattle.ctd_token.specs.declared.fault.LoadKind.{LoadKind}
use Rattle.ctd_token.specs.declared.fault.LoadFault.{LoadFault}
use Rattle.ctd_token.specs.declared.fault.TokenFault.{TokenFault}
use Rattle.ctd_token.specs.declared.fault.TokenFault.TheVariants.{Wrong, Memory}
use Rattle.ctd_token.specs.Cut.{skip_gap, token_at, next_token, place_at, Cuts, none, token, Faults, here, later}
use Rattle.ctd_token.specs.calls.Scanning.{wrong, Scans}
use Rattle.ctd_token.specs.inner.Scanning.{IsFaultAt}
use Rattle.ctd_token.specs.calls.Lexing.{Uncut, left, IsEnd, IsNext, HasNextFault, IsNextFault}

-- where the next token begins, behind blanks and comments
pub gap_end : (bytes : List ℕ) (at gap : ℕ) → gap ≤ length bytes → drop gap bytes ≡ skip_gap bytes → at + gap ≡ next_token at bytes
gap_end bytes at gap within skipped = omega (arith, within, ap length skipped, length-drop gap bytes)

-- how many bytes are left behind blanks and comments
length_left : (u : Uncut) (first : ℕ) → drop first u.text ≡ skip_gap (left u) → first < length u.text → 0 < length (skip_gap (left u))
length_left u first rest lt = omega (arith, lt, ap length rest, length-drop first u.text)

-- what a scan answers where the next token stands
pub next_fault : (u : Uncut) (first : ℕ) (f : TokenFault) (r : LoadFault) → first ≡ next_token u.at (left u) → drop first u.text ≡ skip_gap (left u)
    → first < length u.text → Scans (Err f) (token_at (drop first u.text)) → IsFaultAt u.text first f r → IsNextFault u r.kind r.place
next_fault u first (Wrong kind behind) r first_is rest lt found placed =
    let has : HasNextFault u kind (Some (place_at u.text (next_token u.at (left u) + behind))) = record { behind = behind; some = length_left u first rest lt; found = ap token_at (sym rest) ∙ found; place_is = refl } in
    subst (λ r. IsNextFault u r.kind r.place) (sym (placed ∙ ap (λ at. record { kind = kind; place = Some (place_at u.text (at + behind)) }) first_is)) (inl has)
next_fault u first Memory r first_is rest lt found placed = subst (λ r. IsNextFault u r.kind r.place) (sym placed) (inr (refl, refl))

-- what is cut of a text, and what is left of it: the text is cut or has a fault where that is so of what is left
pub record Cutting (text : List ℕ) (ts : List Token) (u : Uncut) : Type 0 where
  pub text_is : u.text ≡ text
  pub cuts : (us : List Token) → Cuts text u.at (left u) us → Cuts text 0 text (ts ++ us)
  pub faults : (kind : LoadKind) (p : ℕ) → Faults u.at (left u) kind p → Faults 0 text kind p

pub begin : (text : List ℕ) (u : Uncut) → u ≡ record { text = text; at = 0 } → Cutting text [] u
begin text u is = subst (Cutting text []) (sym is) (record { text_is = refl; cuts = λ us c. c; faults = λ kind p f. f })

-- one token more
pub more : (text : List ℕ) (ts : List Token) (t : Token) (u rest : Uncut) → Cutting text ts u → IsNext u t rest → Cutting text (ts ++ t ∷ []) rest
more text ts t u rest c next =
    let gap : List ℕ = skip_gap (left u) in
    let found : token_at gap ≡ Ok (t.kind, next.len) = ap token_at (sym next.start) ∙ next.found in
    let at : rest.at ≡ t.after = ap (λ r. r.at) next.rest_is in
    let end : rest.at ≡ next_token u.at (left u) + next.len = at ∙ next.after ∙ ap (λ k. k + next.len) next.first in
    let place : t.place ≡ place_at text t.first = next.place ∙ ap (λ l. place_at l t.first) c.text_is in
    let behind : left rest ≡ drop next.len gap =
    ap left next.rest_is ∙ ap (λ k. drop k u.text) next.after ∙ sym (drop-drop next.len t.first u.text) ∙ ap (drop next.len) next.start in
    record {
      text_is = ap (λ r. r.text) next.rest_is ∙ c.text_is;
      cuts = λ us cut.
          let rest_cut = subst (λ l. Cuts text t.after l us) behind (subst (λ k. Cuts text k (left rest) us) at cut) in
          subst (λ l. Cuts text 0 text l) (sym (append_assoc ts (t ∷ []) us)) (c.cuts (t ∷ us) (token found next.first next.after place rest_cut));
      faults = λ kind p f.
          let rest_fault = subst (λ l. Faults rest.at l kind p) behind f in
          c.faults kind p (later found (subst (λ k. Faults k (drop next.len gap) kind p) end rest_fault));
    }

pub finish : (text : List ℕ) (ts : List Token) (u : Uncut) → Cutting text ts u → IsEnd u → Cuts text 0 text ts
finish text ts u c end = subst (λ l. Cuts text 0 text l) (append-nil ts) (c.cuts [] (none end))

front : (bytes : List ℕ) → 0 < length bytes → bytes ≡ get_or bytes 0 0 ∷ drop 1 bytes
front [] some = absurd (omega (arith, some))
front (b ∷ bs) some = refl

-- the fault of the next token is the text's first
pub first_fault : (text : List ℕ) (ts : List Token) (u : Uncut) (kind : LoadKind) (behind : ℕ) → Cutting text ts u
    → 0 < length (skip_gap (left u)) → token_at (skip_gap (left u)) ≡ wrong kind behind → Faults 0 text kind (next_token u.at (left u) + behind)
first_fault text ts u kind behind c some found =
    let cell = front (skip_gap (left u)) some in
    c.faults kind _ (here cell (ap token_at (sym cell) ∙ found))

-- what holds where nothing comes
pub none_is : {A P : Type 0} (r : Option A) → ((x : A) → r ≡ Some x → ⊥) → IfNone r P → P
none_is None other p = p
none_is (Some x) other p = absurd (other x refl)
