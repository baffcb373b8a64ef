-- A text is cut in one way and has one first fault, and it is not cut where it has one.
use Rattle.std.proofs.Common.{◌≡◌, ℕ, ◌+◌, List, [], ◌∷◌, drop, Ok, false, refl, sym, ap, ◌∙◌, subst}
use Rattle.ctd_token.specs.declared.token.Token.{Token}
use Rattle.ctd_token.specs.declared.token.TokenKind.{TokenKind}
use Rattle.ctd_token.specs.declared.fault.LoadKind.{LoadKind}
use Rattle.ctd_token.specs.declared.fault.LoadKind.TheVariants.{BadByte}
use Rattle.ctd_token.specs.Cut.{TokenOrFault, skip_gap, token_at, place_at, next_token, Cuts, none, token, Faults, here, later}
use Rattle.ctd_token.specs.calls.Scanning.{wrong}

same_token : (x y : TokenKind) (n m : ℕ) (found : TokenOrFault) → found ≡ Ok (x, n) → found ≡ Ok (y, m) → (x ≡ y) × (n ≡ m)
same_token x y n m found e f =
    let pair : (x, n) ≡ (y, m) = cc in
    let first : TokenKind × ℕ → TokenKind = λ q. q.0 in
    let second : TokenKind × ℕ → ℕ = λ q. q.1 in
    (ap first pair, ap second pair)

same_wrong : (x y : LoadKind) (n m : ℕ) (found : TokenOrFault) → found ≡ wrong x n → found ≡ wrong y m → (x ≡ y) × (n ≡ m)
same_wrong x y n m found e f =
    let pair : (x, n) ≡ (y, m) = cc in
    let first : LoadKind × ℕ → LoadKind = λ q. q.0 in
    let second : LoadKind × ℕ → ℕ = λ q. q.1 in
    (ap first pair, ap second pair)

no_token : (bytes : List ℕ) (x : TokenKind × ℕ) → skip_gap bytes ≡ [] → token_at (skip_gap bytes) ≡ Ok x → ⊥
no_token bytes x e f = let g : wrong BadByte 0 ≡ Ok x = sym (ap token_at e) ∙ f in cc

no_both : (x : TokenKind × ℕ) (kind : LoadKind) (n : ℕ) (found : TokenOrFault) → found ≡ Ok x → found ≡ wrong kind n → ⊥
no_both x kind n found e f = cc

pub same_cut : (text : List ℕ) (at : ℕ) (bytes : List ℕ) (a b : List Token) → Cuts text at bytes a → Cuts text at bytes b → a ≡ b
same_cut text at bytes a b (none e) (none f) = refl
same_cut text at bytes a b (none e) (token f g h p r) = absurd (no_token bytes _ e f)
same_cut text at bytes a b (token e f g p r) (none h) = absurd (no_token bytes _ h e)
same_cut text at bytes a b (token {n} {t} {ts} e f g p r) (token {n = m} {t = u} {ts = us} e' f' g' p' r') =
    let same = same_token t.kind u.kind n m (token_at (skip_gap bytes)) e e' in
    let first : t.first ≡ u.first = f ∙ sym f' in
    let after : t.after ≡ u.after = g ∙ (λ i. first i + same.1 i) ∙ sym g' in
    let place : t.place ≡ u.place = p ∙ ap (place_at text) first ∙ sym p' in
    let tail = same_cut text t.after (drop n (skip_gap bytes)) ts us r (subst (λ k. Cuts text k (drop n (skip_gap bytes)) us) (sym after) (subst (λ k. Cuts text u.after (drop k (skip_gap bytes)) us) (sym same.1) r')) in
    λ i. record { kind = same.0 i; first = first i; after = after i; place = place i } ∷ tail i

pub no_cut : (text : List ℕ) (at offset : ℕ) (bytes : List ℕ) (a : List Token) (kind : LoadKind) → Faults at bytes kind offset → Cuts text at bytes a → ⊥
no_cut text at offset bytes a kind (here {b} {bs} e f) (none h) = let g : b ∷ bs ≡ [] = sym e ∙ h in cc
no_cut text at offset bytes a kind (here {b} {n} {bs} e f) (token h i j p r) = no_both _ kind n (token_at (b ∷ bs)) (ap token_at (sym e) ∙ h) f
no_cut text at offset bytes a kind (later e f) (none h) = no_token bytes _ h e
no_cut text at offset bytes a kind (later {n} {t} e f) (token {n = m} {t = u} {ts = us} h i j p r) =
    let same = same_token t u.kind n m (token_at (skip_gap bytes)) e h in
    let after : next_token at bytes + n ≡ u.after = ap (λ k. k + n) (sym i) ∙ ap (λ k. u.first + k) same.1 ∙ sym j in
    no_cut text (next_token at bytes + n) offset (drop n (skip_gap bytes)) us kind f (subst (λ k. Cuts text k (drop n (skip_gap bytes)) us) (sym after) (subst (λ k. Cuts text u.after (drop k (skip_gap bytes)) us) (sym same.1) r))

pub same_fault : (at p q : ℕ) (bytes : List ℕ) (kind other : LoadKind) → Faults at bytes kind p → Faults at bytes other q → (kind ≡ other) × (p ≡ q)
same_fault at p q bytes kind other (here {b} {n} {bs} e f) (here {b = c} {n = m} {bs = cs} e' f') =
    let same = same_wrong kind other n m (token_at (b ∷ bs)) f (ap token_at (sym e ∙ e') ∙ f') in
    (same.0, ap (λ k. next_token at bytes + k) same.1)
same_fault at p q bytes kind other (here {b} {n} {bs} e f) (later e' f') = absurd (no_both _ kind n (token_at (b ∷ bs)) (ap token_at (sym e) ∙ e') f)
same_fault at p q bytes kind other (later e f) (here {b} {n} {bs} e' f') = absurd (no_both _ other n (token_at (b ∷ bs)) (ap token_at (sym e') ∙ e) f')
same_fault at p q bytes kind other (later {n} {t} e f) (later {n = m} {t = u} e' f') =
    let same = same_token t u n m (token_at (skip_gap bytes)) e e' in
    same_fault (next_token at bytes + n) p q (drop n (skip_gap bytes)) kind other f (subst (λ k. Faults (next_token at bytes + k) (drop k (skip_gap bytes)) other q) (sym same.1) f')
