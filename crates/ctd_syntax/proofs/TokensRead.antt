-- The loop that reads the tokens of a text, by one after another.
use Rattle.std.proofs.Common.{◌≡◌, ℕ, ◌-◌, ◌≤◌, List, [], ◌∷◌, ◌++◌, length, take, drop, Ok, refl, sym, ap, ap₂, ◌∙◌, arith}
use Rattle.std.proofs.lemmas.List.{map-append}
use Rattle.ctd_token.specs.declared.limits.TheConstants.{PROGRAM_LIMIT}
use Rattle.ctd_token.specs.declared.token.Token.{Token}
use Rattle.ctd_token.specs.calls.Lexing.{Uncut, IsEnd, IsNext}
use Rattle.ctd_token.specs.declared.token.TokenKind.TheVariants as tokens
use Rattle.ctd_token.specs.Cut.{token_at}
use Rattle.ctd_token.proofs.Longest.{string_again}
use Rattle.ctd_token.proofs.Cutting as cutting
use Rattle.ctd_token.proofs.Cutting.{Cutting}
use Rattle.ctd_syntax.specs.inner.Front.{AreLexemes, IsSpelled, string_found, string_of}
use Rattle.ctd_syntax.specs.Lexeme.{Lexeme, lexeme_of}
use Rattle.ctd_syntax.specs.Reading.{lexemes}
use Rattle.ctd_syntax.specs.inner.Batches.{IsNextSeen}

-- what is seen of the tokens so far
pub record HasRead (text : List ℕ) (seen : List Lexeme) (u : Uncut) : Type 0 where
  pub tokens : List Token
  pub cut : Cutting text tokens u
  pub same : lexemes text tokens ≡ seen

pub begin : (text : List ℕ) (u : Uncut) → u ≡ record { text = text; at = 0 } → HasRead text [] u
begin text u is = record { tokens = []; cut = cutting.begin text u is; same = refl }

-- the bytes of a string token spell its string
pub spelled : (text : List ℕ) (u : Uncut) (t : Token) (rest : Uncut) → u.text ≡ text → IsNext u t rest → IsSpelled text t
spelled text u t rest is next bytes kind =
    let found : token_at (drop t.first text) ≡ Ok (tokens.Text bytes, next.len) = ap (λ l. token_at (drop t.first l)) (sym is) ∙ next.found ∙ ap (λ k. Ok (k, next.len)) kind in
    let len : t.after - t.first ≡ next.len = omega (arith, next.after) in
    ap (λ n. string_of (take n (drop t.first text))) len ∙ ap string_found (string_again (drop t.first text) bytes next.len found)

-- one token more
pub more : (text : List ℕ) (seen : List Lexeme) (u : Uncut) (l : Lexeme) (rest : Uncut) → HasRead text seen u → IsNextSeen u l rest → HasRead text (seen ++ l ∷ []) rest
more text seen u l rest h n = record {
  tokens = h.tokens ++ n.token ∷ [];
  cut = cutting.more text h.tokens n.token u rest h.cut n.next;
  same =
      let seen_is : l ≡ lexeme_of text n.token = n.seen_is ∙ ap (λ t. lexeme_of t n.token) h.cut.text_is in
      map-append (lexeme_of text) h.tokens (n.token ∷ []) ∙ ap₂ (λ ls k. ls ++ k ∷ []) h.same (sym seen_is);
}

pub finish : (text : List ℕ) (seen : List Lexeme) (u : Uncut) → length text ≤ PROGRAM_LIMIT → HasRead text seen u → IsEnd u → AreLexemes text seen
finish text seen u short h end = record {
  tokens = h.tokens;
  is_cut = record { short = short; cut = cutting.finish text h.tokens u h.cut end };
  same = h.same;
}
