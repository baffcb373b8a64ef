-- A value at the front of a text.
use Rattle.std.proofs.Common.{◌≡◌, inl, inr, ℕ, suc, ◌+◌, ◌≤◌, Bool, true, false, cond, nat_eq, List, [], ◌∷◌, ◌++◌, length, take, ℤ, Option, Some, None, Result, Ok, Err, IfOk, refl, sym, ap, ◌∙◌, subst, arith, tests}
use lib.IntN.{neg_ℤ}
use Rattle.std.specs.List.{prefix_len}
use Rattle.std.proofs.lemmas.Option.{none-some}
use Rattle.ctd_program.specs.declared.preset.PresetValue.{PresetValue}
use Rattle.ctd_program.specs.declared.preset.PresetValue.TheVariants as literals
use Rattle.ctd_program.specs.declared.preset.PresetFault.{PresetFault}
use Rattle.ctd_program.specs.declared.preset.PresetFault.TheVariants.{BadPreset}
use Rattle.ctd_token.specs.declared.token.TokenKind.{TokenKind}
use Rattle.ctd_token.specs.declared.token.TokenKind.TheVariants as tokens
use Rattle.std.specs.Char.{is_ascii_digit}
use Rattle.ctd_token.specs.Cut.{TokenOrFault, fraction_begins, token_at}
use Rattle.ctd_program.specs.Presets.{IsToken, IsPresetValue, number, negative, string}
use Rattle.ctd_program.specs.inner.PresetFront.{IsFound, plain_literal, negative_literal, literal_at, MayFollowItem, IsAtFront, NothingIsAtFront}
use Rattle.ctd_program.proofs.TokenFronts.{known_of, no_token, numeral_front, numeral_alone}
use Rattle.ctd_program.proofs.LiteralFronts.{text_front, text_alone}

no_digit : (rest : List ℕ) → MayFollowItem rest → (fraction_begins rest ≡ false) × (prefix_len is_ascii_digit rest ≡ 0)
no_digit [] end = (refl, refl)
no_digit (b ∷ bs) (inl comma) = (ap (λ c. fraction_begins (c ∷ bs)) comma, ap (λ c. prefix_len is_ascii_digit (c ∷ bs)) comma)
no_digit (b ∷ bs) (inr bracket) = (ap (λ c. fraction_begins (c ∷ bs)) bracket, ap (λ c. prefix_len is_ascii_digit (c ∷ bs)) bracket)

unsigned : (b : ℕ) (bs : List ℕ) → nat_eq b 45 ≡ false → literal_at (b ∷ bs) ≡ plain_literal (token_at (b ∷ bs))
unsigned b bs is = ap (λ t. cond t (negative_literal (token_at bs)) (plain_literal (token_at (b ∷ bs)))) is

plain_front : (text rest : List ℕ) (t : TokenKind) → IsToken text t → ((b : ℕ) (bs : List ℕ) → text ≡ b ∷ bs → nat_eq b 45 ≡ false) → literal_at (text ++ rest) ≡ plain_literal (token_at (text ++ rest))
plain_front [] rest t is other = absurd (no_token t 0 is)
plain_front (b ∷ bs) rest t is other = unsigned b (bs ++ rest) (other b bs refl)

no_minus : (text : List ℕ) (m : ℤ) → IsToken text (tokens.Numeral m) → (b : ℕ) (bs : List ℕ) → text ≡ b ∷ bs → nat_eq b 45 ≡ false
no_minus text m is b bs e =
    let of = known_of b bs (Ok (tokens.Numeral m, length text)) (ap token_at (sym e) ∙ is) in
    grind (arith, tests, of.0)

no_minus_text : (text values : List ℕ) → IsToken text (tokens.Text values) → (b : ℕ) (bs : List ℕ) → text ≡ b ∷ bs → nat_eq b 45 ≡ false
no_minus_text text values is b bs e =
    let of = known_of b bs (Ok (tokens.Text values, length text)) (ap token_at (sym e) ∙ is) in
    ap (λ c. nat_eq c 45) of.0

-- a literal before what may follow it is the one at the front
literal_first : (text rest : List ℕ) (v : PresetValue) → IsPresetValue text v → MayFollowItem rest → literal_at (text ++ rest) ≡ Some (v, length text)
literal_first text rest v (number {n} is) end =
    let ends = no_digit rest end in
    plain_front text rest (tokens.Numeral n) is (no_minus text n is) ∙ ap plain_literal (numeral_front text rest n is ends.0 ends.1)
literal_first text rest v (negative {text = digits} {n} is) end =
    let ends = no_digit rest end in
    ap negative_literal (numeral_front digits rest n is ends.0 ends.1) ∙ ap (λ k. Some (literals.Int (neg_ℤ n), k)) (omega arith)
literal_first text rest v (string {values} is) end =
    plain_front text rest (tokens.Text values) is (no_minus_text text values is) ∙ ap plain_literal (text_front text rest values is)

same_some : {A : Type 0} (x y : A) (n m : ℕ) (o : Option (A × ℕ)) → o ≡ Some (x, n) → o ≡ Some (y, m) → (x ≡ y) × (n ≡ m)
same_some {A} x y n m o e f =
    let pair : (x, n) ≡ (y, m) = cc in
    let first : A × ℕ → A = λ q. q.0 in
    let second : A × ℕ → ℕ = λ q. q.1 in
    (ap first pair, ap second pair)

plain_spells : (bytes : List ℕ) (found : TokenOrFault) (v : PresetValue) (n : ℕ) → token_at bytes ≡ found → plain_literal found ≡ Some (v, n) → IsPresetValue (take n bytes) v
plain_spells bytes (Ok (tokens.Numeral m, k)) v n is e =
    let same = same_some (literals.Int m) v k n (plain_literal (Ok (tokens.Numeral m, k))) refl e in
    subst (λ w. IsPresetValue (take n bytes) w) same.0 (subst (λ j. IsPresetValue (take j bytes) (literals.Int m)) same.1 (number (numeral_alone bytes k m is)))
plain_spells bytes (Ok (tokens.Text values, k)) v n is e =
    let same = same_some (literals.Text values) v k n (plain_literal (Ok (tokens.Text values, k))) refl e in
    subst (λ w. IsPresetValue (take n bytes) w) same.0 (subst (λ j. IsPresetValue (take j bytes) (literals.Text values)) same.1 (string (text_alone bytes k values is)))
plain_spells bytes (Ok (tokens.Word, k)) v n is e = absurd (let f : None ≡ Some (v, n) = e in cc)
plain_spells bytes (Ok (tokens.Name, k)) v n is e = absurd (let f : None ≡ Some (v, n) = e in cc)
plain_spells bytes (Ok (tokens.Mark m, k)) v n is e = absurd (let f : None ≡ Some (v, n) = e in cc)
plain_spells bytes (Err x) v n is e = absurd (let f : None ≡ Some (v, n) = e in cc)

negated_spells : (bytes : List ℕ) (found : TokenOrFault) (v : PresetValue) (n : ℕ) → token_at bytes ≡ found → negative_literal found ≡ Some (v, n) → IsPresetValue (take n (45 ∷ bytes)) v
negated_spells bytes (Ok (tokens.Numeral m, k)) v n is e =
    let same = same_some (literals.Int (neg_ℤ m)) v (1 + k) n (negative_literal (Ok (tokens.Numeral m, k))) refl e in
    let next : suc k ≡ n = omega (arith, same.1) in
    subst (λ w. IsPresetValue (take n (45 ∷ bytes)) w) same.0 (subst (λ j. IsPresetValue (take j (45 ∷ bytes)) (literals.Int (neg_ℤ m))) next (negative (numeral_alone bytes k m is)))
negated_spells bytes (Ok (tokens.Text values, k)) v n is e = absurd (let f : None ≡ Some (v, n) = e in cc)
negated_spells bytes (Ok (tokens.Word, k)) v n is e = absurd (let f : None ≡ Some (v, n) = e in cc)
negated_spells bytes (Ok (tokens.Name, k)) v n is e = absurd (let f : None ≡ Some (v, n) = e in cc)
negated_spells bytes (Ok (tokens.Mark m, k)) v n is e = absurd (let f : None ≡ Some (v, n) = e in cc)
negated_spells bytes (Err x) v n is e = absurd (let f : None ≡ Some (v, n) = e in cc)

signed_spells : (b : ℕ) (bs : List ℕ) (v : PresetValue) (n : ℕ) (minus : Bool) → nat_eq b 45 ≡ minus → cond minus (negative_literal (token_at bs)) (plain_literal (token_at (b ∷ bs))) ≡ Some (v, n) → IsPresetValue (take n (b ∷ bs)) v
signed_spells b bs v n true is e =
    let same : 45 ≡ b = grind (arith, tests, is) in
    subst (λ c. IsPresetValue (take n (c ∷ bs)) v) same (negated_spells bs (token_at bs) v n refl e)
signed_spells b bs v n false is e = plain_spells (b ∷ bs) (token_at (b ∷ bs)) v n refl e

-- the literal at the front is one
literal_spells : (bytes : List ℕ) (v : PresetValue) (n : ℕ) → literal_at bytes ≡ Some (v, n) → IsPresetValue (take n bytes) v
literal_spells [] v n e = absurd (let f : None ≡ Some (v, n) = e in cc)
literal_spells (b ∷ bs) v n e = signed_spells b bs v n (nat_eq b 45) refl e

-- a literal that is found is the value at the front
value_in_front : (bytes : List ℕ) (v : PresetValue) (n : ℕ) → literal_at bytes ≡ Some (v, n) → n ≤ length bytes → IsAtFront MayFollowItem IsPresetValue bytes (v, n)
value_in_front bytes v n found inside = record {
  within = inside;
  spelled = literal_spells bytes v n found;
  only = λ text rest w is follows spells. same_some w v (length text) n (literal_at bytes) (ap literal_at is ∙ literal_first text rest w spells follows) found;
}

-- what a reader of literals answers is the value at the front, or that there is none
pub value_read : (bytes : List ℕ) (answer : Result (PresetValue × ℕ) PresetFault) → IsFound answer (literal_at bytes) → IfOk answer (λ x. x.1 ≤ length bytes) → IfOk answer (IsAtFront MayFollowItem IsPresetValue bytes)
value_read bytes (Ok x) found inside = value_in_front bytes x.0 x.1 found inside
value_read bytes (Err fault) found inside = tt

pub no_value_read : (bytes : List ℕ) (answer : Result (PresetValue × ℕ) PresetFault) → IsFound answer (literal_at bytes) → answer ≡ Err BadPreset → NothingIsAtFront MayFollowItem IsPresetValue bytes
no_value_read bytes answer found bad text rest v is follows spells =
    let none : literal_at bytes ≡ None = subst (λ a. IsFound a (literal_at bytes)) bad found in
    none-some (v, length text) (sym none ∙ ap literal_at is ∙ literal_first text rest v spells follows)
