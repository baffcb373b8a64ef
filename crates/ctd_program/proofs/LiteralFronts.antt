-- A literal is read from its own bytes alone, whatever is behind its closing quote.
use Rattle.std.proofs.Common.{◌≡◌, ℕ, zero, suc, ◌+◌, ◌-◌, ◌<◌, ◌≤◌, Bool, true, false, cond, nat_eq, min, List, [], ◌∷◌, ◌++◌, length, take, Option, Some, None, Ok, refl, sym, ap, ◌∙◌, arith, append-nil}
use Rattle.std.specs.Option.{option_map}
use Rattle.std.specs.List.{prefix_len}
use Rattle.std.proofs.lemmas.List.{take-append-le, take-take, length-take-le, take_all}
use Rattle.ctd_token.specs.declared.token.TokenKind.TheVariants as tokens
use Rattle.ctd_token.specs.declared.fault.LoadKind.TheVariants.{UnfinishedString, BadOctal}
use Rattle.ctd_token.specs.StringLiteral.{LiteralPart, literal_part, is_octal, octal, octal_len, octal_escape, escape, after_backslash, part_at, WholeLiteral, one_later, with_part, literal}
use Rattle.ctd_token.specs.inner.StringLiteral.{closing_quote}
use Rattle.ctd_token.specs.Cut.{text_at, token_at}
use Rattle.ctd_token.specs.calls.Scanning.{wrong}
use Rattle.ctd_token.specs.inner.Scanning.{closed_text}
use Rattle.ctd_program.specs.Presets.{IsToken}
use Rattle.ctd_program.proofs.TokenFronts.{same_found, known_of, no_token}
use Rattle.ctd_token.proofs.TokenFaults.{token_some}

pub of_some : {A B : Type 0} (f : A → B) (o : Option A) (y : B) → option_map f o ≡ Some y → (x : A) × (o ≡ Some x) × (f x ≡ y)
of_some f None y e = absurd (let g : None ≡ Some y = e in cc)
of_some f (Some x) y e = (x, refl, (let g : Some (f x) ≡ Some y = e in cc))

-- a literal ends behind the bytes that are passed over, and within the text
within_if : (quote : Bool) (s n : ℕ) (o : Option WholeLiteral) (c : WholeLiteral) → cond quote (Some closing_quote) o ≡ Some c → 0 < n → (o ≡ Some c → (0 < c.length) × (c.length ≤ n)) → (0 < c.length) × (c.length ≤ n)
within_if true s n o c e some other =
    let same : closing_quote ≡ c = cc in
    let long : 1 ≡ c.length = ap (λ d. d.length) same in
    (omega (arith, long), omega (arith, long))
within_if false s n o c e some other = other e

pub closed_within : (s : ℕ) (bs : List ℕ) (c : WholeLiteral) → literal s bs ≡ Some c → (s < c.length) × (c.length ≤ length bs)
closed_within s [] c e = absurd (let g : None ≡ Some c = e in cc)
closed_within (suc s) (b ∷ bs) c e =
    let w = of_some one_later (literal s bs) c e in
    let long : 1 + w.0.length ≡ c.length = ap (λ d. d.length) w.2 in
    let ih = closed_within s bs w.0 w.1 in
    (omega (arith, long, ih.0), omega (arith, long, ih.1))
closed_within zero (b ∷ bs) c e =
    let p : LiteralPart = part_at b bs in
    let ih : (d : WholeLiteral) → literal (p.length - 1) bs ≡ Some d → d.length ≤ length bs = λ d is. (closed_within (p.length - 1) bs d is).1 in
    within_if (nat_eq b 34) 0 (length (b ∷ bs)) (option_map (with_part p) (literal (p.length - 1) bs)) c e (omega arith) (λ f.
    let w = of_some (with_part p) (literal (p.length - 1) bs) c f in
    let long : 1 + w.0.length ≡ c.length = ap (λ d. d.length) w.2 in
    (omega (arith, long), omega (arith, long, ih w.0 w.1)))

run_if : (t : Bool) (j n a b : ℕ) → min (suc j) (cond t (1 + a) 0) < suc n → (min j a < n → min j b ≡ min j a) → min (suc j) (cond t (1 + b) 0) ≡ min (suc j) (cond t (1 + a) 0)
run_if true j n a b lt same = let e = same (omega (arith, lt)) in omega (arith, e)
run_if false j n a b lt same = refl

-- up to j bytes of a run, of which the front holds the end
run_front : (p : ℕ → Bool) (j n : ℕ) (xs rest : List ℕ) → min j (prefix_len p xs) < n → n ≤ length xs → min j (prefix_len p (take n xs ++ rest)) ≡ min j (prefix_len p xs)
run_front p j n [] rest lt le = absurd (omega (arith, lt, le))
run_front p j zero (x ∷ xs) rest lt le = absurd (omega (arith, lt))
run_front p zero (suc n) (x ∷ xs) rest lt le = omega arith
run_front p (suc j) (suc n) (x ∷ xs) rest lt le = run_if (p x) j n (prefix_len p xs) (prefix_len p (take n xs ++ rest)) lt (λ less. run_front p j n xs rest less (omega (arith, le)))

octal_front : (n : ℕ) (xs rest : List ℕ) → octal_len xs < n → n ≤ length xs → octal_escape (take n xs ++ rest) ≡ octal_escape xs
octal_front n xs rest lt le =
    let k : ℕ = octal_len xs in
    let same : octal_len (take n xs ++ rest) ≡ k = run_front is_octal 3 n xs rest lt le in
    let digits : take k (take n xs ++ rest) ≡ take k xs = take-append-le k (take n xs) rest (omega (arith, lt, length-take-le n xs le)) ∙ take-take k n xs (omega (arith, lt)) in
    ap (λ i. literal_part (octal (take i (take n xs ++ rest)) ∷ []) (1 + i)) same ∙ ap (λ l. literal_part (octal l ∷ []) (1 + k)) digits

escape_if : (t : Bool) (n : ℕ) (p q r : LiteralPart) → (cond t p r).length - 1 < n → (p.length - 1 < n → q ≡ p) → cond t q r ≡ cond t p r
escape_if true n p q r lt same = same lt
escape_if false n p q r lt same = refl

backslash_front : (n : ℕ) (bs rest : List ℕ) → (after_backslash bs).length - 1 < n → n ≤ length bs → after_backslash (take n bs ++ rest) ≡ after_backslash bs
backslash_front n [] rest lt le = absurd (omega (arith, lt, le))
backslash_front zero (c ∷ cs) rest lt le = absurd (omega (arith, lt))
backslash_front (suc n) (c ∷ cs) rest lt le = escape_if (is_octal c) (suc n) (octal_escape (c ∷ cs)) (octal_escape (c ∷ (take n cs ++ rest))) (escape c) lt (λ less. octal_front (suc n) (c ∷ cs) rest (omega (arith, less)) le)

part_front : (b n : ℕ) (bs rest : List ℕ) → (part_at b bs).length - 1 < n → n ≤ length bs → part_at b (take n bs ++ rest) ≡ part_at b bs
part_front b n bs rest lt le = escape_if (nat_eq b 92) n (after_backslash bs) (after_backslash (take n bs ++ rest)) (literal_part (b ∷ []) 1) lt (λ less. backslash_front n bs rest less le)

closed_if : (quote : Bool) (o other : Option WholeLiteral) (c : WholeLiteral) → cond quote (Some closing_quote) o ≡ Some c → (o ≡ Some c → other ≡ Some c) → cond quote (Some closing_quote) other ≡ Some c
closed_if true o other c e same = e
closed_if false o other c e same = same e

pub literal_front : (s n : ℕ) (bs rest : List ℕ) (c : WholeLiteral) → literal s bs ≡ Some c → n ≡ c.length → literal s (take n bs ++ rest) ≡ Some c
literal_front s n [] rest c e is = absurd (let g : None ≡ Some c = e in cc)
literal_front s zero (b ∷ bs) rest c e is = absurd (omega (arith, is, (closed_within s (b ∷ bs) c e).0))
literal_front (suc s) (suc n) (b ∷ bs) rest c e is =
    let w = of_some one_later (literal s bs) c e in
    let long : 1 + w.0.length ≡ c.length = ap (λ d. d.length) w.2 in
    ap (option_map one_later) (literal_front s n bs rest w.0 w.1 (omega (arith, is, long))) ∙ ap Some w.2
literal_front zero (suc n) (b ∷ bs) rest c e is =
    let p : LiteralPart = part_at b bs in
    let front : List ℕ = take n bs ++ rest in
    let q : LiteralPart = part_at b front in
    let ih : (d : WholeLiteral) → literal (p.length - 1) bs ≡ Some d → n ≡ d.length → literal (p.length - 1) front ≡ Some d = λ d f g. literal_front (p.length - 1) n bs rest d f g in
    closed_if (nat_eq b 34) (option_map (with_part p) (literal (p.length - 1) bs)) (option_map (with_part q) (literal (q.length - 1) front)) c e (λ f.
    let w = of_some (with_part p) (literal (p.length - 1) bs) c f in
    let long : 1 + w.0.length ≡ c.length = ap (λ d. d.length) w.2 in
    let same : n ≡ w.0.length = omega (arith, is, long) in
    let within = closed_within (p.length - 1) bs w.0 w.1 in
    let as_was : q ≡ p = part_front b n bs rest (omega (arith, same, within.0)) (omega (arith, same, within.1)) in
    ap (λ r. option_map (with_part r) (literal (r.length - 1) front)) as_was ∙ ap (option_map (with_part p)) (ih w.0 w.1 same) ∙ ap Some w.2)

clean_text : (c : WholeLiteral) (bad : Option ℕ) (values : List ℕ) (n : ℕ) → closed_text c bad ≡ Ok (tokens.Text values, n) → n ≡ 1 + c.length
clean_text c None values n e = (same_found (tokens.Text values) (tokens.Text c.values) n (1 + c.length) (closed_text c None) e refl).1
clean_text c (Some k) values n e = absurd (let f : wrong BadOctal (1 + k) ≡ Ok (tokens.Text values, n) = e in cc)

-- a string is a closed literal
closed_of : (o : Option WholeLiteral) (values : List ℕ) (n : ℕ) → text_at o ≡ Ok (tokens.Text values, n) → (c : WholeLiteral) × (o ≡ Some c) × (n ≡ 1 + c.length)
closed_of None values n e = absurd (let f : wrong UnfinishedString 0 ≡ Ok (tokens.Text values, n) = e in cc)
closed_of (Some c) values n e = (c, refl, clean_text c c.bad_octal values n e)

-- a string before anything
pub text_front : (text rest values : List ℕ) → IsToken text (tokens.Text values) → token_at (text ++ rest) ≡ Ok (tokens.Text values, length text)
text_front [] rest values is = absurd (no_token (tokens.Text values) 0 is)
text_front (b ∷ bs) rest values is =
    let of = known_of b bs (Ok (tokens.Text values, length (b ∷ bs))) is in
    let w = closed_of (literal 0 bs) values (length (b ∷ bs)) of.1 in
    let long : length bs ≡ w.0.length = omega (arith, w.2) in
    let front : literal 0 (bs ++ rest) ≡ Some w.0 = ap (λ l. literal 0 (l ++ rest)) (sym (take_all (length bs) bs (omega arith))) ∙ literal_front 0 (length bs) bs rest w.0 w.1 long in
    ap (λ c. token_at (c ∷ (bs ++ rest))) of.0 ∙ ap text_at (front ∙ sym w.1) ∙ of.1

-- a string by itself
pub text_alone : (bytes : List ℕ) (n : ℕ) (values : List ℕ) → token_at bytes ≡ Ok (tokens.Text values, n) → IsToken (take n bytes) (tokens.Text values)
text_alone [] n values is = absurd (no_token (tokens.Text values) n is)
text_alone (b ∷ bs) zero values is = absurd (omega (arith, token_some (b ∷ bs) (tokens.Text values) 0 is))
text_alone (b ∷ bs) (suc n) values is =
    let of = known_of b bs (Ok (tokens.Text values, suc n)) is in
    let w = closed_of (literal 0 bs) values (suc n) of.1 in
    let long : n ≡ w.0.length = omega (arith, w.2) in
    let front : literal 0 (take n bs) ≡ Some w.0 = ap (literal 0) (sym (append-nil (take n bs))) ∙ literal_front 0 n bs [] w.0 w.1 long in
    let size : suc n ≡ length (b ∷ take n bs) = omega (arith, length-take-le n bs (omega (arith, long, (closed_within 0 bs w.0 w.1).1))) in
    ap (λ c. token_at (c ∷ take n bs)) of.0 ∙ ap text_at (front ∙ sym w.1) ∙ of.1 ∙ ap (λ k. Ok (tokens.Text values, k)) size
