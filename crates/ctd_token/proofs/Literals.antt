-- How a literal is read on, from a part to the next.
use Rattle.std.proofs.Common.{◌≡◌, ℕ, zero, suc, ◌+◌, ◌-◌, ◌≤◌, ◌<◌, Bool, true, false, cond, nat_eq, nat_lt, List, [], ◌∷◌, ◌++◌, length, take, drop, get_or, sum, Option, Some, None, Ok, refl, sym, ap, ◌∙◌, subst, arith, append_assoc, append-nil, length-drop, get_or-drop, tests}
use Rattle.std.specs.Option.{option_map, option_or}
use Rattle.std.specs.List.{prefix_len}
use Rattle.std.proofs.lemmas.List.{at_drop_more, drop_all, drop-drop}
use Rattle.std.proofs.lemmas.List.Sums.{prefix_len-le-length}
use Rattle.std.proofs.lemmas.Bool.{le-ltb, lt-ltb}
use Rattle.ctd_token.specs.declared.fault.LoadKind.TheVariants.{UnfinishedString, BadOctal}
use Rattle.ctd_token.specs.declared.token.TokenKind.TheVariants as tokens
use Rattle.ctd_token.specs.StringLiteral.{LiteralPart, literal_part, after_backslash, part_at, WholeLiteral, one_later, with_part, literal}
use Rattle.ctd_token.specs.inner.StringLiteral.{closing_quote, is_plain}
use Rattle.ctd_token.specs.Cut.{TokenOrFault, text_at}
use Rattle.ctd_token.specs.calls.Scanning.{wrong}
use Rattle.ctd_token.specs.inner.Scanning.{closed_text}

-- a literal with n bytes in front, which stand for these values and have this octal escape above 255
abbrev pub joined : List ℕ → Option ℕ → ℕ → WholeLiteral → WholeLiteral
joined before bad n c = record {
  values = before ++ c.values;
  bad_octal = option_or bad (option_map (λ k. n + k) c.bad_octal);
  length = n + c.length;
}

same_closed : (a b : WholeLiteral) → a.values ≡ b.values → a.bad_octal ≡ b.bad_octal → a.length ≡ b.length → a ≡ b
same_closed a b e f g = λ i. record { values = e i; bad_octal = f i; length = g i }

map_map : {A B C : Type 0} (f : B → C) (g : A → B) (h : A → C) → ((x : A) → f (g x) ≡ h x) → (o : Option A) → option_map f (option_map g o) ≡ option_map h o
map_map f g h same None = refl
map_map f g h same (Some x) = ap Some (same x)

shifted_none : (o : Option ℕ) → o ≡ option_map (λ k. 0 + k) o
shifted_none None = refl
shifted_none (Some k) = ap Some (omega arith)

shifted_twice : (m n s : ℕ) (o : Option ℕ) → m + n ≡ s → option_map (λ k. m + k) (option_map (λ k. n + k) o) ≡ option_map (λ k. s + k) o
shifted_twice m n s None is = refl
shifted_twice m n s (Some k) is = ap Some (omega arith)

unchanged : (o : Option WholeLiteral) → o ≡ option_map (joined [] None 0) o
unchanged None = refl
unchanged (Some c) = ap Some (same_closed c (joined [] None 0 c) refl (shifted_none c.bad_octal) (omega arith))

-- bytes of the last part are passed over
pub skipped : (n : ℕ) (bs : List ℕ) → literal n bs ≡ option_map (joined [] None n) (literal 0 (drop n bs))
skipped zero bs = unchanged (literal 0 bs)
skipped (suc n) [] = refl
skipped (suc n) (b ∷ bs) =
    let one_more : (c : WholeLiteral) → one_later (joined [] None n c) ≡ joined [] None (suc n) c = λ c. same_closed (one_later (joined [] None n c)) (joined [] None (suc n) c) refl (shifted_twice 1 n (suc n) c.bad_octal (omega arith)) (omega arith) in
    ap (option_map one_later) (skipped n bs) ∙ map_map one_later (joined [] None n) (joined [] None (suc n)) one_more (literal 0 (drop n bs))

-- where the octal escape above 255 is in a part that stands for these values
abbrev pub bad_of : List ℕ → Option ℕ
bad_of vs = cond (nat_lt 255 (sum vs)) (Some 0) None

bad_first : (large : Bool) (m : ℕ) (o : Option ℕ) → cond large (Some 0) (option_map (λ k. 1 + k) (option_map (λ k. m + k) o)) ≡ option_or (cond large (Some 0) None) (option_map (λ k. suc m + k) o)
bad_first true m o = refl
bad_first false m o = shifted_twice 1 m (suc m) o (omega arith)

-- a part is read
pub part_read : (b : ℕ) (bs : List ℕ) (p : LiteralPart) (m : ℕ) → nat_eq b 34 ≡ false → part_at b bs ≡ p → p.length ≡ suc m → literal 0 (b ∷ bs) ≡ option_map (joined p.values (bad_of p.values) (suc m)) (literal 0 (drop m bs))
part_read b bs p m unquoted is long =
    let by_part : Option WholeLiteral = option_map (with_part (part_at b bs)) (literal ((part_at b bs).length - 1) bs) in
    let less : p.length - 1 ≡ m = omega arith in
    let joins : (c : WholeLiteral) → with_part p (joined [] None m c) ≡ joined p.values (bad_of p.values) (suc m) c = λ c. same_closed (with_part p (joined [] None m c)) (joined p.values (bad_of p.values) (suc m) c) refl (bad_first (nat_lt 255 (sum p.values)) m c.bad_octal) (omega arith) in
    ap (λ t. cond t (Some closing_quote) by_part) unquoted
    ∙ ap (λ q. option_map (with_part q) (literal (q.length - 1) bs)) is
    ∙ ap (λ k. option_map (with_part p) (literal k bs)) less
    ∙ ap (option_map (with_part p)) (skipped m bs)
    ∙ map_map (with_part p) (joined [] None m) (joined p.values (bad_of p.values) (suc m)) joins (literal 0 (drop m bs))

bad_twice : (bad other : Option ℕ) (n m : ℕ) (o : Option ℕ) → option_or bad (option_map (λ k. n + k) (option_or other (option_map (λ k. m + k) o))) ≡ option_or (option_or bad (option_map (λ k. n + k) other)) (option_map (λ k. n + m + k) o)
bad_twice (Some k) other n m o = refl
bad_twice None (Some k) n m o = refl
bad_twice None None n m o = shifted_twice n m (n + m) o refl

joined_twice : (before vs : List ℕ) (bad other : Option ℕ) (n m : ℕ) (c : WholeLiteral) → joined before bad n (joined vs other m c) ≡ joined (before ++ vs) (option_or bad (option_map (λ k. n + k) other)) (n + m) c
joined_twice before vs bad other n m c = same_closed (joined before bad n (joined vs other m c)) (joined (before ++ vs) (option_or bad (option_map (λ k. n + k) other)) (n + m) c) (sym (append_assoc before vs c.values)) (bad_twice bad other n m c.bad_octal) (omega arith)

small_values : (vs : List ℕ) → sum vs ≤ 255 → bad_of vs ≡ None
small_values vs le = ap (λ t. cond t (Some 0) None) (le-ltb 255 (sum vs) le)

large_values : (vs : List ℕ) → 255 < sum vs → bad_of vs ≡ Some 0
large_values vs lt = ap (λ t. cond t (Some 0) None) (lt-ltb 255 (sum vs) lt)

run_goes_on : (t : Bool) (n k : ℕ) → suc n ≤ cond t (1 + k) 0 → (t ≡ true) × (n ≤ k)
run_goes_on true n k le = (refl, omega arith)
run_goes_on false n k le = absurd (omega arith)

-- bytes that stand for themselves are read
pub plain_read : (n : ℕ) (bs : List ℕ) → ((k : ℕ) → get_or bs k 0 < 256) → n ≤ prefix_len is_plain bs → literal 0 bs ≡ option_map (joined (take n bs) None n) (literal 0 (drop n bs))
plain_read zero bs small le = unchanged (literal 0 bs)
plain_read (suc n) [] small le = absurd (omega arith)
plain_read (suc n) (b ∷ bs) small le =
    let goes = run_goes_on (is_plain b) n (prefix_len is_plain bs) le in
    let byte : b < 256 = small 0 in
    let unquoted : nat_eq b 34 ≡ false = grind (arith, tests, goes.0) in
    let itself : nat_eq b 92 ≡ false = grind (arith, tests, goes.0) in
    let fits : bad_of (b ∷ []) ≡ None = small_values (b ∷ []) (omega arith) in
    let one : literal 0 (b ∷ bs) ≡ option_map (joined (b ∷ []) (bad_of (b ∷ [])) 1) (literal 0 bs) = part_read b bs (literal_part (b ∷ []) 1) 0 unquoted (ap (λ t. cond t (after_backslash bs) (literal_part (b ∷ []) 1)) itself) refl in
    let joins : (c : WholeLiteral) → joined (b ∷ []) None 1 (joined (take n bs) None n c) ≡ joined (b ∷ take n bs) None (suc n) c = λ c. same_closed (joined (b ∷ []) None 1 (joined (take n bs) None n c)) (joined (b ∷ take n bs) None (suc n) c) refl (shifted_twice 1 n (suc n) c.bad_octal (omega arith)) (omega arith) in
    one
    ∙ ap (λ o. option_map (joined (b ∷ []) o 1) (literal 0 bs)) fits
    ∙ ap (option_map (joined (b ∷ []) None 1)) (plain_read n bs (λ k. small (suc k)) goes.1)
    ∙ map_map (joined (b ∷ []) None 1) (joined (take n bs) None n) (joined (b ∷ take n bs) None (suc n)) joins (literal 0 (drop n bs))

-- what has been read of a literal with its opening quote, up to an offset
pub record Reading (bytes values : List ℕ) (bad : Option ℕ) (at : ℕ) : Type 0 where
  pub before : List ℕ
  pub started : 1 ≤ at
  pub within : at ≤ length bytes
  pub bad_within : (n : ℕ) → bad ≡ Some n → n ≤ length bytes
  pub same : bad ≡ None → before ≡ values
  pub rest : literal 1 bytes ≡ option_map (joined before bad at) (literal 0 (drop at bytes))

pub begin : (bytes : List ℕ) → 0 < length bytes → Reading bytes [] None 1
begin bytes some = record { before = []; started = omega arith; within = omega arith; bad_within = λ n e. cc; same = λ _. refl; rest = skipped 1 bytes }

on : (bytes values : List ℕ) (bad : Option ℕ) (at : ℕ) (r : Reading bytes values bad at) (vs : List ℕ) (other : Option ℕ) (m : ℕ) → literal 0 (drop at bytes) ≡ option_map (joined vs other m) (literal 0 (drop (at + m) bytes)) → literal 1 bytes ≡ option_map (joined (r.before ++ vs) (option_or bad (option_map (λ k. at + k) other)) (at + m)) (literal 0 (drop (at + m) bytes))
on bytes values bad at r vs other m read = r.rest ∙ ap (option_map (joined r.before bad at)) read ∙ map_map (joined r.before bad at) (joined vs other m) (joined (r.before ++ vs) (option_or bad (option_map (λ k. at + k) other)) (at + m)) (joined_twice r.before vs bad other at m) (literal 0 (drop (at + m) bytes))

or_none : (o : Option ℕ) → option_or o None ≡ o
or_none None = refl
or_none (Some n) = refl

not_none : (o : Option ℕ) (n : ℕ) → option_or o (Some n) ≡ None → ⊥
not_none None n e = cc
not_none (Some m) n e = cc

or_within : (o : Option ℕ) (at n size : ℕ) → option_or o (Some at) ≡ Some n → at ≤ size → ((k : ℕ) → o ≡ Some k → k ≤ size) → n ≤ size
or_within None at n size e le within = let same : at ≡ n = cc in omega arith
or_within (Some m) at n size e le within = within n e

-- bytes that stand for these values
pub keep : (bytes values : List ℕ) (bad : Option ℕ) (at : ℕ) → Reading bytes values bad at → (vs : List ℕ) (m : ℕ) → at + m ≤ length bytes → literal 0 (drop at bytes) ≡ option_map (joined vs None m) (literal 0 (drop (at + m) bytes)) → Reading bytes (values ++ vs) bad (at + m)
keep bytes values bad at r vs m le read = record {
  before = r.before ++ vs;
  started = omega (arith, r.started);
  within = le;
  bad_within = r.bad_within;
  same = λ none. ap (λ b. b ++ vs) (r.same none);
  rest = on bytes values bad at r vs None m read ∙ ap (λ b. option_map (joined (r.before ++ vs) b (at + m)) (literal 0 (drop (at + m) bytes))) (or_none bad);
}

-- an octal escape above 255
pub found_bad : (bytes values : List ℕ) (bad : Option ℕ) (at : ℕ) → Reading bytes values bad at → (vs : List ℕ) (m : ℕ) → at + m ≤ length bytes → literal 0 (drop at bytes) ≡ option_map (joined vs (Some 0) m) (literal 0 (drop (at + m) bytes)) → Reading bytes values (option_or bad (Some at)) (at + m)
found_bad bytes values bad at r vs m le read =
    let here : at + 0 ≡ at = omega arith in
    record {
      before = r.before ++ vs;
      started = omega (arith, r.started);
      within = le;
      bad_within = λ n e. or_within bad at n (length bytes) e (omega (arith, le)) r.bad_within;
      same = λ none. absurd (not_none bad at none);
      rest = on bytes values bad at r vs (Some 0) m read ∙ ap (λ k. option_map (joined (r.before ++ vs) (option_or bad (Some k)) (at + m)) (literal 0 (drop (at + m) bytes))) here;
    }

-- a run of bytes that stand for themselves
pub plain_on : (bytes values new : List ℕ) (bad : Option ℕ) (at m : ℕ) → Reading bytes values bad at → ((k : ℕ) → get_or bytes k 0 < 256) → m ≡ prefix_len is_plain (drop at bytes) → new ≡ values ++ take m (drop at bytes) → Reading bytes new bad (at + m)
plain_on bytes values new bad at m r small is made =
    let le : m ≤ length (drop at bytes) = omega (arith, prefix_len-le-length is_plain (drop at bytes)) in
    let fits : at + m ≤ length bytes = omega (arith, r.within, length-drop at bytes) in
    let in_rest : (k : ℕ) → get_or (drop at bytes) k 0 < 256 = λ k. omega (arith, small (at + k), get_or-drop at bytes k 0) in
    let read = plain_read m (drop at bytes) in_rest (omega arith) ∙ ap (λ l. option_map (joined (take m (drop at bytes)) None m) (literal 0 l)) (drop-drop m at bytes) in
    subst (λ l. Reading bytes l bad (at + m)) (sym made) (keep bytes values bad at r (take m (drop at bytes)) m fits read)

-- an escape is read
escape_read : (bytes : List ℕ) (at m : ℕ) (vs : List ℕ) → at < length bytes → get_or bytes at 0 ≡ 92 → vs ≡ (after_backslash (drop (at + 1) bytes)).values → m ≡ (after_backslash (drop (at + 1) bytes)).length → 0 < m → literal 0 (drop at bytes) ≡ option_map (joined vs (bad_of vs) m) (literal 0 (drop (at + m) bytes))
escape_read bytes at m vs lt backslash means long some =
    let rest : List ℕ = drop (at + 1) bytes in
    let p : LiteralPart = after_backslash rest in
    let next : p.length ≡ suc (m - 1) = omega arith in
    let one : suc (m - 1) ≡ m = omega arith in
    let on_by : at + 1 + (m - 1) ≡ at + m = omega arith in
    at_drop_more (literal 0) bytes at 0 lt
    ∙ ap (λ b. literal 0 (b ∷ rest)) backslash
    ∙ part_read 92 rest p (m - 1) refl refl next
    ∙ ap (λ l. option_map (joined p.values (bad_of p.values) (suc (m - 1))) (literal 0 l)) (drop-drop (m - 1) (at + 1) bytes ∙ ap (λ k. drop k bytes) on_by)
    ∙ ap (λ k. option_map (joined p.values (bad_of p.values) k) (literal 0 (drop (at + m) bytes))) one
    ∙ ap (λ v. option_map (joined v (bad_of v) m) (literal 0 (drop (at + m) bytes))) (sym means)

-- an escape of at most 255, or one that stands for nothing
pub escape_on : (bytes values new vs : List ℕ) (bad : Option ℕ) (at m : ℕ) → Reading bytes values bad at → at < length bytes → get_or bytes at 0 ≡ 92 → vs ≡ (after_backslash (drop (at + 1) bytes)).values → m ≡ (after_backslash (drop (at + 1) bytes)).length → 0 < m → at + m ≤ length bytes → sum vs ≤ 255 → new ≡ values ++ vs → Reading bytes new bad (at + m)
escape_on bytes values new vs bad at m r lt backslash means long some fits small made =
    let read = escape_read bytes at m vs lt backslash means long some ∙ ap (λ o. option_map (joined vs o m) (literal 0 (drop (at + m) bytes))) (small_values vs small) in
    subst (λ l. Reading bytes l bad (at + m)) (sym made) (keep bytes values bad at r vs m fits read)

-- an octal escape above 255
pub bad_on : (bytes values vs : List ℕ) (bad : Option ℕ) (at m : ℕ) → Reading bytes values bad at → at < length bytes → get_or bytes at 0 ≡ 92 → vs ≡ (after_backslash (drop (at + 1) bytes)).values → m ≡ (after_backslash (drop (at + 1) bytes)).length → 0 < m → at + m ≤ length bytes → 255 < sum vs → Reading bytes values (option_or bad (Some at)) (at + m)
bad_on bytes values vs bad at m r lt backslash means long some fits large =
    let read = escape_read bytes at m vs lt backslash means long some ∙ ap (λ o. option_map (joined vs o m) (literal 0 (drop (at + m) bytes))) (large_values vs large) in
    found_bad bytes values bad at r vs m fits read

-- what a literal with its opening quote is
abbrev text_of : WholeLiteral → Option ℕ → TokenOrFault
text_of c None = Ok (tokens.Text c.values, c.length)
text_of c (Some n) = wrong BadOctal n

text_closed : (c : WholeLiteral) (o : Option ℕ) → closed_text c o ≡ text_of (one_later c) (option_map (λ k. 1 + k) o)
text_closed c None = refl
text_closed c (Some n) = refl

text_read : (o : Option WholeLiteral) (c : WholeLiteral) → option_map one_later o ≡ Some c → text_at o ≡ text_of c c.bad_octal
text_read None c e = cc
text_read (Some d) c e =
    let is : one_later d ≡ c = cc in
    text_closed d d.bad_octal ∙ ap (λ x. text_of x x.bad_octal) is

text_open : (o : Option WholeLiteral) → option_map one_later o ≡ None → text_at o ≡ wrong UnfinishedString 0
text_open None e = refl
text_open (Some d) e = cc

after_quote : (bytes : List ℕ) → option_map one_later (literal 0 (drop 1 bytes)) ≡ literal 1 bytes
after_quote [] = refl
after_quote (b ∷ bs) = refl

closing : (bytes : List ℕ) (at : ℕ) → at < length bytes → get_or bytes at 0 ≡ 34 → literal 0 (drop at bytes) ≡ Some closing_quote
closing bytes at lt quote = at_drop_more (literal 0) bytes at 0 lt ∙ ap (λ b. literal 0 (b ∷ drop (at + 1) bytes)) quote

-- the closing quote, where no octal escape was above 255
pub finish : (bytes values : List ℕ) (bad : Option ℕ) (at : ℕ) → Reading bytes values bad at → bad ≡ None → at < length bytes → get_or bytes at 0 ≡ 34 → text_at (literal 0 (drop 1 bytes)) ≡ Ok (tokens.Text values, at + 1)
finish bytes values bad at r none lt quote =
    let c : WholeLiteral = joined r.before bad at closing_quote in
    let read = text_read (literal 0 (drop 1 bytes)) c (after_quote bytes ∙ r.rest ∙ ap (option_map (joined r.before bad at)) (closing bytes at lt quote)) in
    let clean : c.bad_octal ≡ None = or_none bad ∙ none in
    let whole : c.values ≡ values = append-nil r.before ∙ r.same none in
    read ∙ ap (text_of c) clean ∙ ap (λ v. Ok (tokens.Text v, at + 1)) whole

-- the end of the bytes
pub unclosed : (bytes values : List ℕ) (bad : Option ℕ) (at : ℕ) → Reading bytes values bad at → length bytes ≤ at → text_at (literal 0 (drop 1 bytes)) ≡ wrong UnfinishedString 0
unclosed bytes values bad at r past =
    let end : drop at bytes ≡ [] = drop_all at bytes past in
    text_open (literal 0 (drop 1 bytes)) (after_quote bytes ∙ r.rest ∙ ap (λ l. option_map (joined r.before bad at) (literal 0 l)) end)
