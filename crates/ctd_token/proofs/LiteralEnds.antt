-- Where a literal closes does not depend on what follows it.
use Rattle.std.proofs.Common.{◌≡◌, ℕ, zero, suc, ◌+◌, ◌-◌, ◌≤◌, ◌<◌, min, Bool, true, false, cond, nat_eq, List, [], ◌∷◌, ◌++◌, length, take, drop, Option, Some, None, refl, sym, ap, ◌∙◌, arith, length-take, inl, inr}
use Rattle.std.specs.Option.{option_map}
use Rattle.std.specs.List.{prefix_len}
use Rattle.std.proofs.lemmas.List.{take-append-le, take-append-drop}
use Rattle.std.proofs.lemmas.Bool.{cases_lt}
use Rattle.std.proofs.lemmas.List.Sums.{prefix_len-le-length}
use Rattle.ctd_token.specs.StringLiteral.{literal_part, is_octal, octal_len, octal, octal_escape, escape, after_backslash, part_at, WholeLiteral, one_later, with_part, literal}
use Rattle.ctd_token.specs.inner.StringLiteral.{closing_quote}

-- what stands behind a prefix does not change the row at its front, unless the row is the whole prefix
row_by : (b : Bool) (more less : ℕ) (k : ℕ) → (less < k → more ≡ less) → (k ≤ less → less ≤ more) → cond b (1 + less) 0 < suc k → cond b (1 + more) 0 ≡ cond b (1 + less) 0
row_by true more less k same long lt = ap (λ n. 1 + n) (same (omega arith))
row_by false more less k same long lt = refl

row_long : (b : Bool) (more less k : ℕ) → less ≤ more → cond b (1 + less) 0 ≤ cond b (1 + more) 0
row_long true more less k le = omega arith
row_long false more less k le = omega arith

row_grows : (p : ℕ → Bool) (xs ys : List ℕ) → prefix_len p xs ≤ prefix_len p (xs ++ ys)
row_grows p [] ys = omega arith
row_grows p (x ∷ xs) ys = row_long (p x) (prefix_len p (xs ++ ys)) (prefix_len p xs) (length xs) (row_grows p xs ys)

row_stays : (p : ℕ → Bool) (xs ys : List ℕ) → prefix_len p xs < length xs → prefix_len p (xs ++ ys) ≡ prefix_len p xs
row_stays p [] ys lt = absurd (omega (arith, lt))
row_stays p (x ∷ xs) ys lt = row_by (p x) (prefix_len p (xs ++ ys)) (prefix_len p xs) (length xs) (row_stays p xs ys) (λ _. row_grows p xs ys) lt

octal_by : (more less k : ℕ) → less ≤ more → (less < k → more ≡ less) → less ≤ k → min 3 less < k → min 3 more ≡ min 3 less
octal_by more less k grows stays within lt = elim (cases_lt less k) [ inl short ↦ ap (min 3) (stays short) | inr long ↦ omega (arith, grows, lt, long) ]

-- an octal escape that ends before the end of a prefix
octal_len-append : (xs ys : List ℕ) → octal_len xs < length xs → octal_len (xs ++ ys) ≡ octal_len xs
octal_len-append xs ys lt =
    octal_by (prefix_len is_octal (xs ++ ys)) (prefix_len is_octal xs) (length xs) (row_grows is_octal xs ys) (row_stays is_octal xs ys) (prefix_len-le-length is_octal xs) lt

octal_escape-append : (xs ys : List ℕ) → octal_len xs < length xs → octal_escape (xs ++ ys) ≡ octal_escape xs
octal_escape-append xs ys lt =
    let len = octal_len-append xs ys lt in
    let le : octal_len xs ≤ length xs = omega arith in
    ap (λ n. literal_part (octal (take n (xs ++ ys)) ∷ []) (1 + n)) len ∙ ap (λ digits. literal_part (octal digits ∷ []) (1 + octal_len xs)) (take-append-le (octal_len xs) xs ys le)

-- a part that ends before the end of a prefix
after_by : (b : Bool) (d : ℕ) (ds ys : List ℕ) → (cond b (octal_escape (d ∷ ds)) (escape d)).length < suc (length (d ∷ ds)) → cond b (octal_escape (d ∷ ds ++ ys)) (escape d) ≡ cond b (octal_escape (d ∷ ds)) (escape d)
after_by true d ds ys lt = octal_escape-append (d ∷ ds) ys (omega (arith, lt))
after_by false d ds ys lt = refl

after_backslash-append : (xs ys : List ℕ) → 0 < length xs → (after_backslash xs).length < suc (length xs) → after_backslash (xs ++ ys) ≡ after_backslash xs
after_backslash-append [] ys some lt = absurd (omega (arith, some))
after_backslash-append (d ∷ ds) ys some lt = after_by (is_octal d) d ds ys lt

part_by : (b : Bool) (x : ℕ) (xs ys : List ℕ) → 0 < length xs → (cond b (after_backslash xs) (literal_part (x ∷ []) 1)).length < suc (length xs)
    → cond b (after_backslash (xs ++ ys)) (literal_part (x ∷ []) 1) ≡ cond b (after_backslash xs) (literal_part (x ∷ []) 1)
part_by true x xs ys some lt = after_backslash-append xs ys some lt
part_by false x xs ys some lt = refl

pub part_at-append : (x : ℕ) (xs ys : List ℕ) → 0 < length xs → (part_at x xs).length ≤ length xs → part_at x (xs ++ ys) ≡ part_at x xs
part_at-append x xs ys some le = part_by (nat_eq x 92) x xs ys some (omega (arith, le))

-- a part of a prefix is no longer than that of the whole
after_grows : (b : Bool) (d : ℕ) (ds ys : List ℕ) → (cond b (octal_escape (d ∷ ds)) (escape d)).length ≤ (cond b (octal_escape (d ∷ ds ++ ys)) (escape d)).length
after_grows true d ds ys = omega (arith, row_grows is_octal (d ∷ ds) ys)
after_grows false d ds ys = omega arith

after_backslash_grows : (xs ys : List ℕ) → 0 < length xs → (after_backslash xs).length ≤ (after_backslash (xs ++ ys)).length
after_backslash_grows [] ys some = absurd (omega (arith, some))
after_backslash_grows (d ∷ ds) ys some = after_grows (is_octal d) d ds ys

part_grows : (b : Bool) (x : ℕ) (xs ys : List ℕ) → 0 < length xs
    → (cond b (after_backslash xs) (literal_part (x ∷ []) 1)).length ≤ (cond b (after_backslash (xs ++ ys)) (literal_part (x ∷ []) 1)).length
part_grows true x xs ys some = after_backslash_grows xs ys some
part_grows false x xs ys some = omega arith

-- a part that ends within a prefix is the part there
part_at-take : (x k : ℕ) (xs : List ℕ) → 0 < length (take k xs) → (part_at x xs).length ≤ length (take k xs) → part_at x (take k xs) ≡ part_at x xs
part_at-take x k xs some le =
    let whole : take k xs ++ drop k xs ≡ xs = take-append-drop k xs in
    let grows : (part_at x (take k xs)).length ≤ (part_at x (take k xs ++ drop k xs)).length = part_grows (nat_eq x 92) x (take k xs) (drop k xs) some in
    let is : (part_at x (take k xs ++ drop k xs)).length ≡ (part_at x xs).length = ap (λ ys. (part_at x ys).length) whole in
    sym (part_at-append x (take k xs) (drop k xs) some (omega (arith, grows, is, le))) ∙ ap (part_at x) whole

-- a literal that closes has bytes past those that are skipped, and is no longer than its bytes
pub record ClosesWithin (skipped : ℕ) (bytes : List ℕ) (c : WholeLiteral) : Type 0 where
  pub past : skipped < c.length
  pub within : c.length ≤ length bytes

-- what an optional value was made of
pub record IsMadeBy {A : Type 0} (f : WholeLiteral → A) (o : Option WholeLiteral) (y : A) : Type 0 where
  pub from : WholeLiteral
  pub is : o ≡ Some from
  pub gives : f from ≡ y

made_by : {A : Type 0} (f : WholeLiteral → A) (o : Option WholeLiteral) (y : A) → option_map f o ≡ Some y → IsMadeBy f o y
made_by f None y e = absurd (let never : ⊥ = cc in never)
made_by f (Some x) y e = record { from = x; is = refl; gives = cc }

abbrev read_on : ℕ → List ℕ → Option WholeLiteral
read_on b bs = option_map (with_part (part_at b bs)) (literal ((part_at b bs).length - 1) bs)

closes_by : (quote : Bool) (b : ℕ) (bs : List ℕ) (c : WholeLiteral) → ((n : ℕ) (d : WholeLiteral) → literal n bs ≡ Some d → ClosesWithin n bs d)
    → cond quote (Some closing_quote) (read_on b bs) ≡ Some c → ClosesWithin 0 (b ∷ bs) c
closes_by true b bs c rest e =
    let same : closing_quote ≡ c = cc in
    let one : 1 ≡ c.length = ap (λ x. x.length) same in
    record { past = omega (arith, one); within = omega (arith, one) }
closes_by false b bs c rest e =
    let p = part_at b bs in
    let made = made_by (with_part p) (literal (p.length - 1) bs) c e in
    let inner = rest (p.length - 1) made.from made.is in
    let longer : 1 + made.from.length ≡ c.length = ap (λ x. x.length) made.gives in
    record { past = omega (arith, longer); within = omega (arith, inner.within, longer) }

pub closes_within : (skipped : ℕ) (bytes : List ℕ) (c : WholeLiteral) → literal skipped bytes ≡ Some c → ClosesWithin skipped bytes c
closes_within skipped [] c e = absurd (let never : ⊥ = cc in never)
closes_within (suc n) (b ∷ bs) c e =
    let made = made_by one_later (literal n bs) c e in
    let inner = closes_within n bs made.from made.is in
    let longer : 1 + made.from.length ≡ c.length = ap (λ x. x.length) made.gives in
    record { past = omega (arith, inner.past, longer); within = omega (arith, inner.within, longer) }
closes_within zero (b ∷ bs) c e = closes_by (nat_eq b 34) b bs c (λ n d h. closes_within n bs d h) e

-- a literal that closes in a prefix closes there in the whole
longer_by : (quote : Bool) (b : ℕ) (bs ys : List ℕ) (c : WholeLiteral) → ((n : ℕ) (d : WholeLiteral) → literal n bs ≡ Some d → literal n (bs ++ ys) ≡ Some d)
    → cond quote (Some closing_quote) (read_on b bs) ≡ Some c → cond quote (Some closing_quote) (read_on b (bs ++ ys)) ≡ Some c
longer_by true b bs ys c rest e = e
longer_by false b bs ys c rest e =
    let p = part_at b bs in
    let made = made_by (with_part p) (literal (p.length - 1) bs) c e in
    let inside = closes_within (p.length - 1) bs made.from made.is in
    let same : part_at b (bs ++ ys) ≡ p = part_at-append b bs ys (omega (arith, inside.past, inside.within)) (omega (arith, inside.past, inside.within)) in
    ap (λ q. option_map (with_part q) (literal (q.length - 1) (bs ++ ys))) same
    ∙ ap (option_map (with_part p)) (rest (p.length - 1) made.from made.is)
    ∙ ap Some made.gives

pub literal-append : (skipped : ℕ) (bytes ys : List ℕ) (c : WholeLiteral) → literal skipped bytes ≡ Some c → literal skipped (bytes ++ ys) ≡ Some c
literal-append skipped [] ys c e = absurd (let never : ⊥ = cc in never)
literal-append (suc n) (b ∷ bs) ys c e =
    let made = made_by one_later (literal n bs) c e in
    ap (option_map one_later) (literal-append n bs ys made.from made.is) ∙ ap Some made.gives
literal-append zero (b ∷ bs) ys c e = longer_by (nat_eq b 34) b bs ys c (λ n d h. literal-append n bs ys d h) e

-- a literal that closes within a prefix closes there
shorter_by : (quote : Bool) (b k : ℕ) (bs : List ℕ) (c : WholeLiteral) → c.length ≤ suc k → ((n : ℕ) (d : WholeLiteral) → d.length ≤ k → literal n bs ≡ Some d → literal n (take k bs) ≡ Some d)
    → cond quote (Some closing_quote) (read_on b bs) ≡ Some c → cond quote (Some closing_quote) (read_on b (take k bs)) ≡ Some c
shorter_by true b k bs c le rest e = e
shorter_by false b k bs c le rest e =
    let p = part_at b bs in
    let made = made_by (with_part p) (literal (p.length - 1) bs) c e in
    let inside = closes_within (p.length - 1) bs made.from made.is in
    let longer : 1 + made.from.length ≡ c.length = ap (λ x. x.length) made.gives in
    let short : made.from.length ≤ k = omega (arith, longer, le) in
    let len : length (take k bs) ≡ min k (length bs) = length-take k bs in
    let same : part_at b (take k bs) ≡ p = part_at-take b k bs (omega (arith, len, short, inside.past, inside.within)) (omega (arith, len, short, inside.past, inside.within)) in
    ap (λ q. option_map (with_part q) (literal (q.length - 1) (take k bs))) same
    ∙ ap (option_map (with_part p)) (rest (p.length - 1) made.from short made.is)
    ∙ ap Some made.gives

pub literal-take : (skipped k : ℕ) (bytes : List ℕ) (c : WholeLiteral) → c.length ≤ k → literal skipped bytes ≡ Some c → literal skipped (take k bytes) ≡ Some c
literal-take skipped k [] c le e = absurd (let never : ⊥ = cc in never)
literal-take skipped zero (b ∷ bs) c le e = absurd (omega (arith, le, (closes_within skipped (b ∷ bs) c e).past))
literal-take (suc n) (suc k) (b ∷ bs) c le e =
    let made = made_by one_later (literal n bs) c e in
    let longer : 1 + made.from.length ≡ c.length = ap (λ x. x.length) made.gives in
    ap (option_map one_later) (literal-take n k bs made.from (omega (arith, longer, le)) made.is) ∙ ap Some made.gives
literal-take zero (suc k) (b ∷ bs) c le e = shorter_by (nat_eq b 34) b k bs c le (λ n d short h. literal-take n k bs d short h) e
