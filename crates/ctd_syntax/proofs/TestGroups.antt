-- How many of the parentheses at the front of some tokens hold a test.
use Rattle.std.proofs.Common.{◌≡◌, ◌≢◌, ◌<◌, ◌≤◌, ℕ, zero, suc, ◌+◌, ◌-◌, List, [], ◌∷◌, ◌++◌, true, false, if◌then◌else◌, Option, Some, None, option_map, refl, sym, ap, ◌∙◌, subst, arith}
use Rattle.ctd_token.specs.declared.token.Mark.TheVariants.{Open}
use Rattle.ctd_syntax.specs.declared.condition.TokenRole.{TokenRole}
use Rattle.ctd_syntax.specs.declared.condition.TokenRole.TheVariants.{Tests, Opens, Closes, Keeps}
use Rattle.ctd_syntax.specs.Lexeme.{Lexeme, mark}
use Rattle.ctd_syntax.specs.inner.TestGrammar.{AreGroups, closes_before_test, closes_before_test_at, depth_after, role_of, holds_test, is_test, is_enough, one_more, openings, opens}

-- one parenthesis more, where one more is needed
within_more : (n : ℕ) (o : Option ℕ) → is_enough (suc n) (one_more o) ≡ is_enough n o
within_more n None = refl
within_more n (Some m) = refl

never_within : (o : Option ℕ) → is_enough 0 (one_more o) ≡ false
never_within None = refl
never_within (Some m) = refl

-- as many as are needed, and fewer
enough : (m n : ℕ) → m ≤ n → is_enough n (Some m) ≡ true
enough zero n h = refl
enough (suc m) zero h = absurd (omega (arith, h))
enough (suc m) (suc n) h = enough m n (omega (arith, h))

too_few : (m n : ℕ) → n < m → is_enough n (Some m) ≡ false
too_few zero n h = absurd (omega (arith, h))
too_few (suc m) zero h = refl
too_few (suc m) (suc n) h = too_few m n (omega (arith, h))

-- a test stands before n parentheses and d more are closed where n are enough
holds_token : (e : TokenRole) (n d k : ℕ) (ts : List Lexeme) → k ≡ n + d → ((n d k : ℕ) → k ≡ n + d → holds_test (Some k) ts ≡ is_enough n (closes_before_test d ts)) → (if is_test e then true else holds_test (depth_after e k) ts) ≡ is_enough n (closes_before_test_at e d (λ x. closes_before_test x ts))
holds_token Tests n d k ts e rest = refl
holds_token Opens n d k ts e rest = rest n (suc d) (suc k) (omega (arith, e))
holds_token Closes zero zero zero ts e rest = sym (never_within (closes_before_test 0 ts))
holds_token Closes zero zero (suc k) ts e rest = absurd (omega (arith, e))
holds_token Closes (suc n) zero zero ts e rest = absurd (omega (arith, e))
holds_token Closes (suc n) zero (suc k) ts e rest = rest n 0 k (omega (arith, e)) ∙ sym (within_more n (closes_before_test 0 ts))
holds_token Closes n (suc d) zero ts e rest = absurd (omega (arith, e))
holds_token Closes n (suc d) (suc k) ts e rest = rest n d k (omega (arith, e))
holds_token Keeps n d k ts e rest = rest n d k e

pub holds_within : (ts : List Lexeme) (n d k : ℕ) → k ≡ n + d → holds_test (Some k) ts ≡ is_enough n (closes_before_test d ts)
holds_within [] n d k e = refl
holds_within (t ∷ ts) n d k e = holds_token (role_of t) n d k ts e (holds_within ts)

-- past parentheses that open
holds_opened : (n d k : ℕ) (ts : List Lexeme) → k ≡ n + d → holds_test (Some d) (openings n ++ ts) ≡ holds_test (Some k) ts
holds_opened zero d k ts e = let same : d ≡ k = omega (arith, e) in ap (λ x. holds_test (Some x) ts) same
holds_opened (suc n) d k ts e = holds_opened n (suc d) k ts (omega (arith, e))

opened_within : (n : ℕ) (ts : List Lexeme) → holds_test (Some 0) (openings n ++ ts) ≡ is_enough n (closes_before_test 0 ts)
opened_within n ts = holds_opened n 0 n ts (omega arith) ∙ holds_within ts n 0 n (omega arith)

-- no parenthesis holds one where they are too few
none_hold : (n : ℕ) (ts : List Lexeme) → opens ts ≡ false → ((m : ℕ) → m < n → is_enough m (closes_before_test 0 ts) ≡ false) → AreGroups 0 (openings n ++ ts)
none_hold zero ts ended few r e = absurd (let clash : true ≡ false = ap opens (sym e) ∙ ended in cc)
none_hold (suc n) ts ended few r e =
    let tail : openings n ++ ts ≡ r = cc in
    subst (λ l. holds_test (Some 0) l ≡ false) tail (opened_within n ts ∙ few n (omega arith))

-- where m are needed, all but the innermost m do
some_hold : (l m : ℕ) (ts : List Lexeme) → opens ts ≡ false → closes_before_test 0 ts ≡ Some m → AreGroups l (openings (l + m) ++ ts)
some_hold zero m ts ended e = let same : m ≡ 0 + m = omega arith in subst (λ k. AreGroups 0 (openings k ++ ts)) same (none_hold m ts ended (λ k less. ap (is_enough k) e ∙ too_few m k less))
some_hold (suc l) m ts ended e =
    let more : suc (l + m) ≡ suc l + m = omega arith in
    (openings (l + m) ++ ts, ap (λ k. openings k ++ ts) (sym more), opened_within (l + m) ts ∙ ap (is_enough (l + m)) e ∙ enough m (l + m) (omega arith), some_hold l m ts ended e)

-- the parentheses at the front of some tokens, and what needs how many
pub groups_some : (n m : ℕ) (tokens ts : List Lexeme) → tokens ≡ openings n ++ ts → opens ts ≡ false → closes_before_test 0 ts ≡ Some m → m < n → AreGroups (n - m) tokens
groups_some n m tokens ts split ended e less =
    let whole : (n - m) + m ≡ n = omega (arith, less) in
    subst (AreGroups (n - m)) (sym split) (subst (λ k. AreGroups (n - m) (openings k ++ ts)) whole (some_hold (n - m) m ts ended e))

pub groups_none : (n : ℕ) (tokens ts : List Lexeme) → tokens ≡ openings n ++ ts → opens ts ≡ false → ((m : ℕ) → m < n → is_enough m (closes_before_test 0 ts) ≡ false) → AreGroups 0 tokens
groups_none n tokens ts split ended few = subst (AreGroups 0) (sym split) (none_hold n ts ended few)

-- the first of some parentheses that hold a test, and the others
pub group_is : (n : ℕ) (tokens r : List Lexeme) → AreGroups n tokens → n ≢ 0 → tokens ≡ mark Open ∷ r → (holds_test (Some 0) r ≡ true) × AreGroups (n - 1) r
group_is zero tokens r groups some e = absurd (some refl)
group_is (suc n) tokens r (s, is, holds, further) some e =
    let whole : mark Open ∷ s ≡ mark Open ∷ r = sym is ∙ e in
    let tail : s ≡ r = cc in
    let one : n ≡ suc n - 1 = omega arith in
    (subst (λ l. holds_test (Some 0) l ≡ true) tail holds, subst (λ k. AreGroups k r) one (subst (AreGroups n) tail further))

-- parentheses that are all closed are not enough
pub exhausted : (closed limit : ℕ) (o inner : Option ℕ) → o ≡ option_map (λ k. closed + k) inner → limit ≤ closed → (n : ℕ) → n < limit → is_enough n o ≡ false
exhausted closed limit o None e h n less = ap (is_enough n) e
exhausted closed limit o (Some k) e h n less = ap (is_enough n) e ∙ too_few (closed + k) n (omega (arith, h, less))
