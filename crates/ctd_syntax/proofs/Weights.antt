-- The weights of the prefixes of some tokens, told by one walk over them.
use Rattle.std.proofs.Common.{◌≡◌, ℕ, zero, suc, ◌+◌, ◌<◌, ◌≤◌, List, [], ◌∷◌, length, Option, Some, None, option_map, if◌then◌else◌, Bool, true, false, nat_lt, ltb-false, refl, subst, arith}
use Rattle.std.proofs.lemmas.Bool.{ltb-true}
use Rattle.std.specs.Prelude.{take, fold}
use Rattle.ctd_syntax.specs.Lexeme.{Lexeme}
use Rattle.ctd_syntax.specs.Nesting.{change_of, step, start, weight, IsShallow, PassesLimitAt}
use Rattle.ctd_syntax.specs.inner.Nesting.{too_deep}
use Rattle.ctd_syntax.specs.Grammar.{IsCommands}
use Rattle.ctd_syntax.specs.Reading.{Parses, lexemes}
use Rattle.ctd_program.specs.Tree.{CommandList}
use Rattle.ctd_program.specs.calls.Blocks.{list_blocks}
use Rattle.ctd_token.specs.declared.limits.TheConstants.{NESTING_LIMIT}
use Rattle.ctd_syntax.proofs.Blocks.{blocks_within, next}

-- the weight behind some tokens, of which the first stands behind these counters
abbrev weight_from : ℕ × List ℕ → List Lexeme → ℕ
weight_from counters ts = weight (fold (λ c t. step (change_of t) c) counters ts)

light_from : (counters : ℕ × List ℕ) (ts : List Lexeme) → weight counters ≤ NESTING_LIMIT → too_deep counters ts ≡ None → (n : ℕ) → weight_from counters (take n ts) ≤ NESTING_LIMIT
light_from counters ts light none zero = light
light_from counters [] light none (suc n) = light
light_from counters (t ∷ ts) light none (suc n) = let both = next counters t ts none in light_from (step (change_of t) counters) ts both.0 both.1 n

-- where no token is found too deep, no prefix is
pub never_heavy : (ts : List Lexeme) → too_deep start ts ≡ None → IsShallow ts
never_heavy ts none = light_from start ts (omega arith) none

record IsHeavyFrom (counters : ℕ × List ℕ) (ts : List Lexeme) (before : ℕ) : Type 0 where
  pub within : before < length ts
  pub light : (n : ℕ) → n ≤ before → weight_from counters (take n ts) ≤ NESTING_LIMIT
  pub heavy : NESTING_LIMIT < weight_from counters (take (1 + before) ts)

-- the first token passes the limit
at_first : (counters : ℕ × List ℕ) (t : Lexeme) (ts : List Lexeme) → weight counters ≤ NESTING_LIMIT → nat_lt NESTING_LIMIT (weight (step (change_of t) counters)) ≡ true → IsHeavyFrom counters (t ∷ ts) 0
at_first counters t ts light is = record {
  within = omega arith;
  light = λ n le. let none : 0 ≡ n = omega (arith, le) in subst (λ n. weight_from counters (take n (t ∷ ts)) ≤ NESTING_LIMIT) none light;
  heavy = ltb-true NESTING_LIMIT (weight (step (change_of t) counters)) is;
}

-- a later one does
light_later : (counters : ℕ × List ℕ) (t : Lexeme) (ts : List Lexeme) (k : ℕ) → weight counters ≤ NESTING_LIMIT → IsHeavyFrom (step (change_of t) counters) ts k → (n : ℕ) → n ≤ k + 1 → weight_from counters (take n (t ∷ ts)) ≤ NESTING_LIMIT
light_later counters t ts k light h zero le = light
light_later counters t ts k light h (suc n) le = h.light n (omega (arith, le))

at_later : (counters : ℕ × List ℕ) (t : Lexeme) (ts : List Lexeme) (k : ℕ) → weight counters ≤ NESTING_LIMIT → IsHeavyFrom (step (change_of t) counters) ts k → IsHeavyFrom counters (t ∷ ts) (k + 1)
at_later counters t ts k light h = record {
  within = omega (arith, h.within);
  light = light_later counters t ts k light h;
  heavy = let same : suc (1 + k) ≡ 1 + (k + 1) = omega arith in subst (λ n. NESTING_LIMIT < weight_from counters (take n (t ∷ ts))) same h.heavy;
}

by_rest : (counters : ℕ × List ℕ) (t : Lexeme) (ts : List Lexeme) (before : ℕ) (rest : Option ℕ) → weight counters ≤ NESTING_LIMIT → ((k : ℕ) → rest ≡ Some k → IsHeavyFrom (step (change_of t) counters) ts k)
    → option_map (λ n. n + 1) rest ≡ Some before → IsHeavyFrom counters (t ∷ ts) before
by_rest counters t ts before None light later e = absurd (cc)
by_rest counters t ts before (Some k) light later e = let same : k + 1 ≡ before = cc in subst (IsHeavyFrom counters (t ∷ ts)) same (at_later counters t ts k light (later k refl))

by_first : (counters : ℕ × List ℕ) (t : Lexeme) (ts : List Lexeme) (before : ℕ) (heavy : Bool) → nat_lt NESTING_LIMIT (weight (step (change_of t) counters)) ≡ heavy → weight counters ≤ NESTING_LIMIT
    → (weight (step (change_of t) counters) ≤ NESTING_LIMIT → (k : ℕ) → too_deep (step (change_of t) counters) ts ≡ Some k → IsHeavyFrom (step (change_of t) counters) ts k)
    → (if heavy then Some 0 else option_map (λ n. n + 1) (too_deep (step (change_of t) counters) ts)) ≡ Some before → IsHeavyFrom counters (t ∷ ts) before
by_first counters t ts before true is light later e = let same : 0 ≡ before = cc in subst (IsHeavyFrom counters (t ∷ ts)) same (at_first counters t ts light is)
by_first counters t ts before false is light later e = by_rest counters t ts before (too_deep (step (change_of t) counters) ts) light (later (ltb-false NESTING_LIMIT (weight (step (change_of t) counters)) is)) e

heavy_from : (counters : ℕ × List ℕ) (ts : List Lexeme) (before : ℕ) → weight counters ≤ NESTING_LIMIT → too_deep counters ts ≡ Some before → IsHeavyFrom counters ts before
heavy_from counters [] before light e = absurd (cc)
heavy_from counters (t ∷ ts) before light e =
    by_first counters t ts before (nat_lt NESTING_LIMIT (weight (step (change_of t) counters))) refl light (λ within k is. heavy_from (step (change_of t) counters) ts k within is) e

-- the token that is found too deep is the first behind which the weight passes the limit
pub first_heavy : (ts : List Lexeme) (before : ℕ) → too_deep start ts ≡ Some before → PassesLimitAt ts before
first_heavy ts before e = let h = heavy_from start ts before (omega arith) e in record { within = h.within; light = h.light; heavy = h.heavy }

-- tokens that do not nest too deep spell commands with few blocks in one another
blocks_of_shallow : (ts : List Lexeme) (tree : CommandList) (found : Option ℕ) → IsShallow ts → IsCommands ts tree → too_deep start ts ≡ found → list_blocks tree ≤ NESTING_LIMIT
blocks_of_shallow ts tree None shallow spells is = blocks_within ts tree spells is
blocks_of_shallow ts tree (Some n) shallow spells is = let h = first_heavy ts n is in omega (arith, h.heavy, shallow (1 + n))

-- at most NESTING_LIMIT blocks are open at any command of a program that a text spells
pub few_blocks : (program : List ℕ) (tree : CommandList) → Parses program tree → list_blocks tree ≤ NESTING_LIMIT
few_blocks program tree p =
    let ts = lexemes program p.reads.tokens in
    blocks_of_shallow ts tree (too_deep start ts) p.reads.shallow p.reads.spells refl
