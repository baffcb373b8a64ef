-- The place of a text that spells no program is told by the tokens.
use Rattle.std.proofs.Common.{◌≡◌, ℕ, ◌+◌, ◌<◌, ◌≤◌, List, ◌++◌, length, take, drop, sym, ap, ◌∙◌, subst, append_assoc, arith}
use Rattle.std.proofs.lemmas.List.{take-append-le, take-append-drop, length-take-le}
use Rattle.ctd_syntax.specs.Lexeme.{Lexeme}
use Rattle.ctd_syntax.specs.Grammar.{IsCommands}
use Rattle.ctd_syntax.specs.Reading.{BeginsProgram, IsFirstWrong}

take_twice : (m n : ℕ) (ts : List Lexeme) → m ≤ n → n ≤ length ts → take m (take n ts) ≡ take m ts
take_twice m n ts le within =
    let short : m ≤ length (take n ts) = subst (λ k. m ≤ k) (sym (length-take-le n ts within)) le in
    sym (take-append-le m (take n ts) (drop n ts) short) ∙ ap (take m) (take-append-drop n ts)

-- fewer tokens begin a program too
fewer : (m n : ℕ) (ts : List Lexeme) → m ≤ n → n ≤ length ts → BeginsProgram (take n ts) → BeginsProgram (take m ts)
fewer m n ts le within b =
    let parts : take n ts ≡ take m ts ++ drop m (take n ts) = sym (take-append-drop m (take n ts)) ∙ ap (λ l. l ++ drop m (take n ts)) (take_twice m n ts le within) in
    (drop m (take n ts) ++ b.0, b.1, subst (λ l. IsCommands l b.1) (ap (λ l. l ++ b.0) parts ∙ append_assoc (take m ts) (drop m (take n ts)) b.0) b.2)

-- of two numbers of a first wrong token neither is less
pub told : (ts : List Lexeme) (a b : ℕ) → b ≤ length ts → IsFirstWrong ts a → IsFirstWrong ts b → a < b → ⊥
told ts a b within first other less = first.stuck (omega (arith, less, within)) (fewer (1 + a) b ts (omega (arith, less)) within other.goes_on)
