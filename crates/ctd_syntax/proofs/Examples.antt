-- Small texts and what they are.
use Rattle.std.specs.Prelude.{◌≡◌, ℕ, List, replicate, pos, Some, None, refl, [], ◌∷◌, codes, flat_map, take, drop}
use Rattle.ctd_token.specs.declared.token.TokenKind.TheVariants as tokens
use Rattle.ctd_token.specs.declared.token.Mark.TheVariants as marks
use Rattle.ctd_token.specs.declared.token.Token.{Token}
use Rattle.ctd_token.specs.declared.text.Place.{Place}
use Rattle.std.proofs.Common.{lit≤}
use Rattle.ctd_syntax.specs.declared.keyword.Keyword.TheVariants as words
use Rattle.ctd_program.specs.Tree
use Rattle.ctd_syntax.specs.Lexeme.{Lexeme, mark, keyword}
use Rattle.ctd_syntax.specs.Nesting.{start}
use Rattle.ctd_syntax.specs.inner.Nesting.{too_deep}
use Rattle.ctd_syntax.specs.Grammar.{IsExpr, IsProduct, IsSigned, IsPower, product, difference, signed, unsigned, minus, atom, power, positive, negative, numeral, space, newline, int, done, then}
use Rattle.ctd_syntax.specs.Grammar as targets
use Rattle.ctd_syntax.specs.Reading.{Reads, lexemes}
use Rattle.ctd_token.specs.Cut.{Cuts, none, token}
use Rattle.ctd_syntax.proofs.Weights.{never_heavy}

-- `SPACE # x` is read as one command
abbrev pub one_space : List Token
one_space = record { kind = tokens.Word; first = 0; after = 5; place = record { line = 1; column = 1 } } ∷ []

pub reads_space : Reads (codes "SPACE # x") (Tree.then (Tree.space (record { line = 1; column = 1 })) Tree.done)
reads_space = record {
  tokens = one_space;
  is_cut = record { short = lit≤ tt; cut = token refl refl refl refl (none refl) };
  shallow = never_heavy _ refl;
  spells = then {ts = lexemes (codes "SPACE # x") one_space} space done;
}

-- `1-2-3` is (1-2)-3
abbrev pub numeral_at_level : (n : ℕ) → IsProduct (Lexeme.numeral (pos n) ∷ []) (Tree.numeral (pos n))
numeral_at_level n = signed (unsigned (atom numeral))

pub minus_from_the_left : IsExpr
    (Lexeme.numeral (pos 1) ∷ mark marks.Minus ∷ Lexeme.numeral (pos 2) ∷ mark marks.Minus ∷ Lexeme.numeral (pos 3) ∷ [])
    (Tree.difference (Tree.difference (Tree.numeral (pos 1)) (Tree.numeral (pos 2))) (Tree.numeral (pos 3)))
minus_from_the_left = difference {ts = Lexeme.numeral (pos 1) ∷ mark marks.Minus ∷ Lexeme.numeral (pos 2) ∷ []}
    (difference (product (numeral_at_level 1)) (numeral_at_level 2)) (numeral_at_level 3)

-- `-2^2` is -(2^2), and `2^-3^2` is 2^(-(3^2))
pub minus_of_power : IsSigned
    (mark marks.Minus ∷ Lexeme.numeral (pos 2) ∷ mark marks.Caret ∷ Lexeme.numeral (pos 2) ∷ [])
    (Tree.minus (Tree.power (Tree.numeral (pos 2)) (Tree.numeral (pos 2))))
minus_of_power = minus (unsigned (power numeral (positive (atom numeral))))

pub power_of_minus : IsPower
    (Lexeme.numeral (pos 2) ∷ mark marks.Caret ∷ mark marks.Minus ∷ Lexeme.numeral (pos 3) ∷ mark marks.Caret ∷ Lexeme.numeral (pos 2) ∷ [])
    (Tree.power (Tree.numeral (pos 2)) (Tree.minus (Tree.power (Tree.numeral (pos 3)) (Tree.numeral (pos 2)))))
power_of_minus = power numeral (negative (positive (power numeral (positive (atom numeral)))))

-- ASSERT( and opening parentheses: 199 in a row are still allowed behind it, and at the next one the weight passes 200
abbrev pub open_parentheses : ℕ → List Lexeme
open_parentheses n = keyword words.Assert (record { line = 1; column = 1 }) ∷ mark marks.Open ∷ replicate n (mark marks.Open)

pub still_shallow : too_deep start (open_parentheses 199) ≡ None
still_shallow = refl

pub now_deep : too_deep start (open_parentheses 200) ≡ Some 201
now_deep = refl

-- 200 loops of which each is `REP(1)`
abbrev pub loops : ℕ → List Lexeme
loops n = flat_map {X = ℕ} (λ k. keyword words.Rep (record { line = 1; column = 1 }) ∷ mark marks.Open ∷ Lexeme.numeral (pos 1) ∷ mark marks.Close ∷ []) (replicate n 0)

pub loops_allowed : too_deep start (loops 199) ≡ None
loops_allowed = refl

pub loops_too_deep : too_deep start (loops 200) ≡ Some 797
loops_too_deep = refl

-- `INT(1,10) NEWLINE`
abbrev pub one_line_text : List ℕ
one_line_text = codes "INT(1,10) NEWLINE"

abbrev pub at : ℕ → Place
at column = record { line = 1; column = column }

abbrev pub one_line_tokens : List Token
one_line_tokens =
    record { kind = tokens.Word; first = 0; after = 3; place = at 1 }
    ∷ record { kind = tokens.Mark marks.Open; first = 3; after = 4; place = at 4 }
    ∷ record { kind = tokens.Numeral (pos 1); first = 4; after = 5; place = at 5 }
    ∷ record { kind = tokens.Mark marks.Comma; first = 5; after = 6; place = at 6 }
    ∷ record { kind = tokens.Numeral (pos 10); first = 6; after = 8; place = at 7 }
    ∷ record { kind = tokens.Mark marks.Close; first = 8; after = 9; place = at 9 }
    ∷ record { kind = tokens.Word; first = 10; after = 17; place = at 11 } ∷ []

pub one_line_cut : Cuts one_line_text 0 one_line_text one_line_tokens
one_line_cut =
    token refl refl refl refl (token refl refl refl refl (token refl refl refl refl (token refl refl refl refl
    (token refl refl refl refl (token refl refl refl refl (token refl refl refl refl (none refl)))))))

pub reads_one_line : Reads one_line_text (Tree.then (Tree.int (at 1) (Tree.numeral (pos 1)) (Tree.numeral (pos 10)) None) (Tree.then (Tree.newline (at 11)) Tree.done))
reads_one_line = record {
  tokens = one_line_tokens;
  is_cut = record { short = lit≤ tt; cut = one_line_cut };
  shallow = never_heavy _ refl;
  spells = then {ts = lexemes one_line_text (take 6 one_line_tokens)}
      (int {ts = Lexeme.numeral (pos 1) ∷ []} (product (numeral_at_level 1)) (product (numeral_at_level 10)) targets.none)
      (then {ts = lexemes one_line_text (drop 6 one_line_tokens)} newline done);
}
