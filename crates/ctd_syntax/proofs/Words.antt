-- A word is found among all as it is found among those of its kind.
use Rattle.std.proofs.Common.{◌≡◌, ◌∙◌, ℕ, Bool, true, false, List, Some, None, ap, refl, sym, codes, unwrap_or, if◌then◌else◌}
use Rattle.std.specs.Option.{option_map_or}
use Rattle.std.specs.Str.{bytes_eq}
use Rattle.ctd_syntax.specs.declared.keyword.Keyword.{Keyword}
use Rattle.ctd_syntax.specs.declared.keyword.Keyword.TheVariants as words
use Rattle.ctd_syntax.specs.Lexeme.{keyword_of}
use Rattle.ctd_syntax.specs.inner.Words.{block_word, plain_word, test_word}

-- the first of these tests that is true tells the word
first_true : (a1 a2 a3 a4 a5 a6 a7 a8 a9 a10 a11 a12 a13 a14 a15 a16 a17 a18 a19 a20 a21 : Bool) →
    unwrap_or (if a1 then Some words.Space else (if a2 then Some words.Newline else (if a3 then Some words.Eof else (if a4 then Some words.Int else (if a5 then Some words.String else (if a6 then Some (words.Regex) else (if a7 then Some words.Assert else (if a8 then Some words.Set else (if a9 then Some words.Unset else None))))))))) (unwrap_or (if a10 then Some words.Rep else (if a11 then Some words.RepI else (if a12 then Some words.While else (if a13 then Some words.WhileI else (if a14 then Some words.If else (if a15 then Some words.Else else (if a16 then Some words.End else None))))))) (unwrap_or (if a17 then Some words.Strlen else (if a18 then Some words.Match else (if a19 then Some words.IsEof else (if a20 then Some words.Unique else (if a21 then Some words.InArray else None))))) words.Unknown))
    ≡ option_map_or (λ (entry : List ℕ × Keyword). entry.1) (if a1 then Some (codes "SPACE", words.Space) else (if a2 then Some (codes "NEWLINE", words.Newline) else (if a3 then Some (codes "EOF", words.Eof) else (if a4 then Some (codes "INT", words.Int) else (if a5 then Some (codes "STRING", words.String) else (if a6 then Some (codes "REGEX", words.Regex) else (if a7 then Some (codes "ASSERT", words.Assert) else (if a8 then Some (codes "SET", words.Set) else (if a9 then Some (codes "UNSET", words.Unset) else (if a10 then Some (codes "REP", words.Rep) else (if a11 then Some (codes "REPI", words.RepI) else (if a12 then Some (codes "WHILE", words.While) else (if a13 then Some (codes "WHILEI", words.WhileI) else (if a14 then Some (codes "IF", words.If) else (if a15 then Some (codes "ELSE", words.Else) else (if a16 then Some (codes "END", words.End) else (if a17 then Some (codes "STRLEN", words.Strlen) else (if a18 then Some (codes "MATCH", words.Match) else (if a19 then Some (codes "ISEOF", words.IsEof) else (if a20 then Some (codes "UNIQUE", words.Unique) else (if a21 then Some (codes "INARRAY", words.InArray) else None))))))))))))))))))))) words.Unknown
first_true true _ _ _ _ _ _ _ _ _ _ _ _ _ _ _ _ _ _ _ _ = refl
first_true false true _ _ _ _ _ _ _ _ _ _ _ _ _ _ _ _ _ _ _ = refl
first_true false false true _ _ _ _ _ _ _ _ _ _ _ _ _ _ _ _ _ _ = refl
first_true false false false true _ _ _ _ _ _ _ _ _ _ _ _ _ _ _ _ _ = refl
first_true false false false false true _ _ _ _ _ _ _ _ _ _ _ _ _ _ _ _ = refl
first_true false false false false false true _ _ _ _ _ _ _ _ _ _ _ _ _ _ _ = refl
first_true false false false false false false true _ _ _ _ _ _ _ _ _ _ _ _ _ _ = refl
first_true false false false false false false false true _ _ _ _ _ _ _ _ _ _ _ _ _ = refl
first_true false false false false false false false false true _ _ _ _ _ _ _ _ _ _ _ _ = refl
first_true false false false false false false false false false true _ _ _ _ _ _ _ _ _ _ _ = refl
first_true false false false false false false false false false false true _ _ _ _ _ _ _ _ _ _ = refl
first_true false false false false false false false false false false false true _ _ _ _ _ _ _ _ _ = refl
first_true false false false false false false false false false false false false true _ _ _ _ _ _ _ _ = refl
first_true false false false false false false false false false false false false false true _ _ _ _ _ _ _ = refl
first_true false false false false false false false false false false false false false false true _ _ _ _ _ _ = refl
first_true false false false false false false false false false false false false false false false true _ _ _ _ _ = refl
first_true false false false false false false false false false false false false false false false false true _ _ _ _ = refl
first_true false false false false false false false false false false false false false false false false false true _ _ _ = refl
first_true false false false false false false false false false false false false false false false false false false true _ _ = refl
first_true false false false false false false false false false false false false false false false false false false false true _ = refl
first_true false false false false false false false false false false false false false false false false false false false false true = refl
first_true false false false false false false false false false false false false false false false false false false false false false = refl

-- a word of the first kind that knows it
pub by_kinds : (w : List ℕ) → unwrap_or (plain_word w) (unwrap_or (block_word w) (unwrap_or (test_word w) words.Unknown)) ≡ keyword_of w
by_kinds w = first_true
    (bytes_eq w (codes "SPACE"))
    (bytes_eq w (codes "NEWLINE"))
    (bytes_eq w (codes "EOF"))
    (bytes_eq w (codes "INT"))
    (bytes_eq w (codes "STRING"))
    (bytes_eq w (codes "REGEX"))
    (bytes_eq w (codes "ASSERT"))
    (bytes_eq w (codes "SET"))
    (bytes_eq w (codes "UNSET"))
    (bytes_eq w (codes "REP"))
    (bytes_eq w (codes "REPI"))
    (bytes_eq w (codes "WHILE"))
    (bytes_eq w (codes "WHILEI"))
    (bytes_eq w (codes "IF"))
    (bytes_eq w (codes "ELSE"))
    (bytes_eq w (codes "END"))
    (bytes_eq w (codes "STRLEN"))
    (bytes_eq w (codes "MATCH"))
    (bytes_eq w (codes "ISEOF"))
    (bytes_eq w (codes "UNIQUE"))
    (bytes_eq w (codes "INARRAY"))

-- a word of commands without a block
pub is_plain : (w : List ℕ) (k : Keyword) → plain_word w ≡ Some k → k ≡ keyword_of w
is_plain w k is = ap (λ o. unwrap_or o (unwrap_or (block_word w) (unwrap_or (test_word w) words.Unknown))) (sym is) ∙ by_kinds w

-- a word of blocks
pub is_block : (w : List ℕ) (k : Keyword) → plain_word w ≡ None → block_word w ≡ Some k → k ≡ keyword_of w
is_block w k no_plain is =
    ap (λ o. unwrap_or o (unwrap_or (test_word w) words.Unknown)) (sym is) ∙ ap (λ o. unwrap_or o (unwrap_or (block_word w) (unwrap_or (test_word w) words.Unknown))) (sym no_plain) ∙ by_kinds w

-- a word of tests, or an unknown one
pub is_other : (w : List ℕ) → plain_word w ≡ None → block_word w ≡ None → unwrap_or (test_word w) words.Unknown ≡ keyword_of w
is_other w no_plain no_block =
    ap (λ o. unwrap_or o (unwrap_or (test_word w) words.Unknown)) (sym no_block) ∙ ap (λ o. unwrap_or o (unwrap_or (block_word w) (unwrap_or (test_word w) words.Unknown))) (sym no_plain) ∙ by_kinds w
