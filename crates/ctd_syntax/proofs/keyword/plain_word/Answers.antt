use Rattle.std.proofs.Common.{◌≡◌, ap, sym, arith, rules}
use Rattle.std.specs.Prelude.{codes}
use Rattle.std.proofs.lemmas.Slice.Eq.{text_from_reads}
use Rattle.ctd_syntax.specs.inner.Words.{plain_word}
use Rattle.ctd_syntax.proofs.keyword.plain_word.Goals as goal

pub returns-in-SPACE : goal.returns-in-SPACE
returns-in-SPACE c = let same : c.args.word.now ≡ codes "SPACE" = text_from_reads _ _ (omega arith) (search rules) in sym (ap plain_word same)

pub returns-in-NEWLINE : goal.returns-in-NEWLINE
returns-in-NEWLINE c = let same : c.args.word.now ≡ codes "NEWLINE" = text_from_reads _ _ (omega arith) (search rules) in sym (ap plain_word same)

pub returns-in-STRING : goal.returns-in-STRING
returns-in-STRING c = let same : c.args.word.now ≡ codes "STRING" = text_from_reads _ _ (omega arith) (search rules) in sym (ap plain_word same)

pub returns-in-REGEX : goal.returns-in-REGEX
returns-in-REGEX c = let same : c.args.word.now ≡ codes "REGEX" = text_from_reads _ _ (omega arith) (search rules) in sym (ap plain_word same)

pub returns-in-ASSERT : goal.returns-in-ASSERT
returns-in-ASSERT c = let same : c.args.word.now ≡ codes "ASSERT" = text_from_reads _ _ (omega arith) (search rules) in sym (ap plain_word same)

pub returns-in-UNSET : goal.returns-in-UNSET
returns-in-UNSET c = let same : c.args.word.now ≡ codes "UNSET" = text_from_reads _ _ (omega arith) (search rules) in sym (ap plain_word same)

pub returns-in-EOF : goal.returns-in-EOF
returns-in-EOF c = let same : c.args.word.now ≡ codes "EOF" = text_from_reads _ _ (omega arith) (search rules) in sym (ap plain_word same)

pub returns-in-INT : goal.returns-in-INT
returns-in-INT c = let same : c.args.word.now ≡ codes "INT" = text_from_reads _ _ (omega arith) (search rules) in sym (ap plain_word same)

pub returns-in-SET : goal.returns-in-SET
returns-in-SET c = let same : c.args.word.now ≡ codes "SET" = text_from_reads _ _ (omega arith) (search rules) in sym (ap plain_word same)
