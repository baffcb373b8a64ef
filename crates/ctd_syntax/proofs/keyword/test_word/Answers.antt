use Rattle.std.proofs.Common.{◌≡◌, ap, sym, arith, rules}
use Rattle.std.specs.Prelude.{codes}
use Rattle.std.proofs.lemmas.Slice.Eq.{text_from_reads}
use Rattle.ctd_syntax.specs.inner.Words.{test_word}
use Rattle.ctd_syntax.proofs.keyword.test_word.Goals as goal

pub returns-in-STRLEN : goal.returns-in-STRLEN
returns-in-STRLEN c = let same : c.args.word.now ≡ codes "STRLEN" = text_from_reads _ _ (omega arith) (search rules) in sym (ap test_word same)

pub returns-in-MATCH : goal.returns-in-MATCH
returns-in-MATCH c = let same : c.args.word.now ≡ codes "MATCH" = text_from_reads _ _ (omega arith) (search rules) in sym (ap test_word same)

pub returns-in-ISEOF : goal.returns-in-ISEOF
returns-in-ISEOF c = let same : c.args.word.now ≡ codes "ISEOF" = text_from_reads _ _ (omega arith) (search rules) in sym (ap test_word same)

pub returns-in-UNIQUE : goal.returns-in-UNIQUE
returns-in-UNIQUE c = let same : c.args.word.now ≡ codes "UNIQUE" = text_from_reads _ _ (omega arith) (search rules) in sym (ap test_word same)

pub returns-in-INARRAY : goal.returns-in-INARRAY
returns-in-INARRAY c = let same : c.args.word.now ≡ codes "INARRAY" = text_from_reads _ _ (omega arith) (search rules) in sym (ap test_word same)
