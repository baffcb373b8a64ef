use Rattle.std.proofs.Common.{◌≡◌, ap, sym, arith, rules}
use Rattle.std.specs.Prelude.{codes}
use Rattle.std.proofs.lemmas.Slice.Eq.{text_from_reads}
use Rattle.ctd_syntax.specs.inner.Words.{block_word}
use Rattle.ctd_syntax.proofs.keyword.block_word.Goals as goal

pub returns-in-WHILE : goal.returns-in-WHILE
returns-in-WHILE c = let same : c.args.word.now ≡ codes "WHILE" = text_from_reads _ _ (omega arith) (search rules) in sym (ap block_word same)

pub returns-in-WHILEI : goal.returns-in-WHILEI
returns-in-WHILEI c = let same : c.args.word.now ≡ codes "WHILEI" = text_from_reads _ _ (omega arith) (search rules) in sym (ap block_word same)

pub returns-in-REP : goal.returns-in-REP
returns-in-REP c = let same : c.args.word.now ≡ codes "REP" = text_from_reads _ _ (omega arith) (search rules) in sym (ap block_word same)

pub returns-in-REPI : goal.returns-in-REPI
returns-in-REPI c = let same : c.args.word.now ≡ codes "REPI" = text_from_reads _ _ (omega arith) (search rules) in sym (ap block_word same)

pub returns-in-IF : goal.returns-in-IF
returns-in-IF c = let same : c.args.word.now ≡ codes "IF" = text_from_reads _ _ (omega arith) (search rules) in sym (ap block_word same)

pub returns-in-ELSE : goal.returns-in-ELSE
returns-in-ELSE c = let same : c.args.word.now ≡ codes "ELSE" = text_from_reads _ _ (omega arith) (search rules) in sym (ap block_word same)

pub returns-in-END : goal.returns-in-END
returns-in-END c = let same : c.args.word.now ≡ codes "END" = text_from_reads _ _ (omega arith) (search rules) in sym (ap block_word same)
