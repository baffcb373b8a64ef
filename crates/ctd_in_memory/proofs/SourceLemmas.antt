-- What a source in memory gave, and what the tool reports of two such sources.
use Rattle.std.proofs.Common.{◌≡◌, ◌≢◌, ℕ, List, ◌++◌, length, take, Option, Some, None, IfSome, inl, inr, refl, sym, ap, subst, ◌∙◌, arith, length-append, take_at}
use Rattle.std.specs.Io.KnownBytes.{Consumes}
use Rattle.ctd_source.specs.declared.source.Source.{Ghosts}
use Rattle.ctd_source.specs.declared.source.Seen.{Seen}
use Rattle.ctd_source.specs.declared.source.Seen.TheVariants.{Going, Ended, Broken}
use Rattle.ctd_source.specs.Agreement.{Agrees}
use Rattle.ctd_source.specs.SourceReads.{GaveBytes}
use Rattle.ctd_token.specs.declared.fault.LoadFault.{LoadFault}
use Rattle.ctd_program.specs.Tree.{CommandList}
use Rattle.ctd_loader.specs.Loading.{IsReady, Loads, MayFail, TextHasFault, of_text, too_long, unread}
use Rattle.ctd_arguments.specs.declared.setup.Setup.{Setup}
use Rattle.ctd_report.specs.Report.{Report}
use Rattle.ctd_report.specs.Written.{BeforeAfter}
use Rattle.ctd_tool.specs.Theorem.{IsReport, of_meaning, of_program_fault}
use Rattle.ctd_in_memory.specs.inner.MemorySource.{HoldsBytes}
use Rattle.ctd_in_memory.specs.calls.InMemory.{data_of, IsReportBy}

-- the bytes that a source in memory gave, beside all of its bytes
record GivenOf (seen : Seen) (text bytes : List ℕ) : Type 0 where
  pub rest : List ℕ
  pub front : bytes ≡ text ++ rest
  pub ended : seen ≡ Ended → text ≡ bytes
  pub never_broken : seen ≢ Broken

consumed : (left : Option (List ℕ)) (bytes text : List ℕ) → Consumes (Some bytes) left text → (rest : List ℕ) × (bytes ≡ text ++ rest)
consumed None bytes text h = absurd h
consumed (Some rest) bytes text h = (rest, h)

given_of : {S : Type 0} (G : Ghosts S) (old new : S) (text bytes : List ℕ) → HoldsBytes G bytes old → GaveBytes G old new text → GivenOf (G.seen new) text bytes
given_of G old new text bytes starts gave =
    let cut = consumed gave.rest bytes text (subst (λ o. Consumes o gave.rest text) starts.left gave.first) in
    record {
      rest = cut.0;
      front = cut.1;
      ended = λ e. subst (λ o. IfSome o (λ b. text ≡ b)) starts.left (gave.end.all starts.going e);
      never_broken = starts.never_broken new;
    }

-- a program that was read is that of all bytes
loads_all : (seen : Seen) (text bytes : List ℕ) (tree : CommandList) → GivenOf seen text bytes → Loads text seen tree → Loads bytes Ended tree
loads_all seen text bytes tree g h = (refl, subst (λ t. IsReady t tree) (g.ended h.0) h.1)

-- a fault of the text that was read is one of all bytes
fails_all : (seen : Seen) (text bytes : List ℕ) (fault : LoadFault) → GivenOf seen text bytes → MayFail text seen fault → MayFail bytes Ended fault
fails_all seen text bytes fault g (too_long long kind place) = too_long (omega (arith, long, ap length g.front, length-append text g.rest)) kind place
fails_all seen text bytes fault g (unread within broken kind place) = absurd (g.never_broken broken)
fails_all seen text bytes fault g (of_text ended has) = of_text refl (subst (λ t. TextHasFault t fault) (g.ended ended) has)

agrees_all : (seen : Seen) (text bytes : List ℕ) (limit : ℕ) → GivenOf seen text bytes → Agrees text seen (data_of bytes limit)
agrees_all Going text bytes limit g = ap (take (length text)) g.front ∙ take_at text g.rest (length text) refl
agrees_all Ended text bytes limit g = (sym (g.ended refl), refl)
agrees_all Broken text bytes limit g = absurd (g.never_broken refl)

-- the report on two sources in memory is that on their bytes
pub report_in_memory : {P D : Type 0} {G : Ghosts P} {H : Ghosts D} (s : Setup) (program testdata : List ℕ) (p : BeforeAfter P G) (d : BeforeAfter D H) (report : Report)
    → HoldsBytes G program p.old → HoldsBytes H testdata d.old → IsReport s p d report → IsReportBy s program testdata report
report_in_memory {G} {H} s program testdata p d report sp sd (of_meaning m) =
    inl (record {
      tree = m.tree;
      loads = loads_all (G.seen p.new) m.text program m.tree (given_of G p.old p.new m.text program sp m.gave_text) m.loads;
      report_is = (m.means (data_of testdata s.limits.bytes) refl (agrees_all (H.seen d.new) m.bytes testdata s.limits.bytes (given_of H d.old d.new m.bytes testdata sd m.gave))).report_is;
    })
report_in_memory {G} s program testdata p d report sp sd (of_program_fault f) =
    inr (record {
      fault = f.fault;
      fails = fails_all (G.seen p.new) f.text program f.fault (given_of G p.old p.new f.text program sp f.gave_text) f.fails;
      report_is = f.report_is;
    })
