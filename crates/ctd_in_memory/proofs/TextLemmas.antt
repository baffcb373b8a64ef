-- What two streams that were empty hold after a report was written to them.
use Rattle.std.proofs.Common.{◌≡◌, ℕ, List, [], Option, Some, None, take, inl, inr, refl, sym, subst}
use Rattle.std.specs.Io.KnownBytes.{Appends}
use Rattle.ctd_report.specs.declared.sink.Sink.{Ghosts}
use Rattle.ctd_report.specs.Written.{BeforeAfter, before_after, EndsWithReport, whole, broken_off}
use Rattle.ctd_report.proofs.EndLemmas.{EndsWithReport-weaker}
use Rattle.ctd_arguments.specs.declared.setup.UsageFault.TheVariants.{Memory}
use Rattle.ctd_report.specs.Report.{Report, usage_report}
use Rattle.ctd_in_memory.specs.calls.Buffers.{HoldReport}
use Rattle.ctd_in_memory.specs.calls.InMemory.{IsAnswerTo}

-- the stream was empty, and holds this text
record Holds {S : Type 0} {G : Ghosts S} (stream : BeforeAfter S G) (text : List ℕ) : Type 0 where
  pub empty : G.taken stream.old ≡ Some []
  pub text_is : G.taken stream.new ≡ Some text

text_of_stream : {S : Type 0} {G : Ghosts S} (stream : BeforeAfter S G) (text wanted : List ℕ) → Holds stream text → Appends (G.taken stream.old) (G.taken stream.new) wanted → text ≡ wanted
text_of_stream {G} stream text wanted h appends =
    subst (λ new. Appends (Some []) new wanted) h.text_is (subst (λ old. Appends old (G.taken stream.new) wanted) h.empty appends)

abbrev IsNothing : Option (List ℕ) → Type 0
IsNothing None = Unit {0}
IsNothing (Some text) = text ≡ []

nothing_of_stream : {S : Type 0} {G : Ghosts S} (stream : BeforeAfter S G) (text : List ℕ) → Holds stream text → stream.new ≡ stream.old → text ≡ []
nothing_of_stream {G} stream text h same =
    let empty : IsNothing (G.taken stream.old) = subst IsNothing (sym h.empty) refl in
    subst IsNothing h.text_is (subst (λ s. IsNothing (G.taken s)) (sym same) empty)

-- the two streams hold a report, with its status; or the starts of its texts, with the status 2
hold_report : {O E : Type 0} {S : Ghosts O} {T : Ghosts E} (o : BeforeAfter O S) (e : BeforeAfter E T) (IsReport : Report → Type 0) (status : ℕ) (out err : List ℕ)
    → Holds o out → Holds e err → EndsWithReport o e IsReport status → HoldReport IsReport out err status
hold_report o e IsReport status out err ho he (whole r is all) =
    (r, is, inl (text_of_stream o out r.out ho all.out_text.bytes, text_of_stream e err r.err he all.err_text.bytes, all.status_is))
hold_report o e IsReport status out err ho he (broken_off r is (inl f) two) =
    (r, is, inr ((f.0.bytes.0, text_of_stream o out (take f.0.bytes.0 r.out) ho f.0.bytes.2), (0, nothing_of_stream e err he f.1), two))
hold_report o e IsReport status out err ho he (broken_off r is (inr f) two) =
    (r, is, inr ((0, nothing_of_stream o out ho f.1), (f.0.bytes.0, text_of_stream e err (take f.0.bytes.0 r.err) he f.0.bytes.2), two))

-- the two streams hold an answer to the words
pub hold_answer : {O E : Type 0} {S : Ghosts O} {T : Ghosts E} (old_out new_out : O) (old_err new_err : E) (words text : List (List ℕ)) (program testdata : List ℕ) (status : ℕ) (out err : List ℕ)
    → S.taken old_out ≡ Some [] → S.taken new_out ≡ Some out → T.taken old_err ≡ Some [] → T.taken new_err ≡ Some err → words ≡ text
    → EndsWithReport (before_after S old_out new_out) (before_after T old_err new_err) (IsAnswerTo words program testdata) status → HoldReport (IsAnswerTo text program testdata) out err status
hold_answer {S} {T} old_out new_out old_err new_err words text program testdata status out err eo to ee te same h =
    subst (λ ws. HoldReport (IsAnswerTo ws program testdata) out err status) same
    (hold_report (before_after S old_out new_out) (before_after T old_err new_err) (IsAnswerTo words program testdata) status out err (record { empty = eo; text_is = to }) (record { empty = ee; text_is = te }) h)

-- the two streams hold the report that no memory was left for the words
pub hold_memory : {O E : Type 0} {S : Ghosts O} {T : Ghosts E} (old_out new_out : O) (old_err new_err : E) (text : List (List ℕ)) (program testdata : List ℕ) (status : ℕ) (out err : List ℕ)
    → S.taken old_out ≡ Some [] → S.taken new_out ≡ Some out → T.taken old_err ≡ Some [] → T.taken new_err ≡ Some err
    → EndsWithReport (before_after S old_out new_out) (before_after T old_err new_err) (λ report. report ≡ usage_report Memory) status → HoldReport (IsAnswerTo text program testdata) out err status
hold_memory {S} {T} old_out new_out old_err new_err text program testdata status out err eo to ee te h =
    hold_report (before_after S old_out new_out) (before_after T old_err new_err) (IsAnswerTo text program testdata) status out err (record { empty = eo; text_is = to }) (record { empty = ee; text_is = te })
    (EndsWithReport-weaker (before_after S old_out new_out) (before_after T old_err new_err) _ _ status (λ report is. inr (inr is)) h)
