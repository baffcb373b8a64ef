-- What the theorem refuses: laws over hosts that count what is asked of their streams.
use Rattle.std.proofs.Common.{◌∙◌, ◌∷◌, ◌≡◌, ◌≢◌, ◌⊎◌, ◌+◌, ◌≤◌, ℕ, List, [], Option, Result, Ok, Err, length, inl, inr, refl, sym, ap, arith}
use Rattle.std.specs.declared.alloc.Global.{Global}
use Rattle.std.specs.declared.io.ErrorKind.{ErrorKind}
use Rattle.std.specs.declared.io.buffered.BufReader.{BufReader}
use Rattle.ctd_source.specs.declared.source.Failed.{Failed}
use Rattle.ctd_source.specs.declared.from_read.FromRead.{FromRead}
use Rattle.ctd_source.specs.declared.source.Source as sources
use Rattle.ctd_report.specs.declared.sink.Sink as sinks
use Rattle.ctd_report.specs.declared.sink.ToWrite.{ToWrite}
use Rattle.ctd_report.specs.Writer.{new_sink}
use Rattle.ctd_report.specs.Report.{Report}
use Rattle.ctd_report.specs.Written.{BeforeAfter, before_after, EndsWithReport, whole, broken_off, Puts, no_put, one_more, FlushedAfter, StopsIn}
use Rattle.ctd_process.specs.declared.host.Files as files
use Rattle.ctd_process.specs.declared.host.Host as hosts
use Rattle.ctd_process.specs.Words.{Args}
use Rattle.ctd_tool.specs.declared.files.Sources.{Sources}
use Rattle.ctd_tool.specs.declared.host.Answered.{Answered}
use Rattle.ctd_tool.specs.Theorem.{EndsProcess, IsProcessReport, bad_words, no_room, with_words}

-- each put and each flush counts
pub record Counts {S : Type 0} (G : sinks.Ghosts S) (calls : S → ℕ) : Type 0 where
  pub put : (old new : S) (bytes : List ℕ) (result : Result ℕ Failed) → G.puts old bytes result new → calls new ≡ calls old + 1
  pub flush : (old new : S) (result : Result (Unit {0}) Failed) → G.flushes old result new → calls new ≡ calls old + 1

module _ {S : Type 0} (G : sinks.Ghosts S) (calls : S → ℕ) (counts : Counts G calls) where
  puts_count : (old : S) (text rest : List ℕ) (new : S) → Puts G old text rest new → calls old ≤ calls new
  puts_count old text rest new no_put = omega arith
  puts_count old text rest new (one_more was between _ n h some p) =
      let before = puts_count old text was between h in
      let more = counts.put between new was (Ok n) p in
      omega (arith, before, more)

  -- a stream of which nothing was asked took no text
  pub took_none : (s : S) (text : List ℕ) → FlushedAfter G s s text → ⊥
  took_none s text f =
      let before = puts_count s text [] f.before f.puts in
      let more = counts.flush f.before s (Ok tt) f.last in
      omega (arith, before, more)

  -- and did not fail
  pub failed_not : (s : S) (text : List ℕ) → StopsIn G s s text → ⊥
  failed_not s text f =
      let before = puts_count s text f.rest f.before f.puts in
      let put : (r : (f.rest ≢ []) × G.puts f.before f.rest (Err f.fault) s) → ⊥ = λ r. let more = counts.put f.before s f.rest (Err f.fault) r.1 in omega (arith, before, more) in
      let flush : (r : (f.rest ≡ []) × G.flushes f.before (Err f.fault) s) → ⊥ = λ r. let more = counts.flush f.before s (Err f.fault) r.1 in omega (arith, before, more) in
      by_cases f.last put flush
    where
      by_cases : {A B : Type 0} → A ⊎ B → (A → ⊥) → (B → ⊥) → ⊥
      by_cases (inl a) f g = f a
      by_cases (inr b) f g = g b

some_text : (x : ℕ) (xs : List ℕ) → x ∷ xs ≢ []
some_text x xs e = let n : length (x ∷ xs) ≡ 0 = ap length e in omega (arith, n)

answer_number : {A B : Type 0} → Result A B → ℕ
answer_number (Ok _) = 1
answer_number (Err _) = 0

ok_is_no_err : {A B : Type 0} (a : A) (b : B) (r : Result A B) → r ≡ Ok a → r ≡ Err b → ⊥
unfolding answer_number
ok_is_no_err {A = A} {B = B} a b r is other =
    let one : answer_number r ≡ 1 = ap (λ (x : Result A B). answer_number x) is in
    let none : answer_number r ≡ 0 = ap (λ (x : Result A B). answer_number x) other in
    omega (arith, one, none)

is_empty : (text : List ℕ) → (text ≢ [] → ⊥) → text ≡ []
is_empty [] h = refl
is_empty (x ∷ xs) h = absurd (h (some_text x xs))

-- a report has no text
pub record IsSilent (report : Report) : Type 0 where
  pub out : report.out ≡ []
  pub err : report.err ≡ []

module _ {O E : Type 0} (S : sinks.Ghosts O) (T : sinks.Ghosts E) (calls : O → ℕ) (counts : Counts S calls) (calls_err : E → ℕ) (counts_err : Counts T calls_err) where
  -- where nothing was asked of both streams, the report has no text
  pub silent : (out : O) (err : E) (Reports : Report → Type 0) (status : ℕ) → EndsWithReport (before_after S out out) (before_after T err err) Reports status → (report : Report) × Reports report × IsSilent report
  silent out err Reports status (whole report is all) = (
    report,
    is,
    record {
      out = is_empty report.out (λ some. took_none S calls counts out report.out (all.out_text.flushed some));
      err = is_empty report.err (λ some. took_none T calls_err counts_err err report.err (all.err_text.flushed some));
    },
  )
  silent out err Reports status (broken_off report is (inl part) two) = absurd (failed_not S calls counts out report.out part.0.stopped)
  silent out err Reports status (broken_off report is (inr part) two) = absurd (failed_not T calls_err counts_err err report.err part.0.stopped)

-- a host that gives no words gets a text
pub tells_why : {F R : Type 0} {A : files.Ghosts F R} (remaining : R → Option (List ℕ)) (G : sources.Ghosts (FromRead (BufReader R Global))) (args : Args) (kind : ErrorKind) (v : BeforeAfter F A) (left : Option (Sources R)) (report : Report) → args ≡ Err kind → IsProcessReport remaining G args v left report → IsSilent report → ⊥
tells_why remaining G args kind v left report refused (with_words given is answer) none = ok_is_no_err _ _ args is refused
tells_why remaining G args kind v left report refused (bad_words k is other same words) none = some_text _ _ (sym (ap (λ (r : Report). r.err) words) ∙ none.err)
tells_why remaining G args kind v left report refused (no_room same memory) none = some_text _ _ (sym (ap (λ (r : Report). r.err) memory) ∙ none.err)

-- no body that leaves the streams alone meets the contract, whatever its status: not at a host that counts, and gives no words
pub silence_is_refused : {F R O E : Type 0} (h : hosts.Ghosts F O E R) (A : files.Ghosts F R) (remaining : R → Option (List ℕ)) (G : sources.Ghosts (FromRead (BufReader R Global))) (S : sinks.Ghosts (ToWrite O)) (T : sinks.Ghosts (ToWrite E)) (calls : ToWrite O → ℕ) → Counts S calls → (calls_err : ToWrite E → ℕ) → Counts T calls_err
    → (old new : F) (end : Answered R O E) → ((s t : F) (args : Args) → h.gives_args s args t → (kind : ErrorKind) × (args ≡ Err kind))
    → ((s t : F) (o : O) → h.gives_out s o t → end.out ≡ new_sink o) → ((s t : F) (e : E) → h.gives_err s e t → end.err ≡ new_sink e) → EndsProcess h A remaining G S T old new end → ⊥
silence_is_refused h A remaining G S T calls counts calls_err counts_err old new end refuses same_out same_err p =
    let b = p.begins in
    let out = same_out old b.after_out b.out b.out_is in
    let err = same_err b.after_out b.after_err b.err b.err_is in
    let none = refuses b.after_err b.after_args b.args b.args_are in
    let s = silent S T calls counts calls_err counts_err (new_sink b.out) (new_sink b.err) _ _ (rw (out, err) at p.ends) in
    tells_why remaining G b.args none.0 _ _ s.0 none.1 s.1 s.2
