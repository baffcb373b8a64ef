-- What writing a report leaves on the two streams.
use Rattle.std.specs.Prelude.{◌≡◌, ◌≢◌, ◌≤◌, ◌⊎◌, ℕ, true, false, List, [], Result, Ok, Err, length, take, drop}
use Rattle.std.specs.Io.KnownBytes.{Appends}
use Rattle.ctd_source.specs.declared.source.Failed.{Failed}
use Rattle.ctd_report.specs.declared.sink.Sink.{Ghosts}
use Rattle.ctd_report.specs.declared.written.ToolFault.{ToolFault}
use Rattle.ctd_report.specs.declared.written.ToolFault.TheVariants.{Memory, Write}
use Rattle.ctd_report.specs.Report.{Report}

-- a thing as a call begins and as it ends, such as a stream, a source or a host, with what its trait tells of it
pub record BeforeAfter (S : Type 0) {T : Type 1} (G : T) : Type 0 where
  pub old : S
  pub new : S

-- a thing that was this as a call began, and is that as it ends
abbrev pub before_after : {S : Type 0} {T : Type 1} (G : T) → S → S → BeforeAfter S G
before_after G old new = record { old = old; new = new }

-- a stream was given a text by one put after the other, each of all that those before it had left; this is what is left of it now
pub data Puts {S : Type 0} (G : Ghosts S) (old : S) (text : List ℕ) : List ℕ → S → Type 0 where
  no_put : Puts G old text text old
  one_more : (rest : List ℕ) (between new : S) (n : ℕ) → Puts G old text rest between → rest ≢ [] → G.puts between rest (Ok n) new → Puts G old text (drop n rest) new

-- the whole text was put, a flush that succeeded came last, and nothing else was asked of the stream
pub record FlushedAfter {S : Type 0} (G : Ghosts S) (old new : S) (text : List ℕ) : Type 0 where
  pub before : S
  pub whole : Appends (G.taken old) (G.taken before) text
  pub puts : Puts G old text [] before
  pub last : G.flushes before (Ok tt) new

-- a put of what was left of the text failed, or a flush when nothing was left; that came last, and nothing else was asked of the stream
pub record StopsIn {S : Type 0} (G : Ghosts S) (old new : S) (text : List ℕ) : Type 0 where
  pub rest : List ℕ
  pub before : S
  pub puts : Puts G old text rest before
  pub fault : Failed
  pub last : ((rest ≢ []) × G.puts before rest (Err fault) new) ⊎ ((rest ≡ []) × G.flushes before (Err fault) new)

-- the stream took the whole text and was flushed after it, and works; where there is no text it was not touched
pub record TakesAll {S : Type 0} {G : Ghosts S} (stream : BeforeAfter S G) (text : List ℕ) : Type 0 where
  pub bytes : Appends (G.taken stream.old) (G.taken stream.new) text
  pub flushed : text ≢ [] → FlushedAfter G stream.old stream.new text
  pub works : G.has_failed stream.new ≡ false
  pub idle : text ≡ [] → stream.new ≡ stream.old

-- the stream failed while it was given a text, of which it took the first n bytes: all of them, some or none
pub record FailsIn {S : Type 0} {G : Ghosts S} (stream : BeforeAfter S G) (text : List ℕ) : Type 0 where
  pub some : text ≢ []
  pub bytes : (n : ℕ) × (n ≤ length text) × Appends (G.taken stream.old) (G.taken stream.new) (take n text)
  pub stopped : StopsIn G stream.old stream.new text
  pub failed : G.has_failed stream.new ≡ true

-- the report was written whole, and the status is its own
pub record WritesAll {O E : Type 0} {G : Ghosts O} {H : Ghosts E} (out : BeforeAfter O G) (err : BeforeAfter E H) (report : Report) (status : ℕ) : Type 0 where
  pub status_is : status ≡ report.status
  pub out_text : TakesAll out report.out
  pub err_text : TakesAll err report.err

-- one stream failed while it was given its text, and the other was not touched
abbrev pub FailsMidway : {O E : Type 0} {G : Ghosts O} {H : Ghosts E} → BeforeAfter O G → BeforeAfter E H → Report → Type 0
FailsMidway out err report = (FailsIn out report.out × (err.new ≡ err.old)) ⊎ (FailsIn err report.err × (out.new ≡ out.old))

-- what a call leaves that writes one of these reports; where memory ran out, nothing is said of the report
abbrev pub WritesOneOf : {O E : Type 0} {G : Ghosts O} {H : Ghosts E} → BeforeAfter O G → BeforeAfter E H → (Report → Type 0) → Result ℕ ToolFault → Type 0
WritesOneOf out err IsReport (Ok status) = (report : Report) × IsReport report × WritesAll out err report status
WritesOneOf out err IsReport (Err Write) = (report : Report) × IsReport report × FailsMidway out err report
WritesOneOf out err IsReport (Err Memory) = (out.new ≡ out.old) × (err.new ≡ err.old)

-- one of these reports was written whole, and the status is its own; or a stream failed in it, and the status is 2
pub data EndsWithReport {O E : Type 0} {G : Ghosts O} {H : Ghosts E} (out : BeforeAfter O G) (err : BeforeAfter E H) (Reports : Report → Type 0) (status : ℕ) : Type 0 where
  whole : (report : Report) → Reports report → WritesAll out err report status → EndsWithReport out err Reports status
  broken_off : (report : Report) → Reports report → FailsMidway out err report → status ≡ 2 → EndsWithReport out err Reports status
