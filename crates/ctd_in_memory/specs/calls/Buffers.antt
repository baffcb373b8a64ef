-- How an answer comes to a caller that gives a buffer for each of its two texts.
use Rattle.std.specs.Prelude.{◌≡◌, ◌≤◌, ◌<◌, ◌⊎◌, ◌++◌, ℕ, List, length, take, drop}
use Rattle.ctd_report.specs.Report.{Report}

-- the texts and the status are those of one of these reports; or no memory was left for a text: then the status is 2, and each text is the start of that of the report
abbrev pub HoldReport : (Report → Type 0) → (out err : List ℕ) → ℕ → Type 0
HoldReport IsReport out err status =
    (report : Report) × IsReport report × (((out ≡ report.out) × (err ≡ report.err) × (status ≡ report.status))
    ⊎ (((n : ℕ) × (out ≡ take n report.out)) × ((n : ℕ) × (err ≡ take n report.err)) × (status ≡ 2)))

-- the bytes of a buffer before and after the call, and the length of its text as the caller is given it
pub record Buffer : Type 0 where
  pub length_given : ℕ
  pub before : List ℕ
  pub after : List ℕ

-- the caller is given the length of the text; if the text fits, it comes to the front of the buffer and what stands behind it stays; else all bytes stay
pub record ReceivesText (text : List ℕ) (buffer : Buffer) : Type 0 where
  pub length_is : buffer.length_given ≡ length text
  pub fits : length text ≤ length buffer.before → buffer.after ≡ text ++ drop (length text) buffer.before
  pub too_long : length buffer.before < length text → buffer.after ≡ buffer.before

-- both buffers receive the texts of one of these reports
abbrev pub FillsBuffers : (Report → Type 0) → (out err : Buffer) → ℕ → Type 0
FillsBuffers IsReport out err status =
    (out_text : List ℕ) × (err_text : List ℕ) × HoldReport IsReport out_text err_text status × ReceivesText out_text out × ReceivesText err_text err
