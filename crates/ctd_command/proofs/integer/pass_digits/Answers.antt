use Rattle.std.proofs.Common.{◌≡◌, ℕ, ◌+◌, ◌<◌, ◌≤◌, length, take, true, Option, Ok, Some, ap, sym, ◌∙◌, arith, subst, IfSome}
use Rattle.std.specs.Prelude.{slice_get}
use Rattle.std.specs.List.{prefix_len}
use Rattle.std.specs.Char.{is_ascii_digit}
use Rattle.std.proofs.lemmas.List.Sums.{prefix_len-le-length}
use Rattle.ctd_source.specs.calls.SourceReads.{state_of}
use Rattle.ctd_source.specs.TestData.{next_byte}
use Rattle.ctd_source.proofs.AdvanceLemmas.{advances_so, advances_both, advances_looking, advances_moving, advances_nowhere, advances_reading}
use Rattle.ctd_command.proofs.DigitRuns.{run_digits, some_digit, some_held, fewer}
use Rattle.ctd_command.proofs.Integers.{row_none, row_more, row_stays, past_digit, past_end, run_seen}
use Rattle.ctd_command.proofs.integer.pass_digits.Goals as goal

pub loop-byte-init : goal.loop-byte-init
loop-byte-init g c = record {
  sound = c.requires.sound;
  goes = advances_so (advances_nowhere c.args.cursor.now) (λ d _ _. row_none c.args.digits.now d c.args.cursor.now.spot.offset);
}

pub returns-then-not-is_ascii_digit-clause-passes : goal.returns-then-not-is_ascii_digit-clause-passes
returns-then-not-is_ascii_digit-clause-passes g c =
    let r = c.in-Ok-Some.ensures.reads in
    let same : c.look.new.self.spot.offset ≡ c.loop-byte.cursor.spot.offset = ap (λ s. s.offset) r.spot in
    advances_so (advances_both c.loop-byte.invariant.goes (advances_looking c.loop-byte.cursor c.look.new.self _ r (c.in-Ok-Some.ensures.answer c.loop-byte.invariant.sound)))
    (λ d _ e. record {
      row = row_stays _ _ d _ c.loop-byte.cursor.spot.offset c.look.new.self.spot.offset same e.0;
      stop = past_digit c.in-Ok-Some.byte _ (ap (next_byte d) same ∙ e.1 ∙ ap Ok c.in-Ok-Some.field-0-is) (sym c.is_ascii_digit.ensures.value ∙ c.if-not-is_ascii_digit.true);
    })

pub take_many-requires : goal.take_many-requires
take_many-requires g c = omega (arith, c.read-count.ensures.count, prefix_len-le-length is_ascii_digit c.held_run.result.now, c.held_run.ensures.held)

pub loop-byte-smaller : goal.loop-byte-smaller
loop-byte-smaller g c =
    let s = c.look.new.self in
    let run = c.held_run.result.now in
    let below : s.spot.offset < s.limit = (let P : Option ℕ → Type 0 = λ o. IfSome o (λ _. s.spot.offset < s.limit) in subst P c.in-Ok-Some.field-0-is c.in-Ok-Some.ensures.within) in
    let first : slice_get (state_of s).held 0 ≡ Some c.in-Ok-Some.byte = sym c.in-Ok-Some.ensures.held ∙ c.in-Ok-Some.field-0-is in
    let digit : is_ascii_digit c.in-Ok-Some.byte ≡ true = sym c.is_ascii_digit.ensures.value ∙ c.if-not-is_ascii_digit.false in
    let some : 0 < prefix_len is_ascii_digit run = some_digit run (state_of s).held c.in-Ok-Some.byte c.held_run.ensures.front (c.held_run.ensures.some (some_held (state_of s).held c.in-Ok-Some.byte first) below) first digit in
    let m = c.take_many.ensures.moves in
    let r = c.in-Ok-Some.ensures.reads in
    fewer _ _ _ _ c.read-count.result (m.limit ∙ r.limit) (m.offset ∙ ap (λ x. x.offset + c.read-count.result) r.spot) (omega (arith, some, c.read-count.ensures.count)) (omega (arith, below, r.limit, ap (λ x. x.offset) r.spot))

pub loop-byte-preserved : goal.loop-byte-preserved
loop-byte-preserved g c =
    let s = c.look.new.self in
    let t = c.take_many.new.self in
    let run = c.held_run.result.now in
    let count = c.read-count.result in
    let m = c.take_many.ensures.moves in
    let r = c.in-Ok-Some.ensures.reads in
    let same : s.spot.offset ≡ c.loop-byte.cursor.spot.offset = ap (λ x. x.offset) r.spot in
    let within : count ≤ length run = omega (arith, c.read-count.ensures.count, prefix_len-le-length is_ascii_digit run) in
    let seen = advances_so (advances_moving count s t m) (λ d stand _. run_seen d (state_of s) run count t.spot.offset stand.before s.counted within c.held_run.ensures.front c.held_run.ensures.held c.held_run.ensures.within m.offset) in
    record {
      sound = m.fault ∙ c.in-Ok-Some.ensures.fault;
      goes = advances_so (advances_both (advances_both c.loop-byte.invariant.goes (advances_reading c.loop-byte.cursor s r)) seen)
          (λ d _ e. row_more _ c.loop-byte.digits c.read-count.new.self d _ s.spot.offset t.spot.offset (take count run) (row_stays _ _ d _ c.loop-byte.cursor.spot.offset s.spot.offset same e.0.0)
          (run_digits run count c.read-count.ensures.count) e.1.0 e.1.1 c.read-count.ensures.seen);
    }

pub returns-in-Ok-None-clause-passes : goal.returns-in-Ok-None-clause-passes
returns-in-Ok-None-clause-passes g c =
    let r = c.in-Ok-None.ensures.reads in
    let same : c.look.new.self.spot.offset ≡ c.loop-byte.cursor.spot.offset = ap (λ s. s.offset) r.spot in
    advances_so (advances_both c.loop-byte.invariant.goes (advances_looking c.loop-byte.cursor c.look.new.self _ r (c.in-Ok-None.ensures.answer c.loop-byte.invariant.sound)))
    (λ d _ e. record {
      row = row_stays _ _ d _ c.loop-byte.cursor.spot.offset c.look.new.self.spot.offset same e.0;
      stop = past_end _ (ap (next_byte d) same ∙ e.1 ∙ ap Ok c.in-Ok-None.field-0-is);
    })

pub returns-in-Err-clause-passes : goal.returns-in-Err-clause-passes
returns-in-Err-clause-passes g c =
    let r = c.in-Err.ensures.reads in
    let same : c.look.new.self.spot.offset ≡ c.loop-byte.cursor.spot.offset = ap (λ s. s.offset) r.spot in
    advances_so (advances_both c.loop-byte.invariant.goes (advances_looking c.loop-byte.cursor c.look.new.self _ r (c.in-Err.ensures.answer c.loop-byte.invariant.sound)))
    (λ d _ e. record {
      row = row_stays _ _ d _ c.loop-byte.cursor.spot.offset c.look.new.self.spot.offset same e.0;
      stop = ap (next_byte d) same ∙ e.1;
    })
