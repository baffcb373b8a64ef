use Rattle.std.proofs.Common.{◌≡◌, ℕ, ◌+◌, ◌<◌, ◌≤◌, length, true, Option, Ok, Some, ap, sym, ◌∙◌, arith, subst, IfSome}
use Rattle.std.specs.Prelude.{slice_get}
use Rattle.std.specs.List.{prefix_len}
use Rattle.std.proofs.lemmas.List.Sums.{prefix_len-le-length}
use Rattle.ctd_source.specs.calls.SourceReads.{state_of}
use Rattle.ctd_source.proofs.AdvanceLemmas.{advances_so, advances_both, advances_looking, advances_moving, advances_nowhere, advances_reading}
use Rattle.ctd_command.specs.Blanks.{is_blank}
use Rattle.ctd_command.proofs.DigitRuns.{some_held, fewer}
use Rattle.ctd_command.proofs.HeldBlanks.{blanks_in_line}
use Rattle.ctd_command.proofs.Integers.{run_seen}
use Rattle.ctd_command.proofs.Skipping.{some_first, skipped_none, skipped_more, skipped_to_byte, skipped_to_end, skipped_to_fault}
use Rattle.ctd_command.proofs.blanks.pass_blanks.Goals as goal

pub loop-byte-init : goal.loop-byte-init
loop-byte-init g c = record {
  sound = c.requires.sound;
  goes = advances_so (advances_nowhere c.args.cursor.now) (λ d _ _. skipped_none d c.args.cursor.now.spot.offset);
}

pub returns-then-not-is_blank-clause-passes : goal.returns-then-not-is_blank-clause-passes
returns-then-not-is_blank-clause-passes g c =
    let r = c.in-Ok-Some.ensures.reads in
    let same : c.look.new.self.spot.offset ≡ c.loop-byte.cursor.spot.offset = ap (λ s. s.offset) r.spot in
    advances_so (advances_both c.loop-byte.invariant.goes (advances_looking c.loop-byte.cursor c.look.new.self _ r (c.in-Ok-Some.ensures.answer c.loop-byte.invariant.sound)))
    (λ d _ e. skipped_to_byte d _ c.loop-byte.cursor.spot.offset c.look.new.self.spot.offset c.in-Ok-Some.byte same e.0 (e.1 ∙ ap Ok c.in-Ok-Some.field-0-is) (sym c.is_blank.ensures ∙ c.if-not-is_blank.true))

pub take_in_line-requires-clause-held : goal.take_in_line-requires-clause-held
take_in_line-requires-clause-held g c = omega (arith, c.blank_len-count.ensures, prefix_len-le-length is_blank c.held_run.result.now, c.held_run.ensures.held)

pub take_in_line-requires-clause-in_line : goal.take_in_line-requires-clause-in_line
take_in_line-requires-clause-in_line g c = blanks_in_line c.held_run.result.now (state_of c.look.new.self).held c.blank_len-count.result c.held_run.ensures.front c.blank_len-count.ensures

pub loop-byte-smaller : goal.loop-byte-smaller
loop-byte-smaller g c =
    let s = c.look.new.self in
    let run = c.held_run.result.now in
    let below : s.spot.offset < s.limit = (let P : Option ℕ → Type 0 = λ o. IfSome o (λ _. s.spot.offset < s.limit) in subst P c.in-Ok-Some.field-0-is c.in-Ok-Some.ensures.within) in
    let first : slice_get (state_of s).held 0 ≡ Some c.in-Ok-Some.byte = sym c.in-Ok-Some.ensures.held ∙ c.in-Ok-Some.field-0-is in
    let blank : is_blank c.in-Ok-Some.byte ≡ true = sym c.is_blank.ensures ∙ c.if-not-is_blank.false in
    let some : 0 < prefix_len is_blank run = some_first is_blank run (state_of s).held c.in-Ok-Some.byte c.held_run.ensures.front (c.held_run.ensures.some (some_held (state_of s).held c.in-Ok-Some.byte first) below) first blank in
    let m = c.take_in_line.ensures.moves in
    let r = c.in-Ok-Some.ensures.reads in
    fewer _ _ _ _ c.blank_len-count.result (m.limit ∙ r.limit) (m.offset ∙ ap (λ x. x.offset + c.blank_len-count.result) r.spot) (omega (arith, some, c.blank_len-count.ensures)) (omega (arith, below, r.limit, ap (λ x. x.offset) r.spot))

pub loop-byte-preserved : goal.loop-byte-preserved
loop-byte-preserved g c =
    let s = c.look.new.self in
    let t = c.take_in_line.new.self in
    let run = c.held_run.result.now in
    let count = c.blank_len-count.result in
    let m = c.take_in_line.ensures.moves in
    let r = c.in-Ok-Some.ensures.reads in
    let same : s.spot.offset ≡ c.loop-byte.cursor.spot.offset = ap (λ x. x.offset) r.spot in
    let within : count ≤ length run = omega (arith, c.blank_len-count.ensures, prefix_len-le-length is_blank run) in
    let seen = advances_so (advances_moving count s t m) (λ d stand _. run_seen d (state_of s) run count t.spot.offset stand.before s.counted within c.held_run.ensures.front c.held_run.ensures.held c.held_run.ensures.within m.offset) in
    record {
      sound = m.fault ∙ c.in-Ok-Some.ensures.fault;
      goes = advances_so (advances_both (advances_both c.loop-byte.invariant.goes (advances_reading c.loop-byte.cursor s r)) seen)
          (λ d _ e. skipped_more d _ c.loop-byte.cursor.spot.offset s.spot.offset t.spot.offset count run same e.0.0 c.blank_len-count.ensures within e.1.0 e.1.1);
    }

pub returns-in-Ok-None-clause-passes : goal.returns-in-Ok-None-clause-passes
returns-in-Ok-None-clause-passes g c =
    let r = c.in-Ok-None.ensures.reads in
    let same : c.look.new.self.spot.offset ≡ c.loop-byte.cursor.spot.offset = ap (λ s. s.offset) r.spot in
    advances_so (advances_both c.loop-byte.invariant.goes (advances_looking c.loop-byte.cursor c.look.new.self _ r (c.in-Ok-None.ensures.answer c.loop-byte.invariant.sound)))
    (λ d _ e. skipped_to_end d _ c.loop-byte.cursor.spot.offset c.look.new.self.spot.offset same e.0 (e.1 ∙ ap Ok c.in-Ok-None.field-0-is))

pub returns-in-Err-clause-passes : goal.returns-in-Err-clause-passes
returns-in-Err-clause-passes g c =
    let r = c.in-Err.ensures.reads in
    let same : c.look.new.self.spot.offset ≡ c.loop-byte.cursor.spot.offset = ap (λ s. s.offset) r.spot in
    advances_so (advances_both c.loop-byte.invariant.goes (advances_looking c.loop-byte.cursor c.look.new.self _ r (c.in-Err.ensures.answer c.loop-byte.invariant.sound)))
    (λ d _ e. skipped_to_fault d _ c.loop-byte.cursor.spot.offset c.look.new.self.spot.offset c.in-Err.fault same e.0 e.1)
