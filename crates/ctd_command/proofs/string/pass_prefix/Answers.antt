use Rattle.std.proofs.Common.{◌≡◌, ◌≤◌, ◌<◌, ℕ, List, ◌+◌, ◌++◌, length, take, nat_eq, Option, Ok, Some, ap, sym, ◌∙◌, arith, subst, IfSome}
use Rattle.std.specs.Prelude.{slice_get, count_by}
use Rattle.std.specs.List.{common_prefix_len}
use Rattle.std.proofs.lemmas.List.{take-take}
use Rattle.std.proofs.lemmas.List.Sums.{common_prefix_len-le}
use Rattle.ctd_source.specs.calls.SourceReads.{state_of}
use Rattle.ctd_source.specs.TestData.{visible, is_newline}
use Rattle.ctd_source.proofs.AdvanceLemmas.{advances_so, advances_both, advances_looking, advances_moving}
use Rattle.ctd_source.proofs.Visible.{seen_byte}
use Rattle.ctd_command.proofs.DigitRuns.{some_held}
use Rattle.ctd_command.proofs.Integers.{run_seen}
use Rattle.ctd_command.proofs.Lists.{first_differs, same_front}
use Rattle.ctd_command.proofs.Strings.{front_passed, front_ended}
use Rattle.ctd_command.proofs.string.pass_prefix.Goals as goal

-- the run that was compared is the front of what is held
front_held : (held lent run : List ℕ) → take (length lent) held ≡ lent → take (length run) lent ≡ run → length run ≤ length lent → take (length run) held ≡ run
front_held held lent run is front within = sym (take-take (length run) (length lent) held within) ∙ ap (take (length run)) is ∙ front

pub pass_common_prefix-requires-clause-held : goal.pass_common_prefix-requires-clause-held
pass_common_prefix-requires-clause-held g c = let le = common_prefix_len-le nat_eq c.args.wanted.now c.first_chunk.result.now in omega (arith, c.common_prefix-front.ensures.len, le.1, c.first_chunk.ensures.within, c.held_run.ensures.held)

pub pass_common_prefix-requires-clause-in_line : goal.pass_common_prefix-requires-clause-in_line
pass_common_prefix-requires-clause-in_line g c in_line =
    let n = c.common_prefix-front.result.len in
    let run = c.first_chunk.result.now in
    let held = (state_of c.look.new.self).held in
    let within : n ≤ length run = (let le = common_prefix_len-le nat_eq c.args.wanted.now run in omega (arith, c.common_prefix-front.ensures.len, le.1)) in
    let same : take n held ≡ take n run =
    sym (take-take n (length run) held within) ∙ ap (take n) (front_held held c.held_run.result.now run c.held_run.ensures.front c.first_chunk.ensures.front c.first_chunk.ensures.within) in
    ap (count_by is_newline) same ∙ c.common_prefix-front.ensures.in_line in_line

pub returns-in-Ok-Some-clause-within : goal.returns-in-Ok-Some-clause-within
returns-in-Ok-Some-clause-within g c = let le = common_prefix_len-le nat_eq c.args.wanted.now c.first_chunk.result.now in omega (arith, c.common_prefix-front.ensures.len, le.0)

pub returns-in-Ok-Some-clause-passes : goal.returns-in-Ok-Some-clause-passes
returns-in-Ok-Some-clause-passes g c =
    let s = c.look.new.self in
    let t = c.pass_common_prefix.new.cursor in
    let wanted = c.args.wanted.now in
    let run = c.first_chunk.result.now in
    let held = (state_of s).held in
    let compared : take (length run) held ≡ run = front_held held c.held_run.result.now run c.held_run.ensures.front c.first_chunk.ensures.front c.first_chunk.ensures.within in
    let most : length run ≤ length held = omega (arith, c.first_chunk.ensures.within, c.held_run.ensures.held) in
    let before : 0 < length run → s.spot.offset + length run ≤ s.limit = λ some. (let whole = c.held_run.ensures.within (omega (arith, some, c.first_chunk.ensures.within)) in omega (arith, whole, c.first_chunk.ensures.within)) in
    let count = c.common_prefix-front.result.len in
    let r = c.in-Ok-Some.ensures.reads in
    let m = c.pass_common_prefix.ensures.moves in
    let same : s.spot.offset ≡ c.args.cursor.now.spot.offset = ap (λ x. x.offset) r.spot in
    let le = common_prefix_len-le nat_eq wanted run in
    let within : count ≤ length run = omega (arith, c.common_prefix-front.ensures.len, le.1) in
    let first : slice_get (state_of s).held 0 ≡ Some c.in-Ok-Some._byte = sym c.in-Ok-Some.ensures.held ∙ c.in-Ok-Some.field-0-is in
    let below : s.spot.offset < s.limit = (let P : Option ℕ → Type 0 = λ o. IfSome o (λ _. s.spot.offset < s.limit) in subst P c.in-Ok-Some.field-0-is c.in-Ok-Some.ensures.within) in
    let some : 0 < length run = c.first_chunk.ensures.some (c.held_run.ensures.some (some_held (state_of s).held c.in-Ok-Some._byte first) below) in
    let seen = advances_so (advances_moving count s t m) (λ d stand _. run_seen d (state_of s) run count t.spot.offset stand.before s.counted within compared most before m.offset) in
    let front : take count run ≡ take count wanted = ap (λ k. take k run) c.common_prefix-front.ensures.len ∙ sym (same_front wanted run) ∙ ap (λ k. take k wanted) (sym c.common_prefix-front.ensures.len) in
    advances_so (advances_both (advances_looking c.args.cursor.now s _ r (c.in-Ok-Some.ensures.answer c.requires.sound)) seen)
    (λ d _ e.
    let next = e.0 ∙ ap Ok c.in-Ok-Some.field-0-is in
    front_passed wanted d c.args.cursor.now.spot.offset t.spot.offset count c.in-Ok-Some._byte (m.offset ∙ ap (λ p. p + count) same)
    (ap (visible d) (sym same) ∙ e.1.1 ∙ ap (λ xs. xs ++ visible d t.spot.offset) front) next
    (λ none. ap (common_prefix_len nat_eq wanted) (seen_byte d c.args.cursor.now.spot.offset c.in-Ok-Some._byte next)
    ∙ first_differs wanted run (state_of s).held (visible d (c.args.cursor.now.spot.offset + 1)) c.in-Ok-Some._byte compared some first (sym c.common_prefix-front.ensures.len ∙ none)))

pub returns-in-Ok-None-clause-passes : goal.returns-in-Ok-None-clause-passes
returns-in-Ok-None-clause-passes g c =
    let r = c.in-Ok-None.ensures.reads in
    advances_so (advances_looking c.args.cursor.now c.look.new.self _ r (c.in-Ok-None.ensures.answer c.requires.sound))
    (λ d _ e. front_ended c.args.wanted.now d c.args.cursor.now.spot.offset c.look.new.self.spot.offset (ap (λ s. s.offset) r.spot) (e ∙ ap Ok c.in-Ok-None.field-0-is))

pub returns-in-Err-clause-passes : goal.returns-in-Err-clause-passes
returns-in-Err-clause-passes g c =
    let r = c.in-Err.ensures.reads in
    advances_so (advances_looking c.args.cursor.now c.look.new.self _ r (c.in-Err.ensures.answer c.requires.sound)) (λ d _ e. (ap (λ s. s.offset) r.spot, e))
