use Rattle.std.proofs.Common.{◌≡◌, ◌<◌, ℕ, length, refl, ap, sym, ◌∙◌, arith, subst}
use Rattle.std.proofs.lemmas.Grind.{common_steps}
use Rattle.std.proofs.lemmas.List.{nil_from_length}
use Rattle.ctd_source.proofs.AdvanceLemmas.{advances_so, advances_both, advances_nowhere}
use Rattle.ctd_command.specs.Commands.{match_bytes}
use Rattle.ctd_command.specs.inner.Passing.{PassesPrefix}
use Rattle.ctd_command.proofs.Strings.{at_offset, does_after, stopped_alone, string_differs, string_faulty, string_more}
use Rattle.ctd_command.proofs.string.match_bytes.Goals as goal

pub loop-rest-init : goal.loop-rest-init
loop-rest-init g c = record {
  sound = c.requires.sound;
  goes = advances_so (advances_nowhere c.args.cursor.now) (λ d _ _ store mode. refl);
}

pub returns-in_err-count-clause-matches : goal.returns-in_err-count-clause-matches
returns-in_err-count-clause-matches g c =
    let rest = c.loop-rest.rest.now in
    let some : 0 < length rest = grind arith in
    let p = c.loop-rest.cursor.spot.offset in
    advances_so (advances_both c.loop-rest.invariant.goes c.in_err-count.ensures.passes)
    (λ d _ e store mode. does_after _ _ _ _ (e.0 store mode) (stopped_alone c.in_err-count.field-0.0 _ c.from_residual.ensures _ _ (string_faulty d (at_offset p store mode) rest _ _ some e.1.0 e.1.1)))

pub returns-then-count-eq0-clause-matches : goal.returns-then-count-eq0-clause-matches
returns-then-count-eq0-clause-matches g c =
    let rest = c.loop-rest.rest.now in
    let some : 0 < length rest = grind arith in
    let p = c.loop-rest.cursor.spot.offset in
    let q = c.pass_prefix.new.cursor.spot.offset in
    advances_so (advances_both c.loop-rest.invariant.goes c.in_ok-count.ensures.passes)
    (λ d _ e store mode. rw c.rejected.ensures (e.0 store mode ∙ (let P : ℕ → Type 0 = λ n. PassesPrefix rest d p q n in string_differs d (at_offset p store mode) rest q some (subst P c.if-count-eq0.true e.1))))

pub loop-rest-preserved : goal.loop-rest-preserved
loop-rest-preserved g c =
    let p = c.loop-rest.cursor.spot.offset in
    let q = c.pass_prefix.new.cursor.spot.offset in
    record {
      sound = c.in_ok-count.ensures.sound;
      goes = advances_so (advances_both c.loop-rest.invariant.goes c.in_ok-count.ensures.passes)
          (λ d _ e store mode. e.0 store mode ∙ string_more d (at_offset p store mode) c.loop-rest.rest.now q c.in_ok-count.count c.in_ok-count.ensures.within e.1 ∙ ap (λ xs. match_bytes xs d (at_offset q store mode)) (sym c.rest_after-rest.ensures));
    }

pub returns : goal.returns
returns g c =
    let none : length c.loop-rest.rest.now ≡ 0 = grind arith in
    let empty = nil_from_length c.loop-rest.rest.now none in
    let p = c.loop-rest.cursor.spot.offset in
    record {
      sound = c.loop-rest.invariant.sound;
      matches = advances_so c.loop-rest.invariant.goes (λ d _ e store mode. e store mode ∙ ap (λ xs. match_bytes xs d (at_offset p store mode)) empty);
    }

pub loop-rest-smaller : goal.loop-rest-smaller
loop-rest-smaller g c = grind (arith, common_steps)
