use Rattle.std.proofs.Common.{◌≡◌, take, refl, arith, length-take}
use Rattle.std.specs.List.{fold}
use Rattle.ctd_source.specs.calls.SourceReads.{state_of}
use Rattle.ctd_source.specs.inner.TestData.{spot_after}
use Rattle.ctd_source.proofs.Moving.{stands_past_many}
use Rattle.ctd_source.proofs.cursor.Cursor.take_in_line.Goals as goal

pub returns-clause-moves : goal.returns-clause-moves
returns-clause-moves g c =
    let self = c.args.self.now in
    let items = self.window.items in
    let spot : c.pass_in_line.new.self ≡ fold spot_after self.spot (take c.args.n items) = c.pass_in_line.ensures.value (take c.args.n items) (omega (arith, length-take c.args.n items, c.requires.held)) c.requires.in_line in
    record {
      held = c.pass.ensures;
      offset = c.pass_in_line.ensures.offset;
      taken = refl;
      limit = refl;
      fault = refl;
      seen = refl;
      source_is = refl;
      same_reference = refl;
      stands = λ d. stands_past_many (state_of self) _ c.args.n d c.pass.ensures spot c.pass_in_line.ensures.offset refl refl refl self.counted c.requires.held;
    }
