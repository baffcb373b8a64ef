use Rattle.std.proofs.Common.{refl, ap, ◌∙◌}
use Rattle.ctd_source.specs.calls.SourceReads.{state_of}
use Rattle.ctd_source.proofs.BufferedByte.{holds_one}
use Rattle.ctd_source.proofs.Moving.{stands_past, offset_after}
use Rattle.ctd_source.proofs.cursor.Cursor.pass_first.Goals as goal

pub returns-clause-moves : goal.returns-clause-moves
returns-clause-moves g c =
    let self = c.args.self.now in
    record {
      held = c.pass-2.ensures;
      offset = ap (λ x. x.offset) c.pass.ensures ∙ offset_after self.spot c.args.byte;
      taken = refl;
      limit = refl;
      fault = refl;
      seen = refl;
      source_is = refl;
      same_reference = refl;
      stands = λ d. stands_past (state_of self) _ c.args.byte d c.requires c.pass-2.ensures c.pass.ensures refl refl refl self.counted (holds_one self.window.items c.args.byte c.requires);
    }
