use Rattle.std.proofs.Common.{sym, ap, ◌∙◌, eqb-true}
use Rattle.std.specs.Int.{to_le_bytes, w64}
use Rattle.std.proofs.lemmas.Nat.{le_bytes_8}
use Rattle.ctd_token.proofs.name.are_same.Goals as goal

pub returns-clause-same : goal.returns-clause-same
returns-clause-same c told =
    sym (le_bytes_8 c.args.a.now c.from_le_bytes.result c.told-a c.fits-a c.from_le_bytes.ensures)
    ∙ ap (to_le_bytes w64) (eqb-true c.from_le_bytes.result c.from_le_bytes-2.result told)
    ∙ le_bytes_8 c.args.b.now c.from_le_bytes-2.result c.told-b c.fits-b c.from_le_bytes-2.ensures
