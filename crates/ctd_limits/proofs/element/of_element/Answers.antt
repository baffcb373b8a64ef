use Rattle.std.proofs.Common.{None, Some, refl}
use Rattle.ctd_limits.specs.declared.known.ValueLimits.{ValueLimits}
use Rattle.ctd_limits.proofs.Valuing.{element_known}
use Rattle.ctd_limits.proofs.element.of_element.Goals as goal

pub returns : goal.returns
returns c =
    let l : ValueLimits = record { exact = None; lows = c.in_ok-lows.lows; highs = c.in_ok-highs.highs; source = Some (record { array = c.args.array; cell = c.cell_at.result }) } in
    element_known c.args.state c.args.array c.args.first c.args.second l c.cell_at.result refl refl c.cell_at.ensures c.in_ok-lows.ensures c.in_ok-highs.ensures
