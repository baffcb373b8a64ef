use Rattle.std.proofs.Common.{rules}
use Rattle.std.proofs.lemmas.Int.{to_z-of_z}
use Rattle.std.specs.Int.{w128}
use Rattle.ctd_command.proofs.Acts.{and_then, early_by}
use Rattle.ctd_command.proofs.machine.Run.any_int.Goals as goal

pub returns-in_err-least : goal.returns-in_err-least
returns-in_err-least g c = record { performs = early_by _ _ c.from_residual.ensures c.in_err-least.ensures.performs }

pub returns-in_err-most : goal.returns-in_err-most
returns-in_err-most g c = record { performs = and_then _ c.in_ok-least.ensures.performs (early_by _ _ c.from_residual-in_err-most.ensures c.in_err-most.ensures.performs) }

pub returns-in_err-n : goal.returns-in_err-n
returns-in_err-n g c =
    let read = simp (to_z-of_z w128 c.in_ok-least.least (search rules), to_z-of_z w128 c.in_ok-most.most (search rules)) at c.in_err-n.ensures.performs in
    record { performs = and_then _ c.in_ok-least.ensures.performs (and_then _ c.in_ok-most.ensures.performs (early_by _ _ c.from_residual-in_err-n.ensures read)) }

pub returns : goal.returns
returns g c =
    let read = simp (to_z-of_z w128 c.in_ok-least.least (search rules), to_z-of_z w128 c.in_ok-most.most (search rules)) at c.in_ok-n.ensures.performs in
    let kept = simp (to_z-of_z w128 c.in_ok-n.n (search rules)) at c.keep.ensures.performs in
    record { performs = and_then _ c.in_ok-least.ensures.performs (and_then _ c.in_ok-most.ensures.performs (and_then _ read kept)) }
