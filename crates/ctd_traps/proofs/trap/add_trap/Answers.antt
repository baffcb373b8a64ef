use Rattle.ctd_traps.proofs.Common.{List, Trap, get_or, length, subst, sym, ◌<◌, ◌≡◌}
use Rattle.ctd_traps.proofs.Listed.{put_others, replaced}
use Rattle.ctd_traps.proofs.trap.add_trap.Goals as goal

pub returns-in_ok-insert-in-Ok-clause-more : goal.returns-in_ok-insert-in-Ok-clause-more
returns-in_ok-insert-in-Ok-clause-more c =
    let i = c.in-Ok.i in
    let old = c.remove-old.result in
    let found = c.in-Ok.ensures in
    let slice = c.as_slice.ensures.value in
    let both : Trap = record { place = c.args.trap.place; kind = c.args.trap.kind; operand = c.join_operands-operand.result } in
    replaced c.args.traps.now.items c.remove-old.new.self.items c.insert.new.self.items i old both (subst (λ (l : List Trap). i < length l) slice found.inside)
    c.remove-old.ensures.value c.remove-old.ensures.items c.in_ok-insert-in-Ok.ensures.items
    (found.same old (subst (λ (l : List Trap). old ≡ get_or l i old) (sym slice) c.remove-old.ensures.value))

pub returns-in_ok-insert-in-Err-clause-more : goal.returns-in_ok-insert-in-Err-clause-more
returns-in_ok-insert-in-Err-clause-more c = put_others c.args.traps.now.items c.insert-in-Err.new.self.items c.in-Err.i c.args.trap c.in_ok-insert-in-Err.ensures.items
