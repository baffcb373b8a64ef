use Rattle.std.proofs.Common.{[], if◌then◌else◌, ap, sym, ◌∙◌}
use Rattle.std.specs.FinMap.{put}
use Rattle.std.specs.Option.{unwrap_or}
use Rattle.std.proofs.Math.Facts.{to_z-of_z}
use Rattle.ctd_store.specs.declared.value.Value.TheVariants as values
use Rattle.ctd_store.specs.Order.{values_cmp}
use Rattle.ctd_store.proofs.Apart.{unpinned, apart_with}
use Rattle.ctd_store.proofs.slot.Slot.put_number.Goals as goal

pub invariant_of-self : goal.invariant_of-self
invariant_of-self c =
    let self = c.args.self.now in
    let pins = unwrap_or self.pins [] in
    record { apart = apart_with c.put_number.result pins self.values c.put_number.new.self [] (values.Int _) self.apart c.put_number.ensures.done c.put_number.ensures.there c.put_number.ensures.stays }

pub returns-clause-done : goal.returns-clause-done
returns-clause-done c done =
    let self = c.args.self.now in
    let free = unpinned (unwrap_or self.pins []) self.values [] self.apart (c.put_number.ensures.there done) in
    c.put_number.ensures.done done
    ∙ ap (λ n. put values_cmp [] (values.Int n) self.values) (to_z-of_z c.ranges.n)
    ∙ ap (λ b. if b then self.values else put values_cmp [] (values.Int c.args.n) self.values) (sym free)
