use Rattle.std.proofs.Common.{◌≡◌, drop, fold}
use Rattle.ctd_store.specs.Store.{unset}
use Rattle.ctd_command.proofs.assignment.unset_names.Given as goal

abbrev pub invariant-loop-name : goal.invariant-loop-name
invariant-loop-name l = fold unset l.initial.store l.names ≡ fold unset l.store (drop l.name-index l.names)
