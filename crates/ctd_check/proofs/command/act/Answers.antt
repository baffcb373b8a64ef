use Rattle.std.proofs.Common.{[], ap, map, sym}
use Rattle.ctd_program.specs.calls.View.{assignment}
use Rattle.ctd_command.specs.Commands.{set, unset_all}
use Rattle.ctd_command.proofs.Acts.{performs_map_ok, performs_as}
use Rattle.ctd_check.proofs.command.act.Goals as goal

pub returns-in-Space-clause-performs : goal.returns-in-Space-clause-performs
returns-in-Space-clause-performs g c = rw c.in-Space.is (performs_map_ok (λ _. []) c.space.ensures.performs)

pub returns-in-Newline-clause-performs : goal.returns-in-Newline-clause-performs
returns-in-Newline-clause-performs g c = rw c.in-Newline.is (performs_map_ok (λ _. []) c.newline.ensures.performs)

pub returns-in-Eof-clause-performs : goal.returns-in-Eof-clause-performs
returns-in-Eof-clause-performs g c = rw c.in-Eof.is (performs_map_ok (λ _. []) c.end.ensures.performs)

pub returns-in-Assert-clause-performs : goal.returns-in-Assert-clause-performs
returns-in-Assert-clause-performs g c = rw (c.in-Assert.is, sym c.deref-in-Assert.ensures) (performs_map_ok (λ _. []) c.assert.ensures.performs)

pub returns-in-Int-clause-performs : goal.returns-in-Int-clause-performs
returns-in-Int-clause-performs g c = rw (c.in-Int.is, sym c.deref.ensures) (performs_map_ok (λ _. []) c.int.ensures.performs)

pub returns-in-String-clause-performs : goal.returns-in-String-clause-performs
returns-in-String-clause-performs g c = rw (c.in-String.is, sym c.deref-in-String.ensures) (performs_map_ok (λ _. []) c.string.ensures.performs)

pub returns-in-Regex-clause-performs : goal.returns-in-Regex-clause-performs
returns-in-Regex-clause-performs g c = rw (c.in-Regex.is, sym c.deref-in-Regex.ensures) (performs_map_ok (λ _. []) c.regex.ensures.performs)

pub returns-in-Set-clause-performs : goal.returns-in-Set-clause-performs
returns-in-Set-clause-performs g c = rw (c.in-Set.is, sym c.deref-in-Set.ensures) (performs_map_ok (λ _. []) (performs_as (λ d s. ap (λ xs. set (map assignment xs) d s) c.as_slice.ensures) c.set.ensures.performs))

pub returns-in-Unset-clause-performs : goal.returns-in-Unset-clause-performs
returns-in-Unset-clause-performs g c = rw (c.in-Unset.is, sym c.deref-in-Unset.ensures) (performs_map_ok (λ _. []) (performs_as (λ d s. ap (λ xs. unset_all xs d s) c.as_slice-in-Unset.ensures) c.unset.ensures.performs))
