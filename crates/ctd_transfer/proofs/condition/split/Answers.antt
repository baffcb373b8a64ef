use Rattle.ctd_program.specs.Tree
use Rattle.ctd_transfer.proofs.Common.{AreSame, SplitState, SplitsBy, UniqueFailsBy, if_ok_more, names_of, subst}
use Rattle.ctd_transfer.proofs.Deciding.{end_splits, unique_splits}
use Rattle.ctd_transfer.proofs.condition.split.Goals as goal

pub returns-in-Compare : goal.returns-in-Compare
returns-in-Compare c = rw c.in-Compare.is c.compare.ensures

pub returns-in-Match : goal.returns-in-Match
returns-in-Match c = rw c.in-Match.is c.split_match.ensures

pub returns-in-IsEof : goal.returns-in-IsEof
returns-in-IsEof c =
    let g = c.args.context in
    let st = c.args.state.now in
    let f = c.no_faults.result in
    rw c.in-IsEof.is
    (if_ok_more (λ (s : SplitState). AreSame st f s) (λ (s : SplitState). SplitsBy g st Tree.at_end s.if_true s.if_false s.faults) c.same.result (λ s so. end_splits g st f s so) c.same.ensures)

pub returns-in-Unique : goal.returns-in-Unique
returns-in-Unique c =
    let g = c.args.context in
    let st = c.args.state.now in
    let f = c.shape_faults-faults.result in
    let names = names_of c.in-Unique.names in
    rw c.in-Unique.is
    (if_ok_more (λ (s : SplitState). AreSame st f s) (λ (s : SplitState). SplitsBy g st (Tree.unique names) s.if_true s.if_false s.faults) c.same-in-Unique.result
    (λ s so. unique_splits g st names f s (subst (λ l. UniqueFailsBy g st l f) c.as_slice.ensures c.shape_faults-faults.ensures) so) c.same-in-Unique.ensures)

pub returns-in-InArray : goal.returns-in-InArray
returns-in-InArray c = rw c.in-InArray.is c.split_search.ensures
