use Rattle.ctd_transfer.proofs.Common.{IsEither, SplitStates, if_ok_more, opposite, test_tree}
use Rattle.ctd_program.specs.Tree
use Rattle.ctd_transfer.proofs.Dividing.{DividesBy, and_divides, not_divides, or_divides}
use Rattle.ctd_transfer.proofs.answer.+divide.Goals as goal

pub returns-in_ok-second-in-Or : goal.returns-in_ok-second-in-Or
returns-in_ok-second-in-Or t c =
    let g = c.args.context in
    let states = c.args.states.now in
    let a = test_tree c.in-Or.a.value in
    let b = test_tree c.in-Or.b.value in
    let first = c.in_ok-first-in-Or.first in
    let second = c.in_ok-second-in-Or.second in
    let left : DividesBy g states a first = rw c.deref.ensures at c.in_ok-first-in-Or.ensures in
    let right : DividesBy g c.as_slice.result.now b second = rw c.deref-in-Or.ensures at c.in_ok-second-in-Or.ensures in
    rw c.in-Or.is
    (if_ok_more (λ (all : SplitStates). IsEither g first second all) (λ (all : SplitStates). DividesBy g states (Tree.or a b) all) c.either.result (λ all is. or_divides g states c.as_slice.result.now a b first second all c.as_slice.ensures.value left right is) c.either.ensures)

pub returns-in_ok-second-in-And : goal.returns-in_ok-second-in-And
returns-in_ok-second-in-And t c =
    let g = c.args.context in
    let states = c.args.states.now in
    let a = test_tree c.in-And.a.value in
    let b = test_tree c.in-And.b.value in
    let first = c.in_ok-first-in-And.first in
    let second = c.in_ok-second-in-And.second in
    let left : DividesBy g states a first = rw c.deref-in-And.ensures at c.in_ok-first-in-And.ensures in
    let right : DividesBy g c.as_slice-in-And.result.now b second = rw c.deref-in-And-2.ensures at c.in_ok-second-in-And.ensures in
    rw c.in-And.is
    (if_ok_more (λ (all : SplitStates). IsEither g (opposite first) (opposite second) (opposite all)) (λ (all : SplitStates). DividesBy g states (Tree.and a b) all) c.each.result (λ all is. and_divides g states c.as_slice-in-And.result.now a b first second all c.as_slice-in-And.ensures.value left right is) c.each.ensures)

pub returns-in_ok-turned-in-Not : goal.returns-in_ok-turned-in-Not
returns-in_ok-turned-in-Not t c =
    let g = c.args.context in
    let states = c.args.states.now in
    let turned = c.in_ok-turned-in-Not.turned in
    let a = test_tree c.in-Not.a.value in
    let divides : DividesBy g states a turned = rw c.deref-in-Not.ensures at c.in_ok-turned-in-Not.ensures in
    rw c.in-Not.is (not_divides g states turned.if_true.items turned.if_false.items turned.faults a divides)
