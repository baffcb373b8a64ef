use Rattle.std.proofs.Common.{length, ◌≡◌, [], ◌∷◌, ◌++◌, ap, ◌∙◌, sym, arith, inl, inr}
use Rattle.std.specs.Prelude.{map}
use Rattle.std.proofs.lemmas.List.{map-append, length-map}
use Rattle.ctd_syntax.specs.inner.Front.{Always, IsBefore, IsAssignment, lexeme}
use Rattle.ctd_syntax.specs.Grammar.{IsAssignments}
use Rattle.ctd_syntax.specs.inner.Levels.{ends}
use Rattle.ctd_program.specs.calls.View.{assignment}
use Rattle.ctd_token.specs.declared.token.Mark.TheVariants.{Close}
use Rattle.ctd_syntax.proofs.StayFronts.{refused_as, counted_as}
use Rattle.ctd_syntax.proofs.Targets.{assignment_list}
use Rattle.ctd_syntax.proofs.StayRows.{PartRow, lists_item, lists_no_item, lists_end, lists_unclosed}
use Rattle.ctd_syntax.proofs.target.assignments.Goals as goal

pub loop-read-init : goal.loop-read-init
loop-read-init c = record { before = inl (ap (map assignment) c.in_ok-items.ensures.items, ap (map lexeme) (sym c.split_at.ensures.back)); shorter = omega (arith, ap length c.split_at.ensures.back) }

pub returns-in-Err-clause-tree : goal.returns-in-Err-clause-tree
returns-in-Err-clause-tree c = refused_as IsAssignment (IsBefore Close IsAssignments) (ends 1) Always (map lexeme c.loop-read.left.now) (map lexeme c.args.tokens.now) c.in-Err.fault (lists_no_item assignment_list (map lexeme c.args.tokens.now) (map lexeme c.loop-read.left.now) (map assignment c.loop-read.items.items) c.loop-read.invariant.before) c.in-Err.ensures.tree

pub loop-read-preserved : goal.loop-read-preserved
loop-read-preserved c =
    let is : map assignment c.push.new.self.items ≡ map assignment c.loop-read.items.items ++ assignment c.in-Ok.read.0 ∷ [] = ap (map assignment) c.in_ok-push.ensures.items ∙ map-append assignment c.loop-read.items.items (c.in-Ok.read.0 ∷ []) in
    let part : PartRow IsAssignment Close (map lexeme c.args.tokens.now) (map assignment c.push.new.self.items) (map lexeme c.in-Ok.read.1.now) = rw is (lists_item assignment_list (map lexeme c.args.tokens.now) (map lexeme c.loop-read.left.now) (map lexeme c.in-Ok.read.1.now) (map assignment c.loop-read.items.items) (assignment c.in-Ok.read.0) c.loop-read.invariant.before c.in-Ok.ensures.tree) in
    record { before = inr ((map lexeme c.in-Ok.read.1.now), part, c.in-Some.ensures.found); shorter = omega (arith, c.loop-read.invariant.shorter, c.in-Some.ensures.shorter, c.in-Ok.ensures.shorter) }

pub returns-in_default-clause-tree : goal.returns-in_default-clause-tree
returns-in_default-clause-tree c =
    let is : map assignment c.push.new.self.items ≡ map assignment c.loop-read.items.items ++ assignment c.in-Ok.read.0 ∷ [] = ap (map assignment) c.in_ok-push.ensures.items ∙ map-append assignment c.loop-read.items.items (c.in-Ok.read.0 ∷ []) in
    let part : PartRow IsAssignment Close (map lexeme c.args.tokens.now) (map assignment c.push.new.self.items) (map lexeme c.in-Ok.read.1.now) = rw is (lists_item assignment_list (map lexeme c.args.tokens.now) (map lexeme c.loop-read.left.now) (map lexeme c.in-Ok.read.1.now) (map assignment c.loop-read.items.items) (assignment c.in-Ok.read.0) c.loop-read.invariant.before c.in-Ok.ensures.tree) in
    rw c.from_vec.ensures (lists_end assignment_list (map lexeme c.args.tokens.now) (map lexeme c.in-Ok.read.1.now) (map lexeme c.in-Some-after_mark.rest.now) _ part c.in_default.ensures.none c.in-Some-after_mark.ensures.found)

pub returns-in_default-after_mark-clause-tree : goal.returns-in_default-after_mark-clause-tree
returns-in_default-after_mark-clause-tree c =
    let is : map assignment c.push.new.self.items ≡ map assignment c.loop-read.items.items ++ assignment c.in-Ok.read.0 ∷ [] = ap (map assignment) c.in_ok-push.ensures.items ∙ map-append assignment c.loop-read.items.items (c.in-Ok.read.0 ∷ []) in
    let part : PartRow IsAssignment Close (map lexeme c.args.tokens.now) (map assignment c.push.new.self.items) (map lexeme c.in-Ok.read.1.now) = rw is (lists_item assignment_list (map lexeme c.args.tokens.now) (map lexeme c.loop-read.left.now) (map lexeme c.in-Ok.read.1.now) (map assignment c.loop-read.items.items) (assignment c.in-Ok.read.0) c.loop-read.invariant.before c.in-Ok.ensures.tree) in
    counted_as (IsBefore Close IsAssignments) Always (map lexeme c.args.tokens.now) _ _ (length-map c.in-Ok.read.1.now lexeme) (lists_unclosed assignment_list (map lexeme c.args.tokens.now) (map lexeme c.in-Ok.read.1.now) (map assignment c.push.new.self.items) part c.in_default.ensures.none c.in_default-after_mark.ensures.none)
