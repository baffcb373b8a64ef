use Rattle.std.proofs.Common.{length, inl, inr, ◌≡◌, [], ◌∷◌, ◌++◌, sym, ap, ◌∙◌, subst, rules, arith}
use Rattle.std.specs.Prelude.{map}
use Rattle.ctd_syntax.specs.Lexeme.{Lexeme, mark}
use Rattle.ctd_program.specs.calls.View.{expr_tree, var_tree, expr_list, exprs_of}
use Rattle.ctd_syntax.specs.Grammar.{IsExpr, IsExprs, IsProduct, IsSigned, IsPower, IsAtom, IsTarget}
use Rattle.ctd_syntax.specs.inner.Front.{HasTree, Always, IsBefore, lexeme}
use Rattle.ctd_syntax.specs.inner.Levels.{ends}
use Rattle.ctd_token.specs.declared.token.Mark.TheVariants.{Open, Close, CloseIndex}
use Rattle.ctd_syntax.proofs.StayChains.{start, no_start, finish, next, no_next}
use Rattle.ctd_syntax.proofs.Levels.{sums, products}
use Rattle.ctd_syntax.proofs.StayFronts.{reads_as, refused_as, before_reads, before_none, none_before, counted_as}
use Rattle.ctd_syntax.proofs.Rows.{index_list, list_of, list_view}
use Rattle.ctd_syntax.proofs.StayRows.{PartRow, lists_item, lists_no_item, lists_end, lists_unclosed}
use Rattle.ctd_syntax.proofs.Atoms.{not_strlen_begins, not_open_begins}
use Rattle.ctd_syntax.proofs.StayAtoms.{no_variable, nothing_atom, strlen_unopened, minus_reads, minus_none, power_is_signed, no_power_signed, power_reads, power_none, atom_is_power, no_atom_power, numeral_reads, text_reads, variable_reads, variable_none, variable_plain, variable_indexed, variable_bad_index, strlen_reads, strlen_none, group_reads, group_none, no_atom}
use Rattle.ctd_program.specs.Tree
use Rattle.ctd_syntax.specs.declared.parser_token.ParserToken.TheVariants as parser_tokens
use Rattle.ctd_syntax.specs.declared.keyword.Keyword.TheVariants.{Strlen}
use Rattle.std.proofs.lemmas.Int.{to_z-of_z}
use Rattle.std.proofs.lemmas.List.{map-append, length-map}
use Rattle.std.specs.Int.{w128}
use Rattle.ctd_program.specs.declared.tree.Var.{Var}
use Rattle.ctd_syntax.proofs.expression.+expression.Goals as goal
use Rattle.ctd_syntax.proofs.expression.+expression.Goals.{atom-in_default-first-via-in-Keyword+in_default, atom-in_default-first-via-in-Mark+in_default}

pub atom-returns-in-Numeral-clause-tree : goal.atom-returns-in-Numeral-clause-tree
atom-returns-in-Numeral-clause-tree t c = rw (c.new-numeral.ensures.same, to_z-of_z w128 c.in-Numeral.n (search rules)) (numeral_reads (map lexeme c.args.tokens.now) (map lexeme c.in-Some.rest.now) _ (ap (map lexeme) c.in-Some.ensures.cases.0 ∙ ap (λ x. lexeme x ∷ map lexeme c.in-Some.rest.now) c.in-Numeral.is))

pub atom-returns-in_ok-bytes-in-Text-clause-tree : goal.atom-returns-in_ok-bytes-in-Text-clause-tree
atom-returns-in_ok-bytes-in-Text-clause-tree t c = rw c.in_ok-bytes-in-Text.ensures (text_reads (map lexeme c.args.tokens.now) (map lexeme c.in-Some.rest.now) _ _ (ap (map lexeme) c.in-Some.ensures.cases.0 ∙ ap (λ x. lexeme x ∷ map lexeme c.in-Some.rest.now) c.in-Text.is))

pub atom-returns-in-Err-clause-tree : goal.atom-returns-in-Err-clause-tree
atom-returns-in-Err-clause-tree t c = refused_as IsTarget IsAtom (ends 4) (ends 4) (map lexeme c.args.tokens.now) (map lexeme c.args.tokens.now) c.in-Err.fault (variable_none (map lexeme c.args.tokens.now) (map lexeme c.in-Some.rest.now) _ (ap (map lexeme) c.in-Some.ensures.cases.0 ∙ ap (λ x. lexeme x ∷ map lexeme c.in-Some.rest.now) c.in-Name.is)) c.in-Err.ensures.tree

pub atom-returns-in_ok-value_of-in-Name-clause-tree : goal.atom-returns-in_ok-value_of-in-Name-clause-tree
atom-returns-in_ok-value_of-in-Name-clause-tree t c =
    let v : Var = c.in-Ok.read.0 in
    let found = variable_reads (map lexeme c.args.tokens.now) (map lexeme c.in-Some.rest.now) (map lexeme c.in-Ok.read.1.now) _ (var_tree v) (ap (map lexeme) c.in-Some.ensures.cases.0 ∙ ap (λ x. lexeme x ∷ map lexeme c.in-Some.rest.now) c.in-Name.is) c.in-Ok.ensures.tree in
    subst (λ x. HasTree IsAtom (ends 4) (map lexeme c.args.tokens.now) x (map lexeme c.in-Ok.read.1.now)) (sym c.in_ok-value_of-in-Name.ensures) found

pub variable-returns-in-Err-clause-tree : goal.variable-returns-in-Err-clause-tree
variable-returns-in-Err-clause-tree t c = refused_as (IsBefore CloseIndex IsExprs) IsTarget Always (ends 4) (map lexeme c.in-Some-after_mark.after.now) (map lexeme c.args.tokens.now) c.in-Err.fault (variable_bad_index (map lexeme c.args.tokens.now) (map lexeme c.in-Some.rest.now) (map lexeme c.in-Some-after_mark.after.now) c.in-Some.name.now c.in-Some.ensures.found c.in-Some-after_mark.ensures.found) c.in-Err.ensures.tree

pub variable-returns-in-Ok-clause-tree : goal.variable-returns-in-Ok-clause-tree
variable-returns-in-Ok-clause-tree t c = rw c.in_ok-name.ensures.equal (variable_indexed (map lexeme c.args.tokens.now) (map lexeme c.in-Some.rest.now) (map lexeme c.in-Some-after_mark.after.now) (map lexeme c.in-Ok.read.1.now) c.in-Some.name.now _ c.in-Some.ensures.found c.in-Some-after_mark.ensures.found c.in-Ok.ensures.tree)

pub variable-returns-in-None-clause-tree : goal.variable-returns-in-None-clause-tree
variable-returns-in-None-clause-tree t c =
    let is : expr_list (exprs_of c.from_vec-indices.result) ≡ Tree.none = ap expr_list (c.from_vec-indices.ensures ∙ c.new.ensures.items) in
    rw (c.in_ok-name.ensures.equal, is) (variable_plain (map lexeme c.args.tokens.now) (map lexeme c.in-Some.rest.now) c.in-Some.name.now c.in-Some.ensures.found c.in-None.ensures.none)

pub parenthesized-returns-in-Some-clause-tree : goal.parenthesized-returns-in-Some-clause-tree
parenthesized-returns-in-Some-clause-tree t c = before_reads IsExpr (ends 1) Close (λ us. omega arith) (map lexeme c.args.tokens.now) (map lexeme c.in-Ok.read.1.now) (map lexeme c.in-Some.rest.now) _ c.in-Ok.ensures.tree c.in-Some.ensures.found

pub signed-returns-in-Err-clause-tree : goal.signed-returns-in-Err-clause-tree
signed-returns-in-Err-clause-tree t c = refused_as IsSigned IsSigned (ends 3) (ends 3) (map lexeme c.in-Some.after.now) (map lexeme c.args.tokens.now) c.in-Err.fault (minus_none (map lexeme c.args.tokens.now) (map lexeme c.in-Some.after.now) c.in-Some.ensures.found) c.in-Err.ensures.tree

pub signed-returns-in_ok-new-in-Some-clause-tree : goal.signed-returns-in_ok-new-in-Some-clause-tree
signed-returns-in_ok-new-in-Some-clause-tree t c = rw c.in_ok-new-in-Some.ensures.ok (minus_reads (map lexeme c.args.tokens.now) (map lexeme c.in-Some.after.now) _ _ c.in-Some.ensures.found c.in-Ok.ensures.tree)

pub signed-returns-in-None-clause-tree : goal.signed-returns-in-None-clause-tree
signed-returns-in-None-clause-tree t c = reads_as IsPower IsSigned (ends 3) (ends 3) _ (map lexeme c.args.tokens.now) (map lexeme c.args.tokens.now) c.power.result (power_is_signed (map lexeme c.args.tokens.now) c.in-None.ensures.none) (no_power_signed (map lexeme c.args.tokens.now) c.in-None.ensures.none) c.power.ensures.tree

pub expr-returns-in-Err-clause-tree : goal.expr-returns-in-Err-clause-tree
expr-returns-in-Err-clause-tree t c = refused_as IsProduct IsExpr (ends 2) (ends 1) (map lexeme c.args.tokens.now) (map lexeme c.args.tokens.now) c.in-Err.fault (no_start sums (map lexeme c.args.tokens.now)) c.in-Err.ensures.tree

pub expr-loop-operator-init : goal.expr-loop-operator-init
expr-loop-operator-init t c = record { partly = start sums (map lexeme c.args.tokens.now) _ (map lexeme c.in-Ok.read.1.now) c.in-Ok.ensures.tree; shorter = c.in-Ok.ensures.shorter }

pub expr-returns-in-Err-product-clause-tree : goal.expr-returns-in-Err-product-clause-tree
expr-returns-in-Err-product-clause-tree t c = refused_as IsProduct IsExpr (ends 2) (ends 1) (map lexeme c.in-Some.after.now) (map lexeme c.args.tokens.now) c.in-Err-product.fault (no_next sums (map lexeme c.args.tokens.now) _ (map lexeme c.loop-operator.rest.now) (map lexeme c.in-Some.after.now) _ c.loop-operator.invariant.partly c.in-Some.ensures.operator) c.in-Err-product.ensures.tree

pub expr-loop-operator-preserved : goal.expr-loop-operator-preserved
expr-loop-operator-preserved t c = record { partly = rw c.in_ok-left-in-Ok-product.ensures (next sums (map lexeme c.args.tokens.now) _ _ (map lexeme c.loop-operator.rest.now) (map lexeme c.in-Some.after.now) (map lexeme c.in-Ok-product.after.now) _ c.loop-operator.invariant.partly c.in-Some.ensures.operator c.in-Ok-product.ensures.tree); shorter = omega (arith, c.loop-operator.invariant.shorter, c.in-Some.ensures.shorter, c.in-Ok-product.ensures.shorter) }

pub expr-returns-clause-tree : goal.expr-returns-clause-tree
expr-returns-clause-tree t c = finish sums (map lexeme c.args.tokens.now) _ (map lexeme c.loop-operator.rest.now) c.loop-operator.invariant.partly c.in_default.ensures.operator

pub product-returns-in-Err-clause-tree : goal.product-returns-in-Err-clause-tree
product-returns-in-Err-clause-tree t c = refused_as IsSigned IsProduct (ends 3) (ends 2) (map lexeme c.args.tokens.now) (map lexeme c.args.tokens.now) c.in-Err.fault (no_start products (map lexeme c.args.tokens.now)) c.in-Err.ensures.tree

pub product-loop-operator-init : goal.product-loop-operator-init
product-loop-operator-init t c = record { partly = start products (map lexeme c.args.tokens.now) _ (map lexeme c.in-Ok.read.1.now) c.in-Ok.ensures.tree; shorter = c.in-Ok.ensures.shorter }

pub product-returns-in-Err-signed-clause-tree : goal.product-returns-in-Err-signed-clause-tree
product-returns-in-Err-signed-clause-tree t c = refused_as IsSigned IsProduct (ends 3) (ends 2) (map lexeme c.in-Some-product_operator.after.now) (map lexeme c.args.tokens.now) c.in-Err-signed.fault (no_next products (map lexeme c.args.tokens.now) _ (map lexeme c.loop-operator.rest.now) (map lexeme c.in-Some-product_operator.after.now) _ c.loop-operator.invariant.partly c.in-Some-product_operator.ensures.operator) c.in-Err-signed.ensures.tree

pub product-loop-operator-preserved : goal.product-loop-operator-preserved
product-loop-operator-preserved t c = record { partly = rw c.in_ok-left-in-Ok-signed.ensures (next products (map lexeme c.args.tokens.now) _ _ (map lexeme c.loop-operator.rest.now) (map lexeme c.in-Some-product_operator.after.now) (map lexeme c.in-Ok-signed.after.now) _ c.loop-operator.invariant.partly c.in-Some-product_operator.ensures.operator c.in-Ok-signed.ensures.tree); shorter = omega (arith, c.loop-operator.invariant.shorter, c.in-Some-product_operator.ensures.shorter, c.in-Ok-signed.ensures.shorter) }

pub product-returns-clause-tree : goal.product-returns-clause-tree
product-returns-clause-tree t c = finish products (map lexeme c.args.tokens.now) _ (map lexeme c.loop-operator.rest.now) c.loop-operator.invariant.partly c.in_default-product_operator.ensures.operator

pub power-returns-in-Err-clause-tree : goal.power-returns-in-Err-clause-tree
power-returns-in-Err-clause-tree t c = refused_as IsAtom IsPower (ends 4) (ends 3) (map lexeme c.args.tokens.now) (map lexeme c.args.tokens.now) c.in-Err.fault (no_atom_power (map lexeme c.args.tokens.now)) c.in-Err.ensures.tree

pub power-returns-in-Err-signed-clause-tree : goal.power-returns-in-Err-signed-clause-tree
power-returns-in-Err-signed-clause-tree t c = refused_as IsSigned IsPower (ends 3) (ends 3) (map lexeme c.in-Some.after.now) (map lexeme c.args.tokens.now) c.in-Err-signed.fault (power_none (map lexeme c.args.tokens.now) (map lexeme c.in-Ok.read.1.now) (map lexeme c.in-Some.after.now) _ c.in-Ok.ensures.tree c.in-Some.ensures.found) c.in-Err-signed.ensures.tree

pub power-returns-in_ok-exponent-in-Some-clause-tree : goal.power-returns-in_ok-exponent-in-Some-clause-tree
power-returns-in_ok-exponent-in-Some-clause-tree t c = rw (c.in_ok-base-in-Some.ensures.ok, c.in_ok-exponent-in-Some.ensures.ok) (power_reads (map lexeme c.args.tokens.now) (map lexeme c.in-Ok.read.1.now) (map lexeme c.in-Some.after.now) _ _ _ c.in-Ok.ensures.tree c.in-Some.ensures.found c.in-Ok-signed.ensures.tree)

pub power-returns-in-None-clause-tree : goal.power-returns-in-None-clause-tree
power-returns-in-None-clause-tree t c = atom_is_power (map lexeme c.args.tokens.now) (map lexeme c.in-Ok.read.1.now) _ c.in-Ok.ensures.tree c.in-None.ensures.none

pub indices-loop-read-init : goal.indices-loop-read-init
indices-loop-read-init t c = record { before = inl (ap (map expr_tree) c.in_ok-items.ensures.items, ap (map lexeme) (sym c.split_at.ensures.back)); shorter = omega (arith, ap length c.split_at.ensures.back) }

pub indices-returns-in-Err-clause-tree : goal.indices-returns-in-Err-clause-tree
indices-returns-in-Err-clause-tree t c = refused_as IsExpr (IsBefore CloseIndex IsExprs) (ends 1) Always (map lexeme c.loop-read.left.now) (map lexeme c.args.tokens.now) c.in-Err.fault (lists_no_item index_list (map lexeme c.args.tokens.now) (map lexeme c.loop-read.left.now) (map expr_tree c.loop-read.items.items) c.loop-read.invariant.before) c.in-Err.ensures.tree

pub indices-loop-read-preserved : goal.indices-loop-read-preserved
indices-loop-read-preserved t c =
    let is : map expr_tree c.push.new.self.items ≡ map expr_tree c.loop-read.items.items ++ expr_tree c.in-Ok.read.0 ∷ [] = ap (map expr_tree) c.in_ok-push.ensures.items ∙ map-append expr_tree c.loop-read.items.items (c.in-Ok.read.0 ∷ []) in
    let part : PartRow IsExpr CloseIndex (map lexeme c.args.tokens.now) (map expr_tree c.push.new.self.items) (map lexeme c.in-Ok.read.1.now) = rw is (lists_item index_list (map lexeme c.args.tokens.now) (map lexeme c.loop-read.left.now) (map lexeme c.in-Ok.read.1.now) (map expr_tree c.loop-read.items.items) (expr_tree c.in-Ok.read.0) c.loop-read.invariant.before c.in-Ok.ensures.tree) in
    record { before = inr ((map lexeme c.in-Ok.read.1.now), part, c.in-Some.ensures.found); shorter = omega (arith, c.loop-read.invariant.shorter, c.in-Some.ensures.shorter, c.in-Ok.ensures.shorter) }

pub indices-returns-in_default-clause-tree : goal.indices-returns-in_default-clause-tree
indices-returns-in_default-clause-tree t c =
    let is : map expr_tree c.push.new.self.items ≡ map expr_tree c.loop-read.items.items ++ expr_tree c.in-Ok.read.0 ∷ [] = ap (map expr_tree) c.in_ok-push.ensures.items ∙ map-append expr_tree c.loop-read.items.items (c.in-Ok.read.0 ∷ []) in
    let part : PartRow IsExpr CloseIndex (map lexeme c.args.tokens.now) (map expr_tree c.push.new.self.items) (map lexeme c.in-Ok.read.1.now) = rw is (lists_item index_list (map lexeme c.args.tokens.now) (map lexeme c.loop-read.left.now) (map lexeme c.in-Ok.read.1.now) (map expr_tree c.loop-read.items.items) (expr_tree c.in-Ok.read.0) c.loop-read.invariant.before c.in-Ok.ensures.tree) in
    let list : list_of (map expr_tree c.push.new.self.items) ≡ expr_list (exprs_of c.from_vec.result) = list_view c.push.new.self.items ∙ ap expr_list (sym c.from_vec.ensures) in
    subst (λ l. HasTree (IsBefore CloseIndex IsExprs) Always (map lexeme c.args.tokens.now) l (map lexeme c.in-Some-after_mark.rest.now)) list (lists_end index_list (map lexeme c.args.tokens.now) (map lexeme c.in-Ok.read.1.now) (map lexeme c.in-Some-after_mark.rest.now) _ part c.in_default.ensures.none c.in-Some-after_mark.ensures.found)

pub indices-returns-in_default-after_mark-clause-tree : goal.indices-returns-in_default-after_mark-clause-tree
indices-returns-in_default-after_mark-clause-tree t c =
    let is : map expr_tree c.push.new.self.items ≡ map expr_tree c.loop-read.items.items ++ expr_tree c.in-Ok.read.0 ∷ [] = ap (map expr_tree) c.in_ok-push.ensures.items ∙ map-append expr_tree c.loop-read.items.items (c.in-Ok.read.0 ∷ []) in
    let part : PartRow IsExpr CloseIndex (map lexeme c.args.tokens.now) (map expr_tree c.push.new.self.items) (map lexeme c.in-Ok.read.1.now) = rw is (lists_item index_list (map lexeme c.args.tokens.now) (map lexeme c.loop-read.left.now) (map lexeme c.in-Ok.read.1.now) (map expr_tree c.loop-read.items.items) (expr_tree c.in-Ok.read.0) c.loop-read.invariant.before c.in-Ok.ensures.tree) in
    counted_as (IsBefore CloseIndex IsExprs) Always (map lexeme c.args.tokens.now) _ _ (length-map c.in-Ok.read.1.now lexeme) (lists_unclosed index_list (map lexeme c.args.tokens.now) (map lexeme c.in-Ok.read.1.now) (map expr_tree c.push.new.self.items) part c.in_default.ensures.none c.in_default-after_mark.ensures.none)

pub atom-returns-in-Mark-Open-clause-tree : goal.atom-returns-in-Mark-Open-clause-tree
atom-returns-in-Mark-Open-clause-tree t c =
    let is_open : c.in-Mark-Open.field-0 ≡ Open = search (rules, c.in-Mark-Open.is, c.in-Mark-Open.field-0-is) in
    let opened : map lexeme c.args.tokens.now ≡ mark Open ∷ map lexeme c.in-Some.rest.now = ap (map lexeme) c.in-Some.ensures.cases.0 ∙ ap (λ x. lexeme x ∷ map lexeme c.in-Some.rest.now) (c.in-Mark-Open.is ∙ ap parser_tokens.Mark is_open) in
    reads_as (IsBefore Close IsExpr) IsAtom Always (ends 4) _ (map lexeme c.in-Some.rest.now) (map lexeme c.args.tokens.now) c.parenthesized-in-Mark-Open.result (group_reads (map lexeme c.args.tokens.now) (map lexeme c.in-Some.rest.now) opened) (group_none (map lexeme c.args.tokens.now) (map lexeme c.in-Some.rest.now) opened) c.parenthesized-in-Mark-Open.ensures.tree

pub atom-returns-in_default-first-clause-tree : goal.atom-returns-in_default-first-clause-tree
atom-returns-in_default-first-clause-tree t c = elim c.in_default-first.branch [
  | atom-in_default-first-via-in-Keyword+in_default w ↦ counted_as IsAtom (ends 4) (map lexeme c.args.tokens.now) _ _ (length-map c.args.tokens.now lexeme) (no_atom (map lexeme c.args.tokens.now) (map lexeme c.in-Some.rest.now) (Lexeme.keyword w.in_default-first.field-0 w.in_default-first.field-1) (ap (map lexeme) c.in-Some.ensures.cases.0 ∙ ap (λ x. lexeme x ∷ map lexeme c.in-Some.rest.now) w.in_default-first.is) (not_strlen_begins w.in_default-first.field-0 _ (search rules)))
  | atom-in_default-first-via-in-Mark+in_default w ↦ counted_as IsAtom (ends 4) (map lexeme c.args.tokens.now) _ _ (length-map c.args.tokens.now lexeme) (no_atom (map lexeme c.args.tokens.now) (map lexeme c.in-Some.rest.now) (mark w.in_default-first.field-0) (ap (map lexeme) c.in-Some.ensures.cases.0 ∙ ap (λ x. lexeme x ∷ map lexeme c.in-Some.rest.now) w.in_default-first.is) (not_open_begins w.in_default-first.field-0 (search rules)))
]

pub atom-returns-in-Err-parenthesized-clause-tree : goal.atom-returns-in-Err-parenthesized-clause-tree
atom-returns-in-Err-parenthesized-clause-tree t c =
    let is_strlen : c.in-Keyword-Strlen-default.field-0 ≡ Strlen = search (rules, c.in-Keyword-Strlen-default.is, c.in-Keyword-Strlen-default.field-0-is) in
    let called : map lexeme c.args.tokens.now ≡ Lexeme.keyword Strlen c.in-Keyword-Strlen-default.field-1 ∷ map lexeme c.in-Some.rest.now = ap (map lexeme) c.in-Some.ensures.cases.0 ∙ ap (λ x. lexeme x ∷ map lexeme c.in-Some.rest.now) (c.in-Keyword-Strlen-default.is ∙ ap (λ x. parser_tokens.Keyword x c.in-Keyword-Strlen-default.field-1) is_strlen) in
    refused_as (IsBefore Close IsExpr) IsAtom Always (ends 4) (map lexeme c.in-Some-after_mark.rest.now) (map lexeme c.args.tokens.now) c.in-Err-parenthesized.fault (strlen_none (map lexeme c.args.tokens.now) (map lexeme c.in-Some.rest.now) (map lexeme c.in-Some-after_mark.rest.now) _ called c.in-Some-after_mark.ensures.found) c.in-Err-parenthesized.ensures.tree

pub atom-returns-in_ok-new-in-Some-after_mark-clause-tree : goal.atom-returns-in_ok-new-in-Some-after_mark-clause-tree
atom-returns-in_ok-new-in-Some-after_mark-clause-tree t c =
    let is_strlen : c.in-Keyword-Strlen-default.field-0 ≡ Strlen = search (rules, c.in-Keyword-Strlen-default.is, c.in-Keyword-Strlen-default.field-0-is) in
    let called : map lexeme c.args.tokens.now ≡ Lexeme.keyword Strlen c.in-Keyword-Strlen-default.field-1 ∷ map lexeme c.in-Some.rest.now = ap (map lexeme) c.in-Some.ensures.cases.0 ∙ ap (λ x. lexeme x ∷ map lexeme c.in-Some.rest.now) (c.in-Keyword-Strlen-default.is ∙ ap (λ x. parser_tokens.Keyword x c.in-Keyword-Strlen-default.field-1) is_strlen) in
    rw c.in_ok-new-in-Some-after_mark.ensures.ok (strlen_reads (map lexeme c.args.tokens.now) (map lexeme c.in-Some.rest.now) (map lexeme c.in-Some-after_mark.rest.now) _ _ _ called c.in-Some-after_mark.ensures.found c.in-Ok-parenthesized.ensures.tree)

pub parenthesized-returns-in-Err-clause-tree : goal.parenthesized-returns-in-Err-clause-tree
parenthesized-returns-in-Err-clause-tree t c = refused_as IsExpr (IsBefore Close IsExpr) (ends 1) Always (map lexeme c.args.tokens.now) (map lexeme c.args.tokens.now) c.in-Err.fault (none_before IsExpr (ends 1) Close (λ us. omega arith) (map lexeme c.args.tokens.now)) c.in-Err.ensures.tree

pub parenthesized-returns-in-None-clause-tree : goal.parenthesized-returns-in-None-clause-tree
parenthesized-returns-in-None-clause-tree t c = counted_as (IsBefore Close IsExpr) Always (map lexeme c.args.tokens.now) _ _ (length-map c.in-Ok.read.1.now lexeme) (before_none IsExpr (ends 1) Close (λ us. omega arith) (map lexeme c.args.tokens.now) (map lexeme c.in-Ok.read.1.now) _ c.in-Ok.ensures.tree c.in-None.ensures.none)

pub atom-returns-in_default-clause-tree : goal.atom-returns-in_default-clause-tree
atom-returns-in_default-clause-tree t c = nothing_atom (map lexeme c.args.tokens.now) (length-map c.args.tokens.now lexeme ∙ c.in_default.ensures.cases)

pub atom-returns-in-None-clause-tree : goal.atom-returns-in-None-clause-tree
atom-returns-in-None-clause-tree t c =
    let is_strlen : c.in-Keyword-Strlen-default.field-0 ≡ Strlen = search (rules, c.in-Keyword-Strlen-default.is, c.in-Keyword-Strlen-default.field-0-is) in
    let called : map lexeme c.args.tokens.now ≡ Lexeme.keyword Strlen c.in-Keyword-Strlen-default.field-1 ∷ map lexeme c.in-Some.rest.now = ap (map lexeme) c.in-Some.ensures.cases.0 ∙ ap (λ x. lexeme x ∷ map lexeme c.in-Some.rest.now) (c.in-Keyword-Strlen-default.is ∙ ap (λ x. parser_tokens.Keyword x c.in-Keyword-Strlen-default.field-1) is_strlen) in
    counted_as IsAtom (ends 4) (map lexeme c.args.tokens.now) _ _ (length-map c.in-Some.rest.now lexeme) (strlen_unopened (map lexeme c.args.tokens.now) (map lexeme c.in-Some.rest.now) _ called c.in-None.ensures.none)

pub variable-returns-in_default-clause-tree : goal.variable-returns-in_default-clause-tree
variable-returns-in_default-clause-tree t c = counted_as IsTarget (ends 4) (map lexeme c.args.tokens.now) _ _ (length-map c.args.tokens.now lexeme) (no_variable (map lexeme c.args.tokens.now) c.in_default.ensures.none)
