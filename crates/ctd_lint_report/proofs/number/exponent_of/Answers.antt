use Rattle.std.proofs.Common.{arith, ap, subst, sym, ℕ, ◌∙◌, ◌≡◌, ◌^◌, ◌≤◌}
use Rattle.std.proofs.Math.Nat.{one-le-pow}
use Rattle.ctd_lint_report.proofs.Exponents.{exponent_found, no_exponent, only_exponent}
use Rattle.ctd_lint_report.proofs.number.exponent_of.Goals as goal
use Rattle.ctd_lint_report.proofs.number.exponent_of.Goals.{else-least-exponent-via-then-least-exponent+else-pow-number, else-least-exponent-via-else-least-exponent}

pub returns-then-pow-number : goal.returns-then-pow-number
returns-then-pow-number c =
    sym (exponent_found 128 c.args.least c.args.base c.args.number c.in_ok-exponent.exponent c.in_ok-exponent.ensures.bound c.if-least-exponent.true (grind arith)
    (λ i. only_exponent c.args.base c.args.number c.in_ok-exponent.exponent i c.requires c.in_ok-exponent.ensures.power_le c.in_ok-exponent.ensures.next_power_gt))

pub returns-in_err-exponent : goal.returns-in_err-exponent
returns-in_err-exponent c =
    c.from_residual.ensures ∙ sym (no_exponent 128 c.args.least c.args.base c.args.number (λ i no_less is.
    let some : 1 ≤ c.args.base ^ i = one-le-pow i c.args.base (omega (arith, c.requires)) in
    grind (arith, some, is, c.requires, c.in_err-exponent.ensures.variant)))

pub returns-else-least-exponent : goal.returns-else-least-exponent
returns-else-least-exponent c = sym (no_exponent 128 c.args.least c.args.base c.args.number (λ i no_less is.
    let same = only_exponent c.args.base c.args.number c.in_ok-exponent.exponent i c.requires c.in_ok-exponent.ensures.power_le c.in_ok-exponent.ensures.next_power_gt is in
    let power : c.args.base ^ c.in_ok-exponent.exponent ≡ c.args.number = ap (λ (k : ℕ). c.args.base ^ k) (sym same) ∙ is in
    let no_less : c.args.least ≤ c.in_ok-exponent.exponent = subst (λ (k : ℕ). c.args.least ≤ k) same no_less in
    elim c.else-least-exponent.branch [
      | else-least-exponent-via-then-least-exponent+else-pow-number w ↦ grind (arith, power, w.if-pow-number, w.pow.ensures)
      | else-least-exponent-via-else-least-exponent w ↦ grind (arith, no_less, w.if-least-exponent)
    ]))
