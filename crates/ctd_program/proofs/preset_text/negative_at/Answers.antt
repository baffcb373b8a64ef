use Rattle.std.proofs.Common.{◌≡◌, ℕ, ◌+◌, List, Ok, Some, ap, ◌∙◌, sym, subst}
use Rattle.ctd_token.specs.declared.token.TokenKind.TheVariants as tokens
use Rattle.ctd_program.specs.declared.preset.PresetValue.TheVariants as literals
use Rattle.ctd_token.specs.Cut.{token_at}
use Rattle.ctd_program.specs.inner.PresetFront.{IsFound, negative_literal}
use Rattle.ctd_program.proofs.TokenFronts.{numeral_value, negative_fits, negative_is, not_negated}
use Rattle.ctd_program.proofs.preset_text.negative_at.Goals.{in-Numeral, in_default}
use Rattle.ctd_program.proofs.preset_text.negative_at.Goals as goal

pub overflow_sub-result : goal.overflow_sub-result
overflow_sub-result c =
    let v = numeral_value c.args.bytes.now c.in-Numeral.n c.in_ok-kind.len (c.in_ok-kind.ensures.token ∙ ap (λ k. Ok (k, c.in_ok-kind.len)) c.in-Numeral.is) in
    negative_fits c.in-Numeral.n v.0 v.1 v.2

pub returns-clause-value : goal.returns-clause-value
returns-clause-value c =
    let bytes : List ℕ = c.args.bytes.now in
    let len : ℕ = c.in_ok-kind.len in
    elim c.match-kind.branch [
      | in-Numeral w ↦
          let found : token_at bytes ≡ Ok (tokens.Numeral w.in-Numeral.n, len) = c.in_ok-kind.ensures.token ∙ ap (λ k. Ok (k, len)) w.in-Numeral.is in
          let v = numeral_value bytes w.in-Numeral.n len found in
          let is = negative_is w.in-Numeral.n v.0 v.1 v.2 in
          subst (λ r. IsFound r (negative_literal (token_at bytes))) (sym w.result-is) (ap negative_literal found ∙ ap (λ z. Some (literals.Int z, 1 + len)) (sym is))
      | in_default w ↦
          subst (λ r. IsFound r (negative_literal (token_at bytes))) (sym w.result-is) (ap negative_literal c.in_ok-kind.ensures.token ∙ not_negated c.in_ok-kind.kind len w.in_default.not-Numeral)
    ]
