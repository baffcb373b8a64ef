use Rattle.std.proofs.Common.{◌≡◌, ℕ, ◌+◌, List, Ok, Err, sym, ap, ◌∙◌, subst, arith}
use Rattle.std.proofs.lemmas.List.{take_rest}
use Rattle.ctd_token.specs.declared.token.TokenKind.TheVariants as tokens
use Rattle.ctd_token.specs.Cut.{token_at}
use Rattle.ctd_program.specs.declared.preset.PresetFault.TheVariants.{BadPreset}
use Rattle.ctd_program.specs.calls.PresetFront.{fault_of}
use Rattle.ctd_program.specs.inner.PresetFront.{MayFollowTarget, IsAtFront, NothingIsAtFront, SpellsTarget, AreIndices}
use Rattle.ctd_program.proofs.TokenFronts.{same_found}
use Rattle.ctd_program.proofs.PresetTargets.{no_name_in_front, no_name_at_fault, no_indices_behind, target_in_front}
use Rattle.ctd_program.proofs.preset_text.target_at.Goals.{in-Name, in_default}
use Rattle.ctd_program.proofs.preset_text.target_at.Goals as goal

pub returns-in_err-kind-clause-refused : goal.returns-in_err-kind-clause-refused
returns-in_err-kind-clause-refused c is =
    let bad : fault_of c.in_err-kind.field-0.0 ≡ BadPreset = grind (arith, c.from_residual.ensures.1, is) in
    no_name_in_front c.args.bytes.now (no_name_at_fault c.args.bytes.now c.in_err-kind.field-0.0 c.in_err-kind.ensures.token bad)

pub returns-then-not-matches-clause-refused : goal.returns-then-not-matches-clause-refused
returns-then-not-matches-clause-refused c is =
    let bytes : List ℕ = c.args.bytes.now in
    let other : c.in_ok-kind.kind ≡ tokens.Name → ⊥ = elim c.match-matches.branch [
      | in-Name w ↦ λ same. grind (arith, w.matches-is, c.if-not-matches.true)
      | in_default w ↦ λ same. w.in_default.not-Name same
    ] in
    no_name_in_front bytes (λ n found. other (same_found c.in_ok-kind.kind tokens.Name c.in_ok-kind.n n (token_at bytes) c.in_ok-kind.ensures.token found).0)

pub returns-in_err-indices-clause-refused : goal.returns-in_err-indices-clause-refused
returns-in_err-indices-clause-refused c is =
    let bytes : List ℕ = c.args.bytes.now in
    let n : ℕ = c.in_ok-kind.n in
    let name : c.in_ok-kind.kind ≡ tokens.Name = elim c.match-matches.branch [
      | in-Name w ↦ w.in-Name.is
      | in_default w ↦ absurd (grind (arith, w.matches-is, c.if-not-matches.false))
    ] in
    let bad : c.in_err-indices.field-0.0 ≡ BadPreset = grind (arith, c.from_residual-in_err-indices.ensures.1) in
    no_indices_behind bytes n (c.in_ok-kind.ensures.token ∙ ap (λ k. Ok (k, n)) name) (subst (NothingIsAtFront MayFollowTarget AreIndices) (take_rest bytes n) (c.in_err-indices.ensures.refused (ap Err bad)))

pub returns-clause-read : goal.returns-clause-read
returns-clause-read c =
    let bytes : List ℕ = c.args.bytes.now in
    let n : ℕ = c.in_ok-kind.n in
    let len : ℕ = c.in_ok-indices.len in
    let name : c.in_ok-kind.kind ≡ tokens.Name = elim c.match-matches.branch [
      | in-Name w ↦ w.in-Name.is
      | in_default w ↦ absurd (grind (arith, w.matches-is, c.if-not-matches.false))
    ] in
    let there = subst (λ l. IsAtFront MayFollowTarget AreIndices l (c.in_ok-indices.indices, len)) (take_rest bytes n) c.in_ok-indices.ensures.read in
    let whole = target_in_front bytes n len c.in_ok-indices.indices (c.in_ok-kind.ensures.token ∙ ap (λ k. Ok (k, n)) name) c.in_ok-kind.ensures.within.1 there in
    subst (λ l. IsAtFront MayFollowTarget SpellsTarget bytes ((l, c.in_ok-indices.indices), n + len)) (sym c.in_ok-name.ensures.equal) whole
