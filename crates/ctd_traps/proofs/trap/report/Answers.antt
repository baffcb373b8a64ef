use Rattle.ctd_traps.proofs.Common.{[], arith, faults_of, ℕ, ◌<◌, ◌∷◌}
use Rattle.ctd_states.specs.declared.faults.TrapKind.TheVariants as kinds
use Rattle.ctd_traps.proofs.Listed.{all_listed, next_listed}
use Rattle.ctd_traps.proofs.trap.report.Goals as goal

pub loop-kind-init : goal.loop-kind-init
loop-kind-init c = record { more = λ t is. is; listed = λ k less. absurd (omega (arith, less)) }

pub loop-kind-preserved : goal.loop-kind-preserved
loop-kind-preserved c = record {
  more = λ t is. c.in_ok-report_kind.ensures.more t (c.loop-kind.invariant.more t is);
  listed = next_listed (kinds.NoValue ∷ kinds.NoElement ∷ kinds.WrongType ∷ kinds.Overflow ∷ kinds.DivisionByZero ∷ kinds.BadExponent ∷ kinds.BadCount ∷ kinds.OtherShape ∷ []) c.loop-kind.kind-index kinds.NoValue c.args.place c.args.faults
      (faults_of c.loop-kind.traps.items) (faults_of c.report_kind.new.traps.items) c.in_ok-report_kind.ensures.more c.loop-kind.invariant.listed c.in_ok-report_kind.ensures.listed;
}

pub returns : goal.returns
returns c =
    let done : (k : ℕ) → k < 8 → k < c.loop-kind.kind-index = λ k less. omega (arith, less) in
    let listed = c.loop-kind.invariant.listed in
    record {
      more = c.loop-kind.invariant.more;
      listed = all_listed _ c.args.place c.args.faults (listed 0 (done 0 (omega arith))) (listed 1 (done 1 (omega arith))) (listed 2 (done 2 (omega arith))) (listed 3 (done 3 (omega arith))) (listed 4 (done 4 (omega arith)))
          (listed 5 (done 5 (omega arith))) (listed 6 (done 6 (omega arith))) (listed 7 (done 7 (omega arith)));
    }
