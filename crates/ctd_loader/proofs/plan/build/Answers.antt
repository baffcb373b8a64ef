use Rattle.std.proofs.Common.{◌≢◌, List, ℕ, ap, subst}
use Rattle.ctd_pattern.specs.declared.pattern.PatternFault.TheVariants.{Memory}
use Rattle.ctd_loader.specs.Loading.{IsUnbuilt}
use Rattle.ctd_loader.proofs.Building.{unbuilt_by}
use Rattle.ctd_loader.proofs.plan.build.Goals as goal

pub returns-in-Err-clause-bad : goal.returns-in-Err-clause-bad
returns-in-Err-clause-bad c other =
    let memory : c.in-Err.fault ≢ Memory = λ memory. other (ap (λ f. f.kind) (c.pattern_fault.ensures.memory memory)) in
    let e = c.in-Err.ensures in
    let P : List ℕ → Type 0 = λ x. IsUnbuilt x c.in-Err.fault in
    record {
      why = c.in-Err.fault;
      unbuilt = subst P c.as_slice.ensures.whole (unbuilt_by c.as_slice.result.now c.in-Err.fault e.not_text e.not_pattern e.too_large memory);
      fault = c.pattern_fault.ensures.bad memory;
    }
