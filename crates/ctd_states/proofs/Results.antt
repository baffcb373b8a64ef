-- What holds of a result, if there is one.
use Rattle.std.proofs.Common.{Result, Ok, Err, IfOk}

pub if_ok_more : {A E : Type 0} (P Q : A → Type 0) (r : Result A E) → ((x : A) → P x → Q x) → IfOk r P → IfOk r Q
if_ok_more P Q (Ok x) more holds = more x holds
if_ok_more P Q (Err e) more holds = tt

-- what two things say of a result, if there is one
pub if_ok_both : {A E : Type 0} (P Q R : A → Type 0) (r : Result A E) → ((x : A) → P x → Q x → R x) → IfOk r P → IfOk r Q → IfOk r R
if_ok_both P Q R (Ok x) both first second = both x first second
if_ok_both P Q R (Err e) both first second = tt
