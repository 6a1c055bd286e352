-- A fuse that refuses a call counts it.
use Rattle.std.proofs.Common.{◌≡◌, ◌+◌, ◌<◌, ℕ, ap, arith}
use Rattle.std.specs.Prelude.{Result, Ok, Err, OnErr}
use Rattle.media.specs.Cause.{HasCause}
use Rattle.media.specs.Fused.{Fused, one_more}

on_err : {T E P : Type 0} (result : Result T E) → P → OnErr result P
on_err (Ok x) p = tt
on_err (Err e) p = p

pub refused_cause : {D T E : Type 0} (faults : D → ℕ) (old new : Fused D) (result : Result T E) → old.refused < 18446744073709551616 → new.inner ≡ old.inner → new.refused ≡ one_more old.refused
    → HasCause (λ (f : Fused D). faults f.inner + f.refused) old new result
refused_cause {D} faults old new result small same more = record {
  later = omega (arith, small, ap faults same, more);
  failed = on_err result (omega (arith, small, ap faults same, more));
}
