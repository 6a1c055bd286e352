-- A refusal that is told as want of memory says no less.
use Rattle.std.proofs.Common.{◌≡◌, ℕ, List, Result, Ok, Err}
use Rattle.std.specs.Prelude.{OnOk}
use Rattle.store_model.specs.declared.fault.Fault.{Fault}
use Rattle.store_model.specs.declared.fault.Fault.TheVariants as faults
use Rattle.own_life.specs.Kept.{without_crowd}
use Rattle.own_life.specs.State.{BeginsAs, LifeState}

-- ---- a crowd

pub crowd_on_ok : {T : Type 0} (P : Type 0) (r : Result T Fault) → OnOk r P → OnOk (without_crowd r) P
crowd_on_ok P (Ok x) p = p
crowd_on_ok P (Err faults.TooManyActive) p = tt
crowd_on_ok P (Err _) p = tt

pub crowd_begins : (name : List ℕ) (r : Result ℕ Fault) (old new : LifeState) → BeginsAs name r old new → BeginsAs name (without_crowd r) old new
crowd_begins name (Ok x) old new b = b
crowd_begins name (Err faults.TooManyActive) old new b = b
crowd_begins name (Err _) old new b = b

pub no_crowd : {T : Type 0} (r : Result T Fault) → without_crowd r ≡ Err faults.TooManyActive → ⊥
no_crowd (Ok x) is = cc
no_crowd (Err faults.TooManyActive) is = cc
no_crowd (Err _) is = cc
