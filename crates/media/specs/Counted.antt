-- What calls of a device say of a fuse round it.
use Rattle.std.specs.Prelude.{◌≡◌, ◌≢◌, ◌⊎◌, ◌≤◌, ℕ, Option, None, Some, Result, OnOk, OnErr}
use Rattle.media.specs.Cause.{Rose}
use Rattle.media.specs.Fused.{burnt, one_more}

-- the call fails
abbrev pub Fails : {T E : Type 0} → Result T E → Type 0
Fails result = OnOk result ⊥

-- A call that a fuse counts: a blown fuse refuses it and stays blown, and any other passes it on. A call that was
-- passed on fails only where the device itself failed.
pub record Counted {D T E : Type 0} (passes : D → Option ℕ) (refused own : D → ℕ) (old new : D) (result : Result T E) : Type 0 where
  pub blown : passes old ≡ Some 0 → Fails result × (passes new ≡ Some 0) × (refused new ≡ one_more (refused old)) × (own new ≡ own old)
  pub passed : passes old ≢ Some 0 → (passes new ≡ burnt (passes old)) × (refused new ≡ refused old) × OnErr result (Rose (own old) (own new))
  pub later : own old ≤ own new

-- A call that no fuse counts.
pub record Uncounted {D : Type 0} (passes : D → Option ℕ) (refused own : D → ℕ) (old new : D) : Type 0 where
  pub left : passes new ≡ passes old
  pub unrefused : refused new ≡ refused old
  pub later : own old ≤ own new

-- A fuse lets this many calls pass from now on; where there is none, nothing changes.
pub record Armed {D : Type 0} (fuses : Type 0) (passes : D → Option ℕ) (refused own : D → ℕ) (n : Option ℕ) (old new : D) : Type 0 where
  pub armed : fuses → passes new ≡ n
  pub unfused : (fuses → ⊥) → passes new ≡ passes old
  pub unrefused : refused new ≡ refused old
  pub unfailed : own new ≡ own old

-- Any number of calls, the last of which may have faulted: then the device itself failed, or a fuse that was armed
-- refused a call.
pub record Blames {D : Type 0} (passes : D → Option ℕ) (refused own : D → ℕ) (old new : D) (faulted : Type 0) : Type 0 where
  pub unarmed : passes old ≡ None → (passes new ≡ None) × (refused new ≡ refused old)
  pub refused_later : refused old ≤ refused new
  pub own_later : own old ≤ own new
  pub cause : faulted → Rose (own old) (own new) ⊎ Rose (refused old) (refused new)
  pub quiet : (faulted → ⊥) → refused new ≡ refused old
