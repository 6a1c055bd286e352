-- What a call of a disk says of crashes, at its end and at each moment within it.
use Rattle.std.specs.Prelude.{◌≡◌, ◌⊎◌, ◌≤◌, ℕ}

-- a crash leaves this and nothing else
abbrev pub Only : {K : Type 0} → K → (K → Type 0) → Type 0
Only {K} k outcomes = (c : K) → outcomes c → c ≡ k

-- each outcome of a crash now was one before, or is such a one after a step
abbrev pub Follows : {K D : Type 0} → (K → K → Type 0) → (D → K → Type 0) → D → D → Type 0
Follows {K} step may_leave old new = (c : K) → may_leave new c → (d : K) × may_leave old d × step d c

-- a crash now leaves only what one before could have left
abbrev pub NoMore : {K D : Type 0} → (D → K → Type 0) → D → D → Type 0
NoMore {K} may_leave old new = (c : K) → may_leave new c → may_leave old c

-- Time goes on: a crash since t might have left what it might have left before, or what it may leave now.
pub record Elapses {K D : Type 0} (moment : D → ℕ) (may_leave : D → K → Type 0) (left_since : D → ℕ → K → Type 0) (old new : D) : Type 0 where
  pub later : moment old ≤ moment new
  pub nothing_else : (t : ℕ) (c : K) → t ≤ moment old → left_since new t c → left_since old t c ⊎ may_leave new c
  pub keeps : (t : ℕ) (c : K) → t ≤ moment old → left_since old t c → left_since new t c

-- A crash at any moment since old leaves what has P.
pub record LeavesOnly {K D : Type 0} (moment : D → ℕ) (left_since : D → ℕ → K → Type 0) (old new : D) (P : K → Type 0) : Type 0 where
  pub later : moment old ≤ moment new
  pub each : (c : K) → left_since new (moment old) c → P c
  -- for a run that began earlier
  pub before : (t : ℕ) (c : K) → t ≤ moment old → left_since new t c → left_since old t c ⊎ P c
