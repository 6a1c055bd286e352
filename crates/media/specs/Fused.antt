-- A fuse round a device.
use Rattle.std.specs.Prelude.{◌+◌, ◌-◌, ◌^◌, ℕ, max, min, Option, None, Some}

-- the device, how many calls still pass where it is armed, and how many it has refused
pub record Fused (D : Type 0) : Type 0 where
  pub inner : D
  pub left : Option ℕ
  pub refused : ℕ

-- one call less passes
abbrev pub burnt : Option ℕ → Option ℕ
burnt None = None
burnt (Some n) = Some (n - 1)

-- one more was refused, but for a count at its end
abbrev pub one_more : ℕ → ℕ
one_more refused = max refused (min (refused + 1) (2 ^ 64 - 1))
