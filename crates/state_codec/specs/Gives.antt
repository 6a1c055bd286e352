-- What the readers of fields return, in the words of wal_record's first-fault reading.
use Rattle.std.specs.Prelude.{◌≡◌, ℕ, ◌<◌, ◌≤◌, List, length, take, drop, Option, Some, None, Result, Ok, Err}
use Rattle.std.specs.Borrow.{Bor}
use Rattle.std.specs.Int.{Width, byte_len, from_be_bytes}
use Rattle.state_codec.specs.declared.fault.FieldFault.{FieldFault}
use Rattle.state_codec.specs.declared.fault.FieldFault.TheVariants.{Memory, Bad}

-- the fault is that of the reading, unless memory ran out
abbrev pub Fails : {Y : Type 0} → FieldFault → Result Y ℕ → Type 0
Fails Memory read = Unit {0}
Fails (Bad left) read = read ≡ Err left

-- what a reader returned, seen by view, is what the reading gives, unless memory ran out
abbrev pub Gives : {X Y : Type 0} → (X → Y) → Result X FieldFault → Result Y ℕ → Type 0
Gives view (Ok x) read = read ≡ Ok (view x)
Gives view (Err e) read = Fails e read

-- a number of this width stands in front, or the bytes are too few
abbrev pub TakesFront : Option (ℕ × Bor (List ℕ)) → Width → List ℕ → Type 0
TakesFront None w bytes = length bytes < byte_len w
TakesFront (Some x) w bytes = (byte_len w ≤ length bytes) × (x.0 ≡ from_be_bytes w (take (byte_len w) bytes)) × (x.1.now ≡ drop (byte_len w) bytes)
