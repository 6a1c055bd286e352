-- How much blocks hold.
use Rattle.std.specs.Prelude.{ℕ, ◌+◌, List, [], ◌∷◌, length}
use Rattle.log_blocks.specs.Log.{Block}

-- the bytes of their payloads
abbrev pub payload_bytes : List Block → ℕ
payload_bytes [] = 0
payload_bytes (b ∷ bs) = length b.payload + payload_bytes bs
