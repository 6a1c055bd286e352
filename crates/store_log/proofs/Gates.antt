-- Open gates.
use Rattle.std.proofs.Common.{◌≡◌, ℕ, List, [], ◌∷◌, ◌++◌, ap, arith, ⊎_elim, length, length-append}
use Rattle.media.specs.Kept.{Kept}
use Rattle.log_blocks.specs.Log.{Block, StandsFor, open_gate, body, blocks}
use Rattle.log_blocks.specs.Opening.{IsBadAt}
use Rattle.life_commands.specs.Bytes.{IsFormatted}

-- the laws on blocks that are used: the kept bytes stand for one list of blocks at most, and where they stand for one, no
-- block is bad
abbrev pub OneLog : Type 0
OneLog = (bs cs : List Block) (k : Kept) → StandsFor bs k → StandsFor cs k → bs ≡ cs

abbrev pub NeverBad : Type 0
NeverBad = (bs : List Block) (block byte : ℕ) (k : Kept) → StandsFor bs k → IsBadAt block byte k → ⊥

pub bad_formatted : (block byte : ℕ) (k : Kept) → IsBadAt block byte k → IsFormatted k
bad_formatted block byte k b = by b.before b.bytes
  where
    by : (before : List Block) → k.bytes ≡ blocks before ++ open_gate ∷ b.rest → IsFormatted k
    by [] e = record { long = b.long; rest = b.rest; gate = e }
    by (x ∷ xs) e = record { long = b.long; rest = (body x ++ blocks xs) ++ open_gate ∷ b.rest; gate = e }

pub log_formatted : (b : Block) (bs : List Block) (k : Kept) → StandsFor (b ∷ bs) k → IsFormatted k
log_formatted b bs k s = ⊎_elim
    (λ short. absurd (let e : b ∷ bs ≡ [] = short.1 in cc))
    (λ h. record {
      long = omega (arith, ap length h.bytes, length-append (blocks (b ∷ bs)) (h.gate ∷ h.rest));
      rest = (body b ++ blocks bs) ++ h.gate ∷ h.rest;
      gate = h.bytes;
    })
    s.bytes
