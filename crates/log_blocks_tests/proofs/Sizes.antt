-- How many bytes blocks take on the disk.
use Rattle.std.proofs.Common.{◌≡◌, ◌+◌, ◌*◌, List, [], ◌∷◌, length, refl, arith, length-append}
use Rattle.log_blocks.specs.Log.{Block, blocks, body, header, open_gate}
use Rattle.log_blocks_tests.specs.Sizes.{payload_bytes}

pub blocks_size : (bs : List Block) → length (blocks bs) ≡ 23 * length bs + payload_bytes bs
unfolding body header
blocks_size [] = refl
blocks_size (b ∷ bs) = omega (arith, blocks_size bs, length-append (open_gate ∷ body b) (blocks bs), length-append (header b) b.payload)
