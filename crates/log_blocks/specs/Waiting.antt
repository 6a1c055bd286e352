-- Blocks in nodes of their own.
use Rattle.std.specs.Prelude.{◌≡◌, List, [], ◌∷◌, length, flat_map}
use Rattle.log_blocks.specs.Log.{Block}

-- the blocks of these nodes, in order
abbrev pub all_in : List (List Block) → List Block
all_in nodes = flat_map (λ n. n) nodes

-- each of the nodes has one block
abbrev pub AreNodes : List (List Block) → Type 0
AreNodes [] = Unit {0}
AreNodes (n ∷ ns) = (length n ≡ 1) × AreNodes ns
