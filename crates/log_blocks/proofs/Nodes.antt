-- Blocks in nodes of their own.
use Rattle.std.proofs.Common.{◌≡◌, ℕ, zero, suc, ◌+◌, ◌<◌, List, [], ◌∷◌, ◌++◌, length, get_or, refl, ◌∙◌, ap, arith, append-nil, length-append}
use Rattle.std.proofs.lemmas.Grind.{flat_map-append}
use Rattle.log_blocks.specs.Log.{Block}
use Rattle.log_blocks.specs.Waiting.{AreNodes, all_in}

pub all_push : (ns : List (List Block)) (n : List Block) → all_in (ns ++ n ∷ []) ≡ all_in ns ++ n
all_push ns n = flat_map-append (λ (m : List Block). m) ns (n ∷ []) ∙ ap (λ (l : List Block). all_in ns ++ l) (append-nil n)

pub nodes_push : (ns : List (List Block)) (n : List Block) → AreNodes ns → length n ≡ 1 → AreNodes (ns ++ n ∷ [])
nodes_push [] n are one = (one, tt)
nodes_push (x ∷ xs) n are one = (are.0, nodes_push xs n are.1 one)

pub length-all : (ns : List (List Block)) → AreNodes ns → length (all_in ns) ≡ length ns
length-all [] are = refl
length-all (n ∷ ns) are = omega (arith, are.0, length-append n (all_in ns), length-all ns are.1)

pub one_at : (ns : List (List Block)) (i : ℕ) → AreNodes ns → i < length ns → length (get_or ns i []) ≡ 1
one_at [] i are lt = absurd (omega (arith, lt))
one_at (n ∷ ns) zero are lt = are.0
one_at (n ∷ ns) (suc i) are lt = one_at ns i are.1 (omega (arith, lt))

-- the block at a place is that of its node
pub node_at : (ns : List (List Block)) (i : ℕ) (d : Block) → AreNodes ns → i < length ns → get_or (all_in ns) i d ≡ get_or (get_or ns i []) 0 d
node_at [] i d are lt = absurd (omega (arith, lt))
node_at ([] ∷ ns) i d are lt = absurd (omega (arith, are.0))
node_at ((b ∷ c ∷ bs) ∷ ns) i d are lt = absurd (omega (arith, are.0))
node_at ((b ∷ []) ∷ ns) zero d are lt = refl
node_at ((b ∷ []) ∷ ns) (suc i) d are lt = node_at ns i d are.1 (omega (arith, lt))
