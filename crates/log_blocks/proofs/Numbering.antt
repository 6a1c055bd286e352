-- Blocks get their first LSNs one after the other.
use Rattle.std.proofs.Common.{◌≡◌, ℕ, ◌+◌, ◌<◌, List, [], ◌∷◌, ◌++◌, length, take, drop, get_or, refl, sym, ◌∙◌, ap, arith, append_assoc, length-append}
use Rattle.log_blocks.specs.Batch.{begun, numbered, records_in}
use Rattle.log_blocks.specs.Log.{Block, body, blocks, laid, open_gate}

pub cons_of : (xs : List Block) → 0 < length xs → xs ≡ get_or xs 0 (begun 0 0 []) ∷ drop 1 xs
cons_of [] some = absurd (omega (arith, some))
cons_of (x ∷ xs) some = refl

abbrev pub with_first : ℕ → Block → Block
with_first next b = record { first = next; checkpoint = b.checkpoint; count = b.count; payload = b.payload }

pub step_blocks : (pending more more1 pending2 more2 rest : List Block) (next count : ℕ) (b : Block) → more ≡ b ∷ rest → more1 ≡ with_first next b ∷ rest
    → pending2 ≡ pending ++ take 1 more1 → more2 ≡ drop 1 more1 → count ≡ b.count → pending2 ++ numbered (next + count) more2 ≡ pending ++ numbered next more
step_blocks pending more more1 pending2 more2 rest next count b is one joined left same =
    (λ i. (joined ∙ ap (λ (l : List Block). pending ++ take 1 l) one) i ++ numbered (next + same i) ((left ∙ ap (drop 1) one) i))
    ∙ append_assoc pending (with_first next b ∷ []) (numbered (next + b.count) rest)
    ∙ ap (λ (l : List Block). pending ++ numbered next l) (sym is)

pub step_records : (more more1 more2 rest : List Block) (next count : ℕ) (b : Block) → more ≡ b ∷ rest → more1 ≡ with_first next b ∷ rest → more2 ≡ drop 1 more1 → count ≡ b.count
    → next + count + records_in more2 ≡ next + records_in more
step_records more more1 more2 rest next count b is one left same =
    omega (arith, same, ap records_in is, ap records_in (left ∙ ap (drop 1) one))

pub step_bytes : (more more1 more2 rest : List Block) (next end size : ℕ) (b : Block) → more ≡ b ∷ rest → more1 ≡ with_first next b ∷ rest → more2 ≡ drop 1 more1 → size ≡ length (laid b)
    → end + size + length (blocks more2) ≡ end + length (blocks more)
step_bytes more more1 more2 rest next end size b is one left same =
    omega (arith, same, ap (λ (l : List Block). length (blocks l)) is, ap (λ (l : List Block). length (blocks l)) (left ∙ ap (drop 1) one), length-append (body b) (0 ∷ []), length-append (open_gate ∷ body b) (blocks rest))
