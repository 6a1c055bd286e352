-- Lists of blocks and their bytes.
use Rattle.std.proofs.Common.{◌≡◌, ℕ, ◌+◌, ◌<◌, ◌≤◌, List, [], ◌∷◌, ◌++◌, length, get_or, take, drop, refl, sym, ◌∙◌, ap, subst, inr, arith, append_assoc, length-append, take-append-drop}
use Rattle.std.proofs.lemmas.List.{take_more}
use Rattle.media.specs.Kept.{Kept}
use Rattle.log_blocks.specs.Log.{Block, body, blocks, laid, IsRun, IsSequence, Behind, StandsFor, StandsForMore, StandsForSome, open_gate}

pub blocks-append : (xs ys : List Block) → blocks (xs ++ ys) ≡ blocks xs ++ blocks ys
blocks-append [] ys = refl
blocks-append (x ∷ xs) ys = ap (λ (l : List ℕ). (open_gate ∷ body x) ++ l) (blocks-append xs ys) ∙ sym (append_assoc (open_gate ∷ body x) (blocks xs) (blocks ys))

pub blocks-one : (b : Block) → blocks (b ∷ []) ≡ open_gate ∷ body b
blocks-one b = append-nil' (open_gate ∷ body b)
  where
    append-nil' : (l : List ℕ) → l ++ [] ≡ l
    append-nil' [] = refl
    append-nil' (x ∷ l) = ap (λ (m : List ℕ). x ∷ m) (append-nil' l)

pub blocks-push : (bs : List Block) (b : Block) → blocks (bs ++ b ∷ []) ≡ blocks bs ++ open_gate ∷ body b
blocks-push bs b = blocks-append bs (b ∷ []) ∙ ap (λ (l : List ℕ). blocks bs ++ l) (blocks-one b)

-- the block at place i joins those before it
pub blocks-next : (bs pending : List Block) (i : ℕ) (b : Block) → i < length pending → b ≡ get_or pending i b
    → blocks (bs ++ take (i + 1) pending) ≡ blocks (bs ++ take i pending) ++ open_gate ∷ body b
blocks-next bs pending i b lt is =
    ap (λ (l : List Block). blocks (bs ++ l)) (take_more pending i b lt ∙ ap (λ (x : Block). take i pending ++ x ∷ []) (sym is))
    ∙ ap blocks (sym (append_assoc bs (take i pending) (b ∷ [])))
    ∙ blocks-push (bs ++ take i pending) b

pub length-next : (pending : List Block) (i : ℕ) (b : Block) → i < length pending → b ≡ get_or pending i b
    → length (blocks (take (i + 1) pending)) ≡ length (blocks (take i pending)) + length (laid b)
length-next pending i b lt is =
    let e = ap length (blocks-next [] pending i b lt is) in
    omega (arith, e, length-append (blocks (take i pending)) (open_gate ∷ body b), length-append (body b) (0 ∷ []))

pub length-part : (pending : List Block) (i : ℕ) → length (blocks (take i pending)) ≤ length (blocks pending)
length-part pending i =
    let e = ap (λ (l : List Block). length (blocks l)) (sym (take-append-drop i pending)) ∙ ap length (blocks-append (take i pending) (drop i pending)) in
    omega (arith, e, length-append (blocks (take i pending)) (blocks (drop i pending)))

pub run_front : (n : ℕ) (xs ys : List Block) → IsRun n (xs ++ ys) → IsRun n xs
run_front n [] ys run = tt
run_front n (x ∷ xs) ys run = (run.0, run.1, run_front (n + x.count) xs ys run.2)

pub sequence_front : (start : ℕ) (xs ys : List Block) → IsSequence start (xs ++ ys) → IsSequence start xs
sequence_front start [] ys s = record { from_one = λ _. refl; run = tt }
sequence_front start (x ∷ xs) ys s = record { from_one = s.from_one; run = run_front x.first (x ∷ xs) ys s.run }

pub sequence_part : (start : ℕ) (bs pending : List Block) (i : ℕ) → IsSequence start (bs ++ pending) → IsSequence start (bs ++ take i pending)
sequence_part start bs pending i s =
    sequence_front start (bs ++ take i pending) (drop i pending)
    (subst (IsSequence start) (ap (λ (l : List Block). bs ++ l) (sym (take-append-drop i pending)) ∙ sym (append_assoc bs (take i pending) (drop i pending))) s)

pub stands : (start : ℕ) (bs : List Block) (c : Kept) → Behind start (blocks bs) c → IsSequence start bs → StandsFor bs c
stands start bs c b s = record {
  sequence = subst (λ n. IsSequence n bs) (sym b.from) s;
  bytes = inr (record { from = refl; gate = b.gate; rest = b.rest; bytes = b.bytes; closed = b.closed });
}

pub stands_for_some : (start : ℕ) (bs pending : List Block) (i : ℕ) (c : Kept) → Behind start (blocks (bs ++ take i pending)) c
    → IsSequence start (bs ++ pending) → i ≤ length pending → StandsForSome bs pending c
stands_for_some start bs pending i c b s le = record { whole = i; within = le; stands = stands start (bs ++ take i pending) c b (sequence_part start bs pending i s) }

pub stands_for_more : (start : ℕ) (bs pending : List Block) (least i : ℕ) (c : Kept) → Behind start (blocks (bs ++ take i pending)) c
    → IsSequence start (bs ++ pending) → least ≤ i → i ≤ length pending → StandsForMore bs pending least c
stands_for_more start bs pending least i c b s from le = record { whole = i; no_fewer = from; within = le; stands = stands start (bs ++ take i pending) c b (sequence_part start bs pending i s) }
