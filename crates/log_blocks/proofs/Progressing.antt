-- The first of the blocks that are left to write.
use Rattle.std.proofs.Common.{Bool, true, false, eqb, eqb-true, ◌≢◌, ◌≡◌, ℕ, zero, suc, ◌+◌, ◌<◌, List, [], ◌∷◌, ◌++◌, length, take, drop, get_or, refl, sym, ◌∙◌, ap, arith, append_assoc, length-append, length-drop}
use Rattle.std.proofs.lemmas.Bool.{eqb-false}
use Rattle.std.proofs.lemmas.List.{take_more, get_or-drop, drop-drop}
use Rattle.log_blocks.specs.Batch.{AreSized, begun}
use Rattle.log_blocks.specs.declared.header.Place.{Place}
use Rattle.log_blocks.specs.Log.{Block, body, blocks, open_gate}
use Rattle.log_blocks.specs.Opening.{places, place_of}

pub same_default : (xs : List Block) (i : ℕ) (d e : Block) → i < length xs → get_or xs i d ≡ get_or xs i e
same_default [] i d e lt = absurd (omega (arith, lt))
same_default (x ∷ xs) zero d e lt = refl
same_default (x ∷ xs) (suc i) d e lt = same_default xs i d e (omega (arith, lt))

abbrev pub first : List Block → ℕ → Block
first pending i = get_or pending i (begun 0 0 [])

pub first_is : (pending : List Block) (i : ℕ) → i < length pending → first pending i ≡ get_or pending i (first pending i)
first_is pending i lt = same_default pending i (begun 0 0 []) (first pending i) lt

pub first_left : (pending left : List Block) (i : ℕ) → left ≡ drop i pending → i < length pending → first pending i ≡ get_or left 0 (first pending i)
first_left pending left i is lt =
    let zero_more : i + 0 ≡ i = omega arith in
    first_is pending i lt ∙ ap (λ n. get_or pending n (first pending i)) (sym zero_more) ∙ sym (ap (λ (l : List Block). get_or l 0 (first pending i)) is ∙ get_or-drop i pending 0 (first pending i))

pub is_left : (pending left : List Block) (i : ℕ) → left ≡ drop i pending → 0 < length left → i < length pending
is_left pending left i is some = omega (arith, ap length is, length-drop i pending, some)

pub left_more : (pending left left2 : List Block) (i : ℕ) → left ≡ drop i pending → left2 ≡ drop 1 left → left2 ≡ drop (i + 1) pending
left_more pending left left2 i is next = next ∙ ap (λ (l : List Block). drop 1 l) is ∙ drop-drop 1 i pending

pub places-push : (at : ℕ) (bs : List Block) (b : Block) → places at (bs ++ b ∷ []) ≡ places at bs ++ place_of (at + length (blocks bs)) b ∷ []
places-push at [] b = ap (λ n. place_of n b ∷ []) (plus_none at)
  where
    plus_none : (n : ℕ) → n ≡ n + 0
    plus_none n = omega arith
places-push at (x ∷ xs) b =
    let step : at + length (open_gate ∷ body x) + length (blocks xs) ≡ at + length (blocks (x ∷ xs)) = omega (arith, length-append (open_gate ∷ body x) (blocks xs)) in
    ap (λ (l : List Place). place_of at x ∷ l) (places-push (at + length (open_gate ∷ body x)) xs b
    ∙ ap (λ n. places (at + length (open_gate ∷ body x)) xs ++ place_of n b ∷ []) step)

pub places_more : (gate0 gate : ℕ) (done0 done done2 : List Place) (pending : List Block) (i : ℕ) (b : Block) → done ≡ done0 ++ places gate0 (take i pending)
    → gate ≡ gate0 + length (blocks (take i pending)) → done2 ≡ done ++ place_of gate b ∷ [] → i < length pending → b ≡ get_or pending i b
    → done2 ≡ done0 ++ places gate0 (take (i + 1) pending)
places_more gate0 gate done0 done done2 pending i b is at next lt here =
    next ∙ ap (λ (l : List Place). l ++ place_of gate b ∷ []) is ∙ append_assoc done0 (places gate0 (take i pending)) (place_of gate b ∷ [])
    ∙ ap (λ n. done0 ++ (places gate0 (take i pending) ++ place_of n b ∷ [])) at
    ∙ ap (λ (l : List Place). done0 ++ l) (sym (places-push gate0 (take i pending) b))
    ∙ ap (λ (l : List Block). done0 ++ places gate0 l) (ap (λ (x : Block). take i pending ++ x ∷ []) here ∙ sym (take_more pending i b lt))

pub sized_drop : (i : ℕ) (bs : List Block) → AreSized bs → AreSized (drop i bs)
sized_drop zero bs s = s
sized_drop (suc i) [] s = tt
sized_drop (suc i) (b ∷ bs) s = sized_drop i bs s.1

pub length-places : (at : ℕ) (bs : List Block) → length (places at bs) ≡ length bs
length-places at [] = refl
length-places at (b ∷ bs) = ap suc (length-places (at + length (open_gate ∷ body b)) bs)

-- what a test for an empty list tells
pub not_empty : (left : List Block) (empty : Bool) → empty ≡ eqb (length left) 0 → empty ≡ false → 0 < length left
not_empty left empty is some =
    let ne : length left ≢ 0 = eqb-false (length left) 0 (sym is ∙ some) in
    omega (arith, ne)

pub empty_is : (left : List Block) (empty : Bool) → empty ≡ eqb (length left) 0 → empty ≡ true → length left ≡ 0
empty_is left empty is none = eqb-true (length left) 0 (sym is ∙ none)
