-- A block's bytes give the block back.
use Rattle.std.proofs.Common.{set, ◌≡◌, ℕ, ◌+◌, ◌-◌, ◌≤◌, List, [], ◌∷◌, ◌++◌, length, take, drop, refl, sym, ◌∙◌, ap, arith, append_assoc, length-append, length-take, length-drop}
use Rattle.std.specs.Int.{w16, w32, w64, to_be_bytes}
use Rattle.std.proofs.lemmas.List.{take_at, drop_at, drop-drop}
use Rattle.log_blocks.specs.Log.{Block, block_of, body, header, laid}

pub payload_of : (b : Block) → take (length (laid b) - 23) (drop 22 (laid b)) ≡ b.payload
unfolding body header
payload_of b =
    let tail : drop 22 (laid b) ≡ b.payload ++ 0 ∷ [] = ap (λ (l : List ℕ). drop 22 l) (append_assoc (header b) b.payload (0 ∷ [])) ∙ drop_at (header b) (b.payload ++ 0 ∷ []) 22 refl in
    let size : length (laid b) - 23 ≡ length b.payload = omega (arith, length-append (header b ++ b.payload) (0 ∷ []), length-append (header b) b.payload) in
    ap (λ (l : List ℕ). take (length (laid b) - 23) l) tail ∙ ap (λ (n : ℕ). take n (b.payload ++ 0 ∷ [])) size ∙ take_at b.payload (0 ∷ []) (length b.payload) refl

pub block_is : (b : Block) (bytes : List ℕ) → bytes ≡ laid b → block_of b.first b.checkpoint b.count bytes ≡ b
block_is b bytes is =
    ap (block_of b.first b.checkpoint b.count) is ∙ (λ i. record { first = b.first; checkpoint = b.checkpoint; count = b.count; payload = payload_of b i })

pub laid_is : (b : Block) (bytes : List ℕ) → bytes ≡ laid b → bytes ≡ laid (block_of b.first b.checkpoint b.count bytes)
laid_is b bytes is = is ∙ ap laid (sym (block_is b bytes is))

-- the same block with another first LSN
pub relaid : (b : Block) (first : ℕ) → to_be_bytes w64 first ++ drop 8 (laid b) ≡ laid (record b { first = first })
unfolding body header
relaid b first =
    let rest = ((to_be_bytes w64 b.checkpoint ++ to_be_bytes w16 b.count) ++ to_be_bytes w32 (length b.payload)) ++ b.payload ++ 0 ∷ [] in
    let split : (n : ℕ) → laid (record b { first = n }) ≡ to_be_bytes w64 n ++ rest = λ n.
    simp append_assoc in
    ap (λ (l : List ℕ). to_be_bytes w64 first ++ l) (ap (λ (l : List ℕ). drop 8 l) (split b.first) ∙ drop_at (to_be_bytes w64 b.first) rest 8 refl) ∙ sym (split first)

pub long_enough : (b : Block) → 23 ≤ length (laid b)
unfolding body header
long_enough b = omega (arith, length-append (header b ++ b.payload) (0 ∷ []), length-append (header b) b.payload)

-- Bytes put over those behind a front.
pub put_next : (front with old prev new : List ℕ) (at : ℕ) → length front ≡ at → prev ≡ front ++ drop at old → new ≡ (take at prev ++ with) ++ drop (at + length with) prev
    → new ≡ (front ++ with) ++ drop (at + length with) old
put_next front with old prev new at len is done =
    let first : take at prev ≡ front = ap (take at) is ∙ take_at front (drop at old) at len in
    let rest : drop (at + length with) prev ≡ drop (at + length with) old =
    sym (drop-drop (length with) at prev) ∙ ap (drop (length with)) (ap (drop at) is ∙ drop_at front (drop at old) at len) ∙ drop-drop (length with) at old in
    done ∙ ap (λ (l : List ℕ). (l ++ with) ++ drop (at + length with) prev) first ∙ ap (λ (l : List ℕ). (front ++ with) ++ l) rest

-- four fields put one behind the other in front of the payload
pub headed : (old a b c d one two three four : List ℕ) → length a ≡ 8 → length b ≡ 8 → length c ≡ 2 → length d ≡ 4
    → one ≡ (take 0 old ++ a) ++ drop (0 + length a) old → two ≡ (take 8 one ++ b) ++ drop (8 + length b) one
    → three ≡ (take 16 two ++ c) ++ drop (16 + length c) two → four ≡ (take 18 three ++ d) ++ drop (18 + length d) three
    → four ≡ (((a ++ b) ++ c) ++ d) ++ drop 22 old
headed old a b c d one two three four la lb lc ld e1 e2 e3 e4 =
    let n1 : 0 + length a ≡ 8 = omega (arith, la) in
    let n2 : 8 + length b ≡ 16 = omega (arith, lb) in
    let n3 : 16 + length c ≡ 18 = omega (arith, lc) in
    let n4 : 18 + length d ≡ 22 = omega (arith, ld) in
    let ab : length (a ++ b) ≡ 16 = omega (arith, la, lb, length-append a b) in
    let abc : length ((a ++ b) ++ c) ≡ 18 = omega (arith, ab, lc, length-append (a ++ b) c) in
    let s1 : one ≡ a ++ drop 8 old = e1 ∙ ap (λ (n : ℕ). a ++ drop n old) n1 in
    let s2 : two ≡ (a ++ b) ++ drop 16 old = put_next a b old one two 8 la s1 e2 ∙ ap (λ (n : ℕ). (a ++ b) ++ drop n old) n2 in
    let s3 : three ≡ ((a ++ b) ++ c) ++ drop 18 old = put_next (a ++ b) c old two three 16 ab s2 e3 ∙ ap (λ (n : ℕ). ((a ++ b) ++ c) ++ drop n old) n3 in
    put_next ((a ++ b) ++ c) d old three four 18 abc s3 e4 ∙ ap (λ (n : ℕ). (((a ++ b) ++ c) ++ d) ++ drop n old) n4

-- the header that is put in front of the payload, and the closing byte
pub filled : (b : Block) (old new all : List ℕ) (size : ℕ) → b.first ≡ 0 → b.payload ≡ drop 22 old → size ≡ length b.payload
    → new ≡ (((to_be_bytes w64 0 ++ to_be_bytes w64 b.checkpoint) ++ to_be_bytes w16 b.count) ++ to_be_bytes w32 size) ++ drop 22 old
    → all ≡ new ++ 0 ∷ [] → all ≡ laid b
unfolding body header
filled b old new all size zero payload is done closed =
    closed ∙ ap (λ (l : List ℕ). l ++ 0 ∷ []) (done
    ∙ ap (λ (n : ℕ). (((to_be_bytes w64 0 ++ to_be_bytes w64 b.checkpoint) ++ to_be_bytes w16 b.count) ++ to_be_bytes w32 n) ++ drop 22 old) is
    ∙ ap (λ (n : ℕ). (((to_be_bytes w64 n ++ to_be_bytes w64 b.checkpoint) ++ to_be_bytes w16 b.count) ++ to_be_bytes w32 (length b.payload)) ++ drop 22 old) (sym zero)
    ∙ ap (λ (l : List ℕ). header b ++ l) (sym payload))

-- the length of the payload within the bytes of a block
pub length-payload : (bytes : List ℕ) → 23 ≤ length bytes → length (take (length bytes - 23) (drop 22 bytes)) ≡ length bytes - 23
length-payload bytes long = omega (arith, long, length-take (length bytes - 23) (drop 22 bytes), length-drop 22 bytes)

pub refirst : (b : Block) (first : ℕ) (old with new : List ℕ) → old ≡ laid b → with ≡ to_be_bytes w64 first → new ≡ (take 0 old ++ with) ++ drop (0 + length with) old → new ≡ laid (record b { first = first })
refirst b first old with new is w done =
    let zero : 0 + length with ≡ length with = omega arith in
    done ∙ ap (λ (n : ℕ). with ++ drop n old) zero ∙ ap (λ (l : List ℕ). l ++ drop (length l) old) w ∙ ap (λ (l : List ℕ). to_be_bytes w64 first ++ drop 8 l) is ∙ relaid b first

-- the one item of a list, replaced
pub set_one : {X : Type 0} (xs : List X) (x : X) → length xs ≡ 1 → set xs 0 x ≡ x ∷ []
set_one [] x one = absurd (omega (arith, one))
set_one (y ∷ []) x one = refl
set_one (y ∷ z ∷ ys) x one = absurd (omega (arith, one))
