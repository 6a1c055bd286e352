-- Bytes stand for one list of blocks.
use Rattle.std.proofs.Common.{◌≡◌, ◌≢◌, ⊎_elim, ℕ, ◌+◌, ◌<◌, ◌^◌, List, [], ◌∷◌, ◌++◌, length, take, drop, refl, sym, ◌∙◌, ap, arith, append_assoc}
use Rattle.std.specs.Int.{w16, w32, w64, to_be_bytes, from_be_bytes}
use Rattle.std.proofs.lemmas.Nat.{from_be_bytes-to_be_bytes_2, from_be_bytes-to_be_bytes_4, from_be_bytes-to_be_bytes_8}
use Rattle.std.proofs.lemmas.List.{take_at, drop_at}
use Rattle.std.proofs.lemmas.Bool.{cases_lt}
use Rattle.media.specs.Kept.{Kept}
use Rattle.log_blocks.specs.Log.{Block, IsLawfulBlock, IsRun, StandsFor, blocks, body, header, open_gate}
use Rattle.log_blocks.proofs.FirstGate.{short_is, long_behind}

-- two lists that begin with parts of one length
parts : (n : ℕ) (xs ys us vs : List ℕ) → length xs ≡ n → length us ≡ n → xs ++ ys ≡ us ++ vs → (xs ≡ us) × (ys ≡ vs)
parts n xs ys us vs a b same =
    (sym (take_at xs ys n a) ∙ ap (λ (l : List ℕ). take n l) same ∙ take_at us vs n b, sym (drop_at xs ys n a) ∙ ap (λ (l : List ℕ). drop n l) same ∙ drop_at us vs n b)

same_field : (f c n l f2 c2 n2 l2 : ℕ) (r q : List ℕ) → f < 2 ^ 64 → f2 < 2 ^ 64 → c < 2 ^ 64 → c2 < 2 ^ 64 → n < 2 ^ 16 → n2 < 2 ^ 16 → l < 2 ^ 32 → l2 < 2 ^ 32
    → (((to_be_bytes w64 f ++ to_be_bytes w64 c) ++ to_be_bytes w16 n) ++ to_be_bytes w32 l) ++ r ≡ (((to_be_bytes w64 f2 ++ to_be_bytes w64 c2) ++ to_be_bytes w16 n2) ++ to_be_bytes w32 l2) ++ q
    → (f ≡ f2) × (c ≡ c2) × (n ≡ n2) × (l ≡ l2) × (r ≡ q)
same_field f c n l f2 c2 n2 l2 r q a1 a2 b1 b2 d1 d2 e1 e2 same =
    let whole = parts 22 (((to_be_bytes w64 f ++ to_be_bytes w64 c) ++ to_be_bytes w16 n) ++ to_be_bytes w32 l) r (((to_be_bytes w64 f2 ++ to_be_bytes w64 c2) ++ to_be_bytes w16 n2) ++ to_be_bytes w32 l2) q refl refl same in
    let p3 = parts 18 ((to_be_bytes w64 f ++ to_be_bytes w64 c) ++ to_be_bytes w16 n) (to_be_bytes w32 l) ((to_be_bytes w64 f2 ++ to_be_bytes w64 c2) ++ to_be_bytes w16 n2) (to_be_bytes w32 l2) refl refl whole.0 in
    let p2 = parts 16 (to_be_bytes w64 f ++ to_be_bytes w64 c) (to_be_bytes w16 n) (to_be_bytes w64 f2 ++ to_be_bytes w64 c2) (to_be_bytes w16 n2) refl refl p3.0 in
    let p1 = parts 8 (to_be_bytes w64 f) (to_be_bytes w64 c) (to_be_bytes w64 f2) (to_be_bytes w64 c2) refl refl p2.0 in (
      sym (from_be_bytes-to_be_bytes_8 f a1) ∙ ap (from_be_bytes w64) p1.0 ∙ from_be_bytes-to_be_bytes_8 f2 a2,
      sym (from_be_bytes-to_be_bytes_8 c b1) ∙ ap (from_be_bytes w64) p1.1 ∙ from_be_bytes-to_be_bytes_8 c2 b2,
      sym (from_be_bytes-to_be_bytes_2 n d1) ∙ ap (from_be_bytes w16) p2.1 ∙ from_be_bytes-to_be_bytes_2 n2 d2,
      sym (from_be_bytes-to_be_bytes_4 l e1) ∙ ap (from_be_bytes w32) p3.1 ∙ from_be_bytes-to_be_bytes_4 l2 e2,
      whole.1,
    )

pub same_block : (b c : Block) (r q : List ℕ) → IsLawfulBlock b → IsLawfulBlock c → body b ++ r ≡ body c ++ q → (b ≡ c) × (r ≡ q)
unfolding body header
same_block b c r q lb lc same =
    let s = same_field b.first b.checkpoint b.count (length b.payload) c.first c.checkpoint c.count (length c.payload) (b.payload ++ r) (c.payload ++ q)
    (omega (arith, lb.last)) (omega (arith, lc.last)) (omega (arith, lb.checkpoint, lb.last)) (omega (arith, lc.checkpoint, lc.last)) lb.count.1 lc.count.1 (omega (arith, lb.payload.1)) (omega (arith, lc.payload.1))
    (sym (append_assoc (header b) b.payload r) ∙ same ∙ append_assoc (header c) c.payload q) in
    let p = parts (length c.payload) b.payload r c.payload q s.3 refl s.4 in
    ((λ i. record { first = s.0 i; checkpoint = s.1 i; count = s.2 i; payload = p.0 i }), p.1)

unique : (n m : ℕ) (bs cs : List Block) (g h : ℕ) (r q : List ℕ) → IsRun n bs → IsRun m cs → g ≢ open_gate → h ≢ open_gate → blocks bs ++ g ∷ r ≡ blocks cs ++ h ∷ q → bs ≡ cs
unique n m [] [] g h r q rb rc gs hs same = refl
unique n m [] (c ∷ cs) g h r q rb rc gs hs same = absurd (gs (cc same))
unique n m (b ∷ bs) [] g h r q rb rc gs hs same = absurd (hs (cc (sym same)))
unique n m (b ∷ bs) (c ∷ cs) g h r q rb rc gs hs same =
    let inner : body b ++ (blocks bs ++ g ∷ r) ≡ body c ++ (blocks cs ++ h ∷ q) =
    sym (append_assoc (body b) (blocks bs) (g ∷ r)) ∙ ap (λ (l : List ℕ). drop 1 l) same ∙ append_assoc (body c) (blocks cs) (h ∷ q) in
    let s = same_block b c (blocks bs ++ g ∷ r) (blocks cs ++ h ∷ q) rb.1 rc.1 inner in
    let rest = unique (n + b.count) (m + c.count) bs cs g h r q rb.2 rc.2 gs hs s.1 in
    (λ i. s.0 i ∷ rest i)

pub one_log : (bs cs : List Block) (k : Kept) → StandsFor bs k → StandsFor cs k → bs ≡ cs
one_log bs cs k s t = ⊎_elim
    (λ long. let a = long_behind k.start bs k refl long s in let b = long_behind k.start cs k refl long t in
    unique _ _ bs cs a.gate b.gate a.rest b.rest s.sequence.run t.sequence.run a.closed b.closed (sym a.bytes ∙ b.bytes))
    (λ short. short_is bs k s short ∙ sym (short_is cs k t short))
    (cases_lt 1 (length k.bytes))
