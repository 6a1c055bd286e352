-- Writes that are replayed.
use Rattle.std.proofs.Common.{◌≡◌, ℕ, ◌+◌, ◌-◌, ◌<◌, ◌≤◌, List, [], ◌∷◌, ◌++◌, length, take, drop, max, refl, sym, ◌∙◌, ap, subst, arith, length-append, length-take, length-drop}
use Rattle.std.specs.Prelude.{map}
use Rattle.media.specs.Kept.{Kept, written}
use Rattle.media_mem.specs.History.{Wrote, IsKept, AreWithin, grown, piece_of, replay}
use Rattle.media_mem.specs.Reach.{Piece, Reach}
use Rattle.media_mem.proofs.Reaching.{torn_written}

pub length-written : (k : Kept) (at : ℕ) (bytes : List ℕ) → at - k.start ≤ length k.bytes → length (written k at bytes).bytes ≡ max (length k.bytes) (at - k.start + length bytes)
length-written k at bytes le =
    let off = at - k.start in
    omega (arith, le, length-append (take off k.bytes ++ bytes) (drop (off + length bytes) k.bytes), length-append (take off k.bytes) bytes, length-take off k.bytes, length-drop (off + length bytes) k.bytes)

pub replay-start : (ws : List Wrote) (k : Kept) → (replay ws k).start ≡ k.start
replay-start [] k = refl
replay-start (w ∷ ws) k = replay-start ws (written k w.at w.bytes)

pub replay-push : (ws : List Wrote) (w : Wrote) (k : Kept) → replay (ws ++ w ∷ []) k ≡ written (replay ws k) w.at w.bytes
replay-push [] w k = refl
replay-push (v ∷ ws) w k = replay-push ws w (written k v.at v.bytes)

pub length-replay : (ws : List Wrote) (k : Kept) → AreWithin k.start (length k.bytes) ws → length (replay ws k).bytes ≡ grown k.start (length k.bytes) ws
length-replay [] k within = refl
length-replay (w ∷ ws) k within =
    let size = length-written k w.at w.bytes within.1 in
    length-replay ws (written k w.at w.bytes) (subst (λ n. AreWithin k.start n ws) (sym size) within.2) ∙ ap (λ n. grown k.start n ws) size

pub replay_reached : (ws : List Wrote) (k : Kept) → AreWithin k.start (length k.bytes) ws → Reach (map piece_of ws) k (replay ws k)
replay_reached [] k within = refl
replay_reached (w ∷ ws) k within =
    let c = written k w.at w.bytes in
    (c, torn_written k w.at w.bytes within.1, replay_reached ws c (subst (λ n. AreWithin k.start n ws) (sym (length-written k w.at w.bytes within.1)) within.2))

pub within-push : (start len : ℕ) (ws : List Wrote) (w : Wrote) → AreWithin start len ws → start ≤ w.at → w.at - start ≤ grown start len ws → AreWithin start len (ws ++ w ∷ [])
within-push start len [] w all from le = (from, le, tt)
within-push start len (v ∷ ws) w all from le = (all.0, all.1, within-push start (max len (v.at - start + length v.bytes)) ws w all.2 from le)

pub grown-push : (start len : ℕ) (ws : List Wrote) (w : Wrote) → grown start len (ws ++ w ∷ []) ≡ max (grown start len ws) (w.at - start + length w.bytes)
grown-push start len [] w = refl
grown-push start len (v ∷ ws) w = grown-push start (max len (v.at - start + length v.bytes)) ws w

pub grown_above : (start len : ℕ) (ws : List Wrote) → len ≤ grown start len ws
grown_above start len [] = omega arith
grown_above start len (w ∷ ws) = let rest = grown_above start (max len (w.at - start + length w.bytes)) ws in omega (arith, rest)

abbrev first_or : Piece → List Piece → Piece
first_or p [] = p
first_or p (q ∷ qs) = q

-- the shape of the writes alone decides how many bytes there are
pub grown-shape : (start len : ℕ) (ws vs : List Wrote) → map piece_of ws ≡ map piece_of vs → grown start len ws ≡ grown start len vs
grown-shape start len [] [] same = refl
grown-shape start len [] (v ∷ vs) same = absurd (omega (arith, ap length same))
grown-shape start len (w ∷ ws) [] same = absurd (omega (arith, ap length same))
grown-shape start len (w ∷ ws) (v ∷ vs) same =
    let first : piece_of w ≡ piece_of v = ap (first_or (piece_of w)) same in
    ap (λ (p : Piece). grown start (max len (p.at - start + p.size)) ws) first ∙ grown-shape start (max len (v.at - start + length v.bytes)) ws vs (ap (drop 1) same)

pub within-shape : (start len : ℕ) (ws vs : List Wrote) → map piece_of ws ≡ map piece_of vs → AreWithin start len ws → AreWithin start len vs
within-shape start len [] [] same within = tt
within-shape start len [] (v ∷ vs) same within = absurd (omega (arith, ap length same))
within-shape start len (w ∷ ws) [] same within = absurd (omega (arith, ap length same))
within-shape start len (w ∷ ws) (v ∷ vs) same within =
    let first : piece_of w ≡ piece_of v = ap (first_or (piece_of w)) same in (
      subst (λ (p : Piece). start ≤ p.at) first within.0,
      subst (λ (p : Piece). p.at - start ≤ len) first within.1,
      subst (λ (p : Piece). AreWithin start (max len (p.at - start + p.size)) vs) first (within-shape start (max len (w.at - start + length w.bytes)) ws vs (ap (drop 1) same) within.2),
    )

-- one write more
pub kept_more : (start : ℕ) (base now now2 bytes : List ℕ) (writes : List Wrote) (at : ℕ) → IsKept start base now writes → start ≤ at → at - start ≤ length now
    → now2 ≡ take (at - start) now ++ bytes ++ drop (at - start + length bytes) now → start + length now2 < 9223372036854775808
    → IsKept start base now2 (writes ++ (record { at = at; bytes = bytes }) ∷ [])
kept_more start base now now2 bytes writes at k from le done fits =
    let b : Kept = record { start = start; bytes = base } in
    let w : Wrote = record { at = at; bytes = bytes } in
    let size : length now ≡ grown start (length base) writes = ap (λ (x : Kept). length x.bytes) k.now_is ∙ length-replay writes b k.within in
    record {
      now_is = (λ i. record { start = start; bytes = done i }) ∙ ap (λ (x : Kept). written x at bytes) k.now_is ∙ sym (replay-push writes w b);
      within = within-push start (length base) writes w k.within from (omega (arith, le, size));
      size = fits;
    }
