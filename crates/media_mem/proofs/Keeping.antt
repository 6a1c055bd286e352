-- What a disk in memory keeps, call by call.
use Rattle.std.proofs.Common.{◌≡◌, ℕ, zero, suc, ◌+◌, ◌-◌, ◌<◌, ◌≤◌, List, [], ◌∷◌, ◌++◌, length, drop, get_or, set, max, refl, sym, ◌∙◌, ap, subst, arith}
use Rattle.std.specs.Prelude.{map}
use Rattle.media.specs.Kept.{Kept}
use Rattle.media_mem.specs.History.{Wrote, IsKept, AreWithin, grown, piece_of, replay}
use Rattle.media_mem.specs.Reach.{Piece, Reach}
use Rattle.media_mem.proofs.Again.{within_again, grown_again, replay_again}
use Rattle.media_mem.proofs.Replaying.{grown_above, length-replay, replay_reached, within-shape}

pub drop_cons : (ws : List Wrote) (i : ℕ) (w : Wrote) → i < length ws → w ≡ get_or ws i w → drop i ws ≡ w ∷ drop (i + 1) ws
drop_cons [] i w lt is = absurd (omega (arith, lt))
drop_cons (v ∷ ws) zero w lt is = ap (λ (x : Wrote). x ∷ ws) (sym is)
drop_cons (v ∷ ws) (suc i) w lt is =
    let one : suc (i + 1) ≡ suc i + 1 = omega arith in
    drop_cons ws i w (omega (arith, lt)) is ∙ ap (λ n. w ∷ drop n (v ∷ ws)) one

-- the next write has room
pub room_next : (start len cap i : ℕ) (ws : List Wrote) (w : Wrote) → i < length ws → w ≡ get_or ws i w → grown start len (drop i ws) ≤ cap → w.at - start + length w.bytes ≤ cap
room_next start len cap i ws w lt is room =
    let here = subst (λ (l : List Wrote). grown start len l ≤ cap) (drop_cons ws i w lt is) room in
    let above = grown_above start (max len (w.at - start + length w.bytes)) (drop (i + 1) ws) in
    omega (arith, here, above)

pub within_next : (start len i : ℕ) (ws : List Wrote) (w : Wrote) → i < length ws → w ≡ get_or ws i w → AreWithin start len (drop i ws) → AreWithin start len (w ∷ drop (i + 1) ws)
within_next start len i ws w lt is within = subst (AreWithin start len) (drop_cons ws i w lt is) within

-- a time has ended, and these bytes are kept
pub kept_settled : (start : ℕ) (now : List ℕ) (writes : List Wrote) → writes ≡ [] → start + length now < 9223372036854775808 → IsKept start now now writes
kept_settled start now writes none fits = record {
  now_is = ap (λ (l : List Wrote). replay l (record { start = start; bytes = now })) (sym none);
  within = subst (AreWithin start (length now)) (sym none) tt;
  size = fits;
}

-- what a read gives is an outcome of a crash
pub now_reached : (start : ℕ) (base now : List ℕ) (writes : List Wrote) → IsKept start base now writes
    → Reach (map piece_of writes) (record { start = start; bytes = base }) (record { start = start; bytes = now })
now_reached start base now writes k =
    subst (Reach (map piece_of writes) (record { start = start; bytes = base })) (sym k.now_is) (replay_reached writes (record { start = start; bytes = base }) k.within)

-- Of the writes some bytes were lost, and they are made again on what they have left.
module _ (start : ℕ) (base now : List ℕ) (writes ws : List Wrote) (k : IsKept start base now writes) (shape : map piece_of ws ≡ map piece_of writes) where
  synced : Kept
  synced = record { start = start; bytes = base }

  pub within_now : AreWithin start (length now) ws
  unfolding synced
  within_now = subst (λ (x : Kept). AreWithin start (length x.bytes) ws) (sym k.now_is) (within_again ws writes synced shape k.within)

  pub grown_now : grown start (length now) ws ≡ length now
  unfolding synced
  grown_now = subst (λ (x : Kept). grown start (length x.bytes) ws ≡ length x.bytes) (sym k.now_is) (grown_again ws writes synced shape k.within)

  again : replay ws (record { start = start; bytes = now }) ≡ replay ws synced
  unfolding synced
  again = ap (replay ws) k.now_is ∙ replay_again ws writes synced shape k.within

  -- what is left then is an outcome of a crash, too
  pub torn_reached : (bytes : List ℕ) → record { start = start; bytes = bytes } ≡ replay ws (record { start = start; bytes = now })
      → Reach (map piece_of writes) (record { start = start; bytes = base }) (record { start = start; bytes = bytes })
  unfolding synced
  torn_reached bytes made =
      subst (λ (l : List Piece). Reach l synced (record { start = start; bytes = bytes })) shape
      (subst (Reach (map piece_of ws) synced) (sym (made ∙ again)) (replay_reached ws synced (within-shape start (length base) writes ws (sym shape) k.within)))

  -- it has as many bytes
  pub length-torn : (bytes : List ℕ) → record { start = start; bytes = bytes } ≡ replay ws (record { start = start; bytes = now }) → length bytes ≡ length now
  length-torn bytes made = ap (λ (x : Kept). length x.bytes) made ∙ length-replay ws (record { start = start; bytes = now }) within_now ∙ grown_now

pub map_none : (ws : List Wrote) → length ws ≡ 0 → map piece_of ws ≡ []
map_none [] none = refl
map_none (w ∷ ws) none = absurd (omega (arith, none))

pub map-push : (ws : List Wrote) (w : Wrote) → map piece_of (ws ++ w ∷ []) ≡ map piece_of ws ++ piece_of w ∷ []
map-push [] w = refl
map-push (v ∷ ws) w = ap (λ (l : List Piece). piece_of v ∷ l) (map-push ws w)

-- a write of the same shape takes the place of one
pub map_set : (ws : List Wrote) (i : ℕ) (w w2 : Wrote) → i < length ws → w ≡ get_or ws i w → piece_of w2 ≡ piece_of w → map piece_of (set ws i w2) ≡ map piece_of ws
map_set [] i w w2 lt is same = absurd (omega (arith, lt))
map_set (v ∷ ws) zero w w2 lt is same = ap (λ (p : Piece). p ∷ map piece_of ws) (same ∙ ap piece_of is)
map_set (v ∷ ws) (suc i) w w2 lt is same = ap (λ (l : List Piece). piece_of v ∷ l) (map_set ws i w w2 (omega (arith, lt)) is same)
