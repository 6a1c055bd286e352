-- Writes that are made again, on what they have left.
use Rattle.std.proofs.Common.{◌≡◌, ◌⊎◌, inl, inr, ℕ, ◌+◌, ◌-◌, ◌<◌, ◌≤◌, Bool, true, false, List, [], ◌∷◌, ◌++◌, length, get_or, take, drop, max, refl, sym, ◌∙◌, ap, subst, arith, length-append, length-take}
use Rattle.std.specs.Prelude.{map, nat_lt}
use Rattle.std.proofs.lemmas.Bool.{ltb-true, ltb-false}
use Rattle.std.proofs.lemmas.List.{get_or-append_right, get_or_append_left, ext_get_or, get_or-drop, get_or-take}
use Rattle.media.specs.Kept.{Kept, written}
use Rattle.media_mem.specs.History.{Wrote, AreWithin, grown, piece_of, replay}
use Rattle.media_mem.specs.Reach.{Piece}
use Rattle.media_mem.proofs.Replaying.{length-replay, length-written, grown-shape, within-shape, grown_above, replay-start}

-- the write covers this place
abbrev In : ℕ → Wrote → ℕ → Type 0
In start w i = (w.at - start ≤ i) × (i < w.at - start + length w.bytes)

abbrev Covered : ℕ → List Wrote → ℕ → Type 0
Covered start [] i = ⊥
Covered start (w ∷ ws) i = In start w i ⊎ Covered start ws i

-- what stands at a place that the write covers
at_inside : (k : Kept) (w : Wrote) (i : ℕ) → w.at - k.start ≤ length k.bytes → In k.start w i → get_or (written k w.at w.bytes).bytes i 0 ≡ get_or w.bytes (i - (w.at - k.start)) 0
at_inside k w i le inside =
    let off = w.at - k.start in
    let front = take off k.bytes in
    let tail = drop (off + length w.bytes) k.bytes in
    let size : length front ≡ off = omega (arith, length-take off k.bytes, le) in
    let low = inside.0 in
    let high = inside.1 in
    get_or_append_left (front ++ w.bytes) tail 0 i (omega (arith, length-append front w.bytes, size, high)) ∙ get_or-append_right front w.bytes off i 0 size low

-- and at another
at_outside : (k : Kept) (w : Wrote) (i : ℕ) → w.at - k.start ≤ length k.bytes → (In k.start w i → ⊥) → get_or (written k w.at w.bytes).bytes i 0 ≡ get_or k.bytes i 0
at_outside k w i le outside = by (nat_lt i off) refl
  where
    off : ℕ
    off = w.at - k.start

    front : List ℕ
    front = take (w.at - k.start) k.bytes

    by : (b : Bool) → nat_lt i (w.at - k.start) ≡ b → get_or ((take (w.at - k.start) k.bytes ++ w.bytes) ++ drop (w.at - k.start + length w.bytes) k.bytes) i 0 ≡ get_or k.bytes i 0
    by true e =
        let lt = ltb-true i (w.at - k.start) e in
        let size : length (take (w.at - k.start) k.bytes) ≡ w.at - k.start = omega (arith, length-take (w.at - k.start) k.bytes, le) in
        get_or_append_left (take (w.at - k.start) k.bytes ++ w.bytes) (drop (w.at - k.start + length w.bytes) k.bytes) 0 i (omega (arith, length-append (take (w.at - k.start) k.bytes) w.bytes, size, lt))
        ∙ get_or_append_left (take (w.at - k.start) k.bytes) w.bytes 0 i (omega (arith, size, lt)) ∙ get_or-take (w.at - k.start) k.bytes i 0 lt
    by false e =
        let ge = ltb-false i (w.at - k.start) e in
        let end = w.at - k.start + length w.bytes in
        let size : length (take (w.at - k.start) k.bytes ++ w.bytes) ≡ end = omega (arith, length-append (take (w.at - k.start) k.bytes) w.bytes, length-take (w.at - k.start) k.bytes, le) in
        let past : end ≤ i = reach (nat_lt i end) refl in
        get_or-append_right (take (w.at - k.start) k.bytes ++ w.bytes) (drop end k.bytes) end i 0 size past
        ∙ get_or-drop end k.bytes (i - end) 0 ∙ ap (λ (n : ℕ). get_or k.bytes n 0) (let n : end + (i - end) ≡ i = omega (arith, past) in n)
      where
        reach : (b : Bool) → nat_lt i (w.at - k.start + length w.bytes) ≡ b → w.at - k.start + length w.bytes ≤ i
        reach true f = absurd (outside (ltb-false i (w.at - k.start) e, ltb-true i (w.at - k.start + length w.bytes) f))
        reach false f = ltb-false i (w.at - k.start + length w.bytes) f

inside_or_not : (start : ℕ) (w : Wrote) (i : ℕ) → In start w i ⊎ (In start w i → ⊥)
inside_or_not start w i = by (nat_lt i (w.at - start)) (nat_lt i (w.at - start + length w.bytes)) refl refl
  where
    by : (a b : Bool) → nat_lt i (w.at - start) ≡ a → nat_lt i (w.at - start + length w.bytes) ≡ b → In start w i ⊎ (In start w i → ⊥)
    by true b e f = let lt = ltb-true i (w.at - start) e in inr (λ h. let low = h.0 in omega (arith, low, lt))
    by false true e f = inl (ltb-false i (w.at - start) e, ltb-true i (w.at - start + length w.bytes) f)
    by false false e f = let ge = ltb-false i (w.at - start + length w.bytes) f in inr (λ h. let high = h.1 in omega (arith, high, ge))

-- a place that no write covers keeps its byte
kept_outside : (ws : List Wrote) (k : Kept) (i : ℕ) → AreWithin k.start (length k.bytes) ws → Covered k.start ws i ⊎ (get_or (replay ws k).bytes i 0 ≡ get_or k.bytes i 0)
kept_outside [] k i within = inr refl
kept_outside (w ∷ ws) k i within = by (inside_or_not k.start w i) (kept_outside ws c i (subst (λ n. AreWithin k.start n ws) (sym (length-written k w.at w.bytes within.1)) within.2))
  where
    c : Kept
    c = written k w.at w.bytes

    by : In k.start w i ⊎ (In k.start w i → ⊥) → Covered k.start ws i ⊎ (get_or (replay ws (written k w.at w.bytes)).bytes i 0 ≡ get_or (written k w.at w.bytes).bytes i 0)
        → Covered k.start (w ∷ ws) i ⊎ (get_or (replay ws (written k w.at w.bytes)).bytes i 0 ≡ get_or k.bytes i 0)
    by (inl here) rest = inl (inl here)
    by (inr away) (inl there) = inl (inr there)
    by (inr away) (inr same) = inr (same ∙ at_outside k w i within.1 away)

-- the same bytes come of the writes where a place is covered, or had the same byte
same_after : (ws : List Wrote) (k c : Kept) (i : ℕ) → k.start ≡ c.start → AreWithin k.start (length k.bytes) ws → AreWithin c.start (length c.bytes) ws
    → Covered k.start ws i ⊎ (get_or k.bytes i 0 ≡ get_or c.bytes i 0) → get_or (replay ws k).bytes i 0 ≡ get_or (replay ws c).bytes i 0
same_after [] k c i st wk wc (inl none) = absurd none
same_after [] k c i st wk wc (inr same) = same
same_after (w ∷ ws) k c i st wk wc h =
    same_after ws (written k w.at w.bytes) (written c w.at w.bytes) i st
    (subst (λ n. AreWithin k.start n ws) (sym (length-written k w.at w.bytes wk.1)) wk.2)
    (subst (λ n. AreWithin c.start n ws) (sym (length-written c w.at w.bytes wc.1)) wc.2) (by (inside_or_not k.start w i) h)
  where
    by : In k.start w i ⊎ (In k.start w i → ⊥) → Covered k.start (w ∷ ws) i ⊎ (get_or k.bytes i 0 ≡ get_or c.bytes i 0)
        → Covered k.start ws i ⊎ (get_or (written k w.at w.bytes).bytes i 0 ≡ get_or (written c w.at w.bytes).bytes i 0)
    by (inl here) h =
        inr (at_inside k w i wk.1 here ∙ ap (λ (s : ℕ). get_or w.bytes (i - (w.at - s)) 0) st ∙ sym (at_inside c w i wc.1 (subst (λ (s : ℕ). In s w i) st here)))
    by (inr away) (inl (inl here)) = absurd (away here)
    by (inr away) (inl (inr there)) = inl there
    by (inr away) (inr same) =
        inr (at_outside k w i wk.1 away ∙ same ∙ sym (at_outside c w i wc.1 (subst (λ (s : ℕ). In s w i → ⊥) st away)))

first_or : Piece → List Piece → Piece
first_or p [] = p
first_or p (q ∷ qs) = q

covered-shape : (start i : ℕ) (ws vs : List Wrote) → map piece_of ws ≡ map piece_of vs → Covered start ws i → Covered start vs i
unfolding first_or
covered-shape start i [] vs same none = absurd none
covered-shape start i (w ∷ ws) [] same h = absurd (omega (arith, ap length same))
covered-shape start i (w ∷ ws) (v ∷ vs) same (inl here) =
    let first : piece_of w ≡ piece_of v = ap (first_or (piece_of w)) same in
    inl (subst (λ (p : Piece). (p.at - start ≤ i) × (i < p.at - start + p.size)) first here)
covered-shape start i (w ∷ ws) (v ∷ vs) same (inr there) = inr (covered-shape start i ws vs (ap (drop 1) same) there)

-- writes that lie within so many bytes lie within more
pub within_more : (start n m : ℕ) (ws : List Wrote) → n ≤ m → AreWithin start n ws → AreWithin start m ws
within_more start n m [] le within = tt
within_more start n m (w ∷ ws) le within =
    let low = within.1 in
    (within.0, omega (arith, low, le), within_more start (max n (w.at - start + length w.bytes)) (max m (w.at - start + length w.bytes)) ws (omega (arith, le)) within.2)

-- as many bytes come of them again
grown_more : (start n m : ℕ) (ws : List Wrote) → n ≤ m → m ≤ grown start n ws → grown start m ws ≡ grown start n ws
grown_more start n m [] le most = omega (arith, le, most)
grown_more start n m (w ∷ ws) le most =
    let e = w.at - start + length w.bytes in
    let above = grown_above start (max n e) ws in
    grown_more start (max n e) (max m e) ws (omega (arith, le)) (omega (arith, most, above))

-- Of writes that differ from those that were made only in their bytes, the same comes on what those have left as on what
-- was there before.
module _ (ws vs : List Wrote) (k : Kept) (shape : map piece_of ws ≡ map piece_of vs) (within : AreWithin k.start (length k.bytes) vs) where
  size : length (replay vs k).bytes ≡ grown k.start (length k.bytes) ws
  size = length-replay vs k within ∙ sym (grown-shape k.start (length k.bytes) ws vs shape)

  within_ws : AreWithin k.start (length k.bytes) ws
  within_ws = within-shape k.start (length k.bytes) vs ws (sym shape) within

  pub within_again : AreWithin k.start (length (replay vs k).bytes) ws
  within_again =
      let above = grown_above k.start (length k.bytes) ws in
      within_more k.start (length k.bytes) (length (replay vs k).bytes) ws (omega (arith, size, above)) within_ws

  pub grown_again : grown k.start (length (replay vs k).bytes) ws ≡ length (replay vs k).bytes
  grown_again =
      let above = grown_above k.start (length k.bytes) ws in
      grown_more k.start (length k.bytes) (length (replay vs k).bytes) ws (omega (arith, size, above)) (omega (arith, size)) ∙ sym size

  pub replay_again : replay ws (replay vs k) ≡ replay ws k
  replay_again =
      let st = replay-start vs k in
      let again : AreWithin (replay vs k).start (length (replay vs k).bytes) ws = subst (λ (s : ℕ). AreWithin s (length (replay vs k).bytes) ws) (sym st) within_again in
      let bytes : (replay ws (replay vs k)).bytes ≡ (replay ws k).bytes =
      ext_get_or 0 (replay ws (replay vs k)).bytes (replay ws k).bytes
      (length-replay ws (replay vs k) again ∙ ap (λ (s : ℕ). grown s (length (replay vs k).bytes) ws) st ∙ grown_again ∙ size ∙ sym (length-replay ws k within_ws))
      (λ i lt. same_after ws (replay vs k) k i st again within_ws (by i (kept_outside vs k i within))) in
      (λ j. record { start = (replay-start ws (replay vs k) ∙ st ∙ sym (replay-start ws k)) j; bytes = bytes j })
    where
      by : (i : ℕ) → Covered k.start vs i ⊎ (get_or (replay vs k).bytes i 0 ≡ get_or k.bytes i 0) → Covered (replay vs k).start ws i ⊎ (get_or (replay vs k).bytes i 0 ≡ get_or k.bytes i 0)
      by i (inl there) = inl (subst (λ (s : ℕ). Covered s ws i) (sym (replay-start vs k)) (covered-shape k.start i vs ws (sym shape) there))
      by i (inr same) = inr same
