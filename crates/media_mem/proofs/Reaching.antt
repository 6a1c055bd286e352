-- One more write, and one more time that has ended.
use Rattle.std.proofs.Common.{◌≡◌, ◌⊎◌, inl, inr, ⊎_elim, ℕ, zero, suc, ◌+◌, ◌-◌, ◌≤◌, List, [], ◌∷◌, ◌++◌, length, take, drop, refl, sym, ◌∙◌, ap, subst, arith, append_assoc, length-append, length-drop, length-take}
use Rattle.std.proofs.lemmas.List.{take_at, drop_at}
use Rattle.media.specs.Kept.{Kept, Torn, written}
use Rattle.media.specs.Crash.{Elapses}
use Rattle.media_mem.specs.Reach.{Piece, Reach, Span, left_in, HadBeen, MemSeen, kept_now, leaves, left_at, span_of, Settles}

pub torn_written : (k : Kept) (at : ℕ) (bytes : List ℕ) → at - k.start ≤ length k.bytes → Torn at (length bytes) k (written k at bytes)
torn_written k at bytes le =
    let off = at - k.start in
    let front = take off k.bytes in
    let tail = drop (off + length bytes) k.bytes in
    let size : length front ≡ off = omega (arith, length-take off k.bytes, le) in
    let whole : length ((front ++ bytes) ++ tail) ≡ off + length bytes + length tail = omega (arith, length-append (front ++ bytes) tail, length-append front bytes, size) in
    record {
      start = refl;
      before = ap (λ (l : List ℕ). take off l) (append_assoc front bytes tail) ∙ take_at front (bytes ++ tail) off size;
      after = drop_at (front ++ bytes) tail (off + length bytes) (omega (arith, length-append front bytes, size));
      no_shorter = omega (arith, whole, length-drop (off + length bytes) k.bytes);
      no_longer = omega (arith, whole, length-drop (off + length bytes) k.bytes);
    }

pub torn_not : (at n : ℕ) (k : Kept) → Torn at n k k
torn_not at n k = record { start = refl; before = refl; after = refl; no_shorter = omega arith; no_longer = omega arith }

pub reach_push : (ws : List Piece) (w : Piece) (k d c : Kept) → Reach ws k d → Torn w.at (w.size) d c → Reach (ws ++ w ∷ []) k c
reach_push [] w k d c is torn = (c, subst (λ x. Torn w.at (w.size) x c) is torn, refl)
reach_push (v ∷ ws) w k d c r torn = (r.0, r.1, reach_push ws w r.0 d c r.2 torn)

pub reach_last : (ws : List Piece) (w : Piece) (k c : Kept) → Reach (ws ++ w ∷ []) k c → (d : Kept) × Reach ws k d × Torn w.at (w.size) d c
reach_last [] w k c r = (k, refl, subst (λ x. Torn w.at (w.size) k x) (sym r.2) r.1)
reach_last (v ∷ ws) w k c r = let last = reach_last ws w r.0 c r.2 in (last.0, (r.0, r.1, last.1), last.2)

pub reach_none : (ws : List Piece) (k : Kept) → Reach ws k k
reach_none [] k = refl
reach_none (w ∷ ws) k = (k, torn_not w.at (w.size) k, reach_none ws k)

keeps : (past : List Span) (s : Span) (c : Kept) → HadBeen past c → HadBeen (past ++ s ∷ []) c
keeps [] s c had = absurd had
keeps (p ∷ past) s c (inl here) = inl here
keeps (p ∷ past) s c (inr there) = inr (keeps past s c there)

adds : (past : List Span) (s : Span) (c : Kept) → HadBeen (past ++ s ∷ []) c → HadBeen past c ⊎ left_in s c
adds [] s c (inl here) = inr here
adds [] s c (inr none) = absurd none
adds (p ∷ past) s c (inl here) = inl (inl here)
adds (p ∷ past) s c (inr there) = ⊎_elim (λ had. inl (inr had)) (λ new. inr new) (adds past s c there)

newest : (past : List Span) (s : Span) (c : Kept) → left_in s c → HadBeen (past ++ s ∷ []) c
newest [] s c is = inl is
newest (p ∷ past) s c is = inr (newest past s c is)

drop_push : (t : ℕ) (past : List Span) (s : Span) → t ≤ length past → drop t (past ++ s ∷ []) ≡ drop t past ++ s ∷ []
drop_push zero past s le = refl
drop_push (suc t) [] s le = absurd (omega arith)
drop_push (suc t) (p ∷ past) s le = drop_push t past s (omega arith)

abbrev pub moment_of : MemSeen → ℕ
moment_of m = length m.past

pub elapses_same : (m : MemSeen) → Elapses moment_of leaves left_at m m
elapses_same m = record { later = omega arith; nothing_else = λ t c le left. inl left; keeps = λ t c le left. left }

pub elapses_push : (old new : MemSeen) → new.past ≡ old.past ++ span_of old ∷ [] → Elapses moment_of leaves left_at old new
elapses_push old new is =
    let s = span_of old in
    let at : (t : ℕ) → t ≤ length old.past → drop t new.past ≡ drop t old.past ++ s ∷ [] = λ t le. ap (λ (l : List Span). drop t l) is ∙ drop_push t old.past s le in
    record {
      later = omega (arith, ap length is, length-append old.past (s ∷ []));
      nothing_else = λ t c le left. ⊎_elim (λ now. inr now) (λ had. inl (⊎_elim (λ h. inr h) (λ l. inl l) (adds (drop t old.past) s c (subst (λ (l : List Span). HadBeen l c) (at t le) had)))) left;
      keeps = λ t c le left. inr (subst (λ (l : List Span). HadBeen l c) (sym (at t le)) (⊎_elim (λ now. newest (drop t old.past) s c now) (λ had. keeps (drop t old.past) s c had) left));
    }

-- one write more
pub elapses_write : (old new : MemSeen) → new.past ≡ old.past → ((c : Kept) → leaves old c → leaves new c) → Elapses moment_of leaves left_at old new
elapses_write old new is more =
    let at : (t : ℕ) → drop t new.past ≡ drop t old.past = λ t. ap (λ (l : List Span). drop t l) is in
    record {
      later = omega (arith, ap length is);
      nothing_else = λ t c le left. ⊎_elim (λ now. inr now) (λ had. inl (inr (subst (λ (l : List Span). HadBeen l c) (at t) had))) left;
      keeps = λ t c le left. ⊎_elim (λ now. inl (more c now)) (λ had. inr (subst (λ (l : List Span). HadBeen l c) (sym (at t)) had)) left;
    }

pub settles_left : (old new : MemSeen) (k : Kept) → Settles old new k → leaves old k → leaves old (kept_now new)
settles_left old new k (inl same) r = subst (leaves old) (same.3 ∙ ap kept_now (sym same.0)) r
settles_left old new k (inr ends) r = subst (leaves old) (ap kept_now (sym ends)) r

pub settles_only : (old new : MemSeen) (k : Kept) → Settles old new k → (c : Kept) → leaves new c → c ≡ kept_now new
settles_only old new k (inl same) c r =
    let here : leaves old c = subst (λ (m : MemSeen). leaves m c) same.0 r in
    let first : c ≡ record { start = old.start; bytes = old.base } = subst (λ (ws : List Piece). Reach ws (record { start = old.start; bytes = old.base }) c) same.1 here in
    first ∙ ap (λ (l : List ℕ). let x : Kept = record { start = old.start; bytes = l } in x) same.2 ∙ ap kept_now (sym same.0)
settles_only old new k (inr ends) c r =
    let first : c ≡ k = subst (λ (m : MemSeen). leaves m c) ends r in
    first ∙ ap kept_now (sym ends)

pub settles_no_more : (old new : MemSeen) (k : Kept) → Settles old new k → leaves old k → (c : Kept) → leaves new c → leaves old c
settles_no_more old new k s r c left = subst (leaves old) (sym (settles_only old new k s c left)) (settles_left old new k s r)

pub settles_time : (old new : MemSeen) (k : Kept) → Settles old new k → Elapses moment_of leaves left_at old new
settles_time old new k (inl same) = subst (λ (m : MemSeen). Elapses moment_of leaves left_at old m) (sym same.0) (elapses_same old)
settles_time old new k (inr ends) = elapses_push old new (ap (λ (m : MemSeen). m.past) ends)

-- the base is always one of the outcomes
pub base_left : (m : MemSeen) → leaves m (record { start = m.start; bytes = m.base })
base_left m = reach_none m.writes (record { start = m.start; bytes = m.base })

-- the call that writes
pub writes_crash : (old new : MemSeen) (at size : ℕ) → new.start ≡ old.start → new.base ≡ old.base → new.writes ≡ old.writes ++ (record { at = at; size = size }) ∷ []
    → (c : Kept) → leaves new c → (d : Kept) × leaves old d × Torn at size d c
writes_crash old new at size st ba ws c left =
    reach_last old.writes (record { at = at; size = size }) (record { start = old.start; bytes = old.base }) c
    (subst (λ (l : List Piece). Reach l (record { start = old.start; bytes = old.base }) c) ws (subst (λ (k : Kept). Reach new.writes k c) (λ i. record { start = st i; bytes = ba i }) left))

pub writes_more : (old new : MemSeen) (at size : ℕ) → new.start ≡ old.start → new.base ≡ old.base → new.writes ≡ old.writes ++ (record { at = at; size = size }) ∷ []
    → (c : Kept) → leaves old c → leaves new c
writes_more old new at size st ba ws c left =
    subst (λ (k : Kept). Reach new.writes k c) (λ i. record { start = sym st i; bytes = sym ba i })
    (subst (λ (l : List Piece). Reach l (record { start = old.start; bytes = old.base }) c) (sym ws)
    (reach_push old.writes (record { at = at; size = size }) (record { start = old.start; bytes = old.base }) c c left (torn_not at size c)))

pub settles_same : (old new : MemSeen) → Settles old new (kept_now old) → kept_now new ≡ kept_now old
settles_same old new (inl same) = ap kept_now same.0
settles_same old new (inr ends) = ap kept_now ends
