-- The locks of losers.
use Rattle.std.proofs.Common.{◌≡◌, ◌≢◌, ℕ, Bool, true, false, List, [], ◌∷◌, ◌++◌, Option, Some, refl, sym, ap, ◌∙◌, Ordering, Less, Equal, Greater}
use Rattle.std.specs.Prelude.{map, ◌||◌}
use Rattle.std.specs.List.{list_any}
use Rattle.std.specs.FinMap.{get}
use Rattle.std.specs.Ordering.{nat_cmp, is_lt, ordering_reverse}
use Rattle.std.specs.Cmp.Lexicographic.{slice_cmp, nat_list_cmp_total}
use Rattle.std.proofs.lemmas.Map.Lookups.{exact_bytes}
use Rattle.store_model.specs.Range.{point, is_below, overlap}
use Rattle.store_model.proofs.Bools.{both_true, or_left, or_right, false_unless}
use Rattle.wal_record.specs.declared.record.Record.{Record}
use Rattle.wal_record.specs.OpenWrites.{is_loser, open_writes, writes, key_of}
use Rattle.wal_record.specs.Contents.{committed_contents}
use Rattle.wal_record.specs.Locks.{loser_locks, conflict, point_lock}
use Rattle.wal_record.specs.Sound.{AreLawful}
use Rattle.log_laws.specs.Locks.{meets, LoserLocksLaw}
use Rattle.log_laws.proofs.Central.{Olds, value_after, own_key, kept_log}
use Rattle.log_laws.proofs.Locked.{meets_less, IsWithin, nothing_between}

-- points that overlap are the same
same_point : (k q : List ℕ) → overlap (point k) (point q) ≡ true → k ≡ q
same_point k q h = by (slice_cmp nat_cmp k q) refl
  where
    parts : (is_below (Some k) (Some (q ++ 0 ∷ [])) ≡ true) × (is_below (Some q) (Some (k ++ 0 ∷ [])) ≡ true)
    parts = both_true (is_below (Some k) (Some (q ++ 0 ∷ []))) (is_below (Some q) (Some (k ++ 0 ∷ []))) h

    by : (o : Ordering) → slice_cmp nat_cmp k q ≡ o → k ≡ q
    by Less e = sym (nothing_between q k (ap is_lt (nat_list_cmp_total.antisymm q k ∙ ap ordering_reverse e)) parts.1)
    by Equal e = exact_bytes k q e
    by Greater e = nothing_between k q (ap is_lt e) parts.0

-- a write that meets one of these is of its key
met_one : (key : List ℕ) (vs : List Record) (val : List ℕ → Option (List ℕ)) → Olds val vs → (w : Record) → key ≡ key_of w → list_any (conflict (point_lock w)) (map point_lock vs) ≡ true → list_any (writes key) vs ≡ true
met_one key [] val g w e h = absurd cc
met_one key (v ∷ vs) val g w e h = by (met_one key vs (λ k. value_after k (val k) v) g.2 w e) (conflict (point_lock w) (point_lock v)) refl h
  where
    by : (list_any (conflict (point_lock w)) (map point_lock vs) ≡ true → list_any (writes key) vs ≡ true) → (b : Bool) → conflict (point_lock w) (point_lock v) ≡ b → (b || list_any (conflict (point_lock w)) (map point_lock vs)) ≡ true
        → (writes key v || list_any (writes key) vs) ≡ true
    by more true c h = or_left (writes key v) _ (g.0 key ∙ own_key key (key_of v) (e ∙ same_point (key_of w) (key_of v) (both_true (overlap (point (key_of w)) (point (key_of v))) true c).0))
    by more false c h = or_right (writes key v) _ (more h)

met : (ws vs : List Record) (val val' : List ℕ → Option (List ℕ)) → Olds val ws → Olds val' vs → meets (map point_lock ws) (map point_lock vs) ≡ true → (key : List ℕ) × (list_any (writes key) ws ≡ true) × (list_any (writes key) vs ≡ true)
met [] vs val val' g g' h = absurd cc
met (w ∷ ws) vs val val' g g' h = by (met ws vs (λ k. value_after k (val k) w) val' g.2 g') (list_any (conflict (point_lock w)) (map point_lock vs)) refl h
  where
    by : (meets (map point_lock ws) (map point_lock vs) ≡ true → (key : List ℕ) × (list_any (writes key) ws ≡ true) × (list_any (writes key) vs ≡ true)) → (b : Bool) → list_any (conflict (point_lock w)) (map point_lock vs) ≡ b
        → (b || meets (map point_lock ws) (map point_lock vs)) ≡ true → (key : List ℕ) × ((writes key w || list_any (writes key) ws) ≡ true) × (list_any (writes key) vs ≡ true)
    by more true c h = (key_of w, or_left (writes (key_of w) w) _ (g.0 (key_of w) ∙ own_key (key_of w) (key_of w) refl), met_one (key_of w) vs val' g' w refl c)
    by more false c h = let m = more h in (m.0, or_right (writes m.0 w) _ m.1, m.2)

-- writes of a key by one transaction alone have locks that don't conflict with another's
pub losers_apart : (log : List Record) → AreLawful log → (t u : ℕ) → t ≢ u → meets (map point_lock (open_writes log t)) (map point_lock (open_writes log u)) ≡ false
losers_apart log sound t u n =
    let kept = kept_log log sound in
    false_unless (meets (map point_lock (open_writes log t)) (map point_lock (open_writes log u))) (λ h.
    let m = met (open_writes log t) (open_writes log u) (get (committed_contents log)) (get (committed_contents log)) (kept.olds t) (kept.olds u) h in
    n (kept.apart m.0 t u m.1 m.2))

all_or_none : (b : Bool) (ws : List Record) → IsWithin (loser_locks b ws) (map point_lock ws)
all_or_none true ws p h = h
all_or_none false ws p h = absurd cc

pub losers_free : (log : List Record) → AreLawful log → (t u : ℕ) → t ≢ u → meets (loser_locks (is_loser log t) (open_writes log t)) (loser_locks (is_loser log u) (open_writes log u)) ≡ false
losers_free log sound t u n = meets_less _ _ _ _ (all_or_none (is_loser log t) (open_writes log t)) (all_or_none (is_loser log u) (open_writes log u)) (losers_apart log sound t u n)

pub loser_locks_apart : (log : List Record) → LoserLocksLaw log
loser_locks_apart log = record { apart = losers_apart log }
