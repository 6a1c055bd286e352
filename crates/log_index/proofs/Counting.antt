-- How many open writes are listed.
use Rattle.std.proofs.Common.{◌≡◌, ◌≢◌, ℕ, ◌+◌, ◌<◌, Bool, true, false, cond, eqb, List, [], ◌∷◌, ◌++◌, length, Ordering, refl, sym, ap, subst, ◌∙◌, arith, inl, inr, length-append}
use Rattle.std.specs.Ordering.{nat_cmp, match_ordering}
use Rattle.std.specs.List.Sorted.{IsStrictlySortedBy}
use Rattle.std.specs.Map.{keys_of}
use Rattle.std.proofs.lemmas.Bool.{cases_eq}
use Rattle.std.proofs.lemmas.List.Sums.{sum_by-append}
use Rattle.wal_record.specs.OpenWrites.{has_items, without_last}
use Rattle.wal_record.specs.Checkpoints.{last_open}
use Rattle.wal_record.specs.declared.record.OpenWrite.{OpenWrite}
use Rattle.wal_record.specs.declared.record.Unfinished.{Unfinished}
use Rattle.log_laws.proofs.Central.{eqb_self, eqb_differ}
use Rattle.listing_laws.specs.Summary.{put, put_open, without, writes_in, pending_in}
use Rattle.listing_laws.proofs.Listing.{cmp_less, cmp_equal, cmp_greater}
use Rattle.listing_laws.proofs.Transactions.{nothing}
use Rattle.log_index.specs.Table.{unfinished_of, listed_in, AllAbove, AreRising}
use Rattle.log_index.specs.declared.table.Tracked.{Tracked}
use Rattle.log_index.proofs.Tables.{Above, Rising, rising, tri}

listed_above : (t : ℕ) (es : List (ℕ × Tracked)) → Above t es → AllAbove t (listed_in es)
unfolding listed_in
listed_above t [] h = tt
listed_above t (e ∷ es) h = by (has_items e.1.writes.items) (listed_above t es h.1)
  where
    by : (b : Bool) → AllAbove t (listed_in es) → AllAbove t (cond b (unfinished_of e.0 e.1 ∷ listed_in es) (listed_in es))
    by true rest = (h.0, rest)
    by false rest = rest

listed_rising : (es : List (ℕ × Tracked)) → Rising es → AreRising (listed_in es)
unfolding listed_in
listed_rising [] h = tt
listed_rising (e ∷ es) h = by (has_items e.1.writes.items) (listed_rising es h.1)
  where
    by : (b : Bool) → AreRising (listed_in es) → AreRising (cond b (unfinished_of e.0 e.1 ∷ listed_in es) (listed_in es))
    by true rest = (listed_above e.0 es h.0, rest)
    by false rest = rest

none_in : (t : ℕ) (us : List Unfinished) → AllAbove t us → writes_in t us ≡ []
none_in t [] h = refl
none_in t (u ∷ us) h = ap (λ (b : Bool). cond b u.writes (writes_in t us)) (eqb_differ u.tx t (λ e. let l = h.0 in omega (arith, e, l))) ∙ none_in t us h.1

higher : (t v : ℕ) (us : List Unfinished) → t < v → AllAbove v us → AllAbove t us
higher t v [] l h = tt
higher t v (u ∷ us) l h = ((let x = h.0 in omega (arith, l, x)), higher t v us l h.1)

skipped : (t : ℕ) (u : Unfinished) (us : List Unfinished) → u.tx ≢ t → writes_in t (u ∷ us) ≡ writes_in t us
skipped t u us d = ap (λ (b : Bool). cond b u.writes (writes_in t us)) (eqb_differ u.tx t d)

met : (t : ℕ) (u : Unfinished) (us : List Unfinished) → u.tx ≡ t → writes_in t (u ∷ us) ≡ u.writes
met t u us e = ap (λ (b : Bool). cond b u.writes (writes_in t us)) (subst (λ (k : ℕ). eqb u.tx k ≡ true) e (eqb_self u.tx))

pub with_one : (u : Unfinished) (us : List Unfinished) → pending_in (u ∷ us) ≡ length u.writes + pending_in us
with_one u us = let e = sum_by-append (λ (x : Unfinished). length x.writes) (u ∷ []) us in omega (arith, e)

counted_put : (x : Unfinished) (us : List Unfinished) → AreRising us → pending_in (put x us) + length (writes_in x.tx us) ≡ pending_in us + length x.writes
counted_put x [] h = omega arith
counted_put x (u ∷ us) h = elim (tri x.tx u.tx) [
  | inl l ↦
      let e : pending_in (put x (u ∷ us)) ≡ pending_in (x ∷ u ∷ us) = ap pending_in (placed (cmp_less x.tx u.tx l)) in
      let n : length (writes_in x.tx (u ∷ us)) ≡ 0 = ap length (none_in x.tx (u ∷ us) (l, higher x.tx u.tx us l h.0)) in
      let a = with_one x (u ∷ us) in
      omega (arith, e, n, a)
  | inr c ↦ elim c [
    | inl same ↦
        let e : pending_in (put x (u ∷ us)) ≡ pending_in (x ∷ us) = ap pending_in (placed (cmp_equal x.tx u.tx same)) in
        let n : length (writes_in x.tx (u ∷ us)) ≡ length u.writes = ap length (met x.tx u us (sym same)) in
        let a = with_one x us in
        let b = with_one u us in
        omega (arith, e, n, a, b)
    | inr l ↦
        let e : pending_in (put x (u ∷ us)) ≡ pending_in (u ∷ put x us) = ap pending_in (placed (cmp_greater x.tx u.tx l)) in
        let n : length (writes_in x.tx (u ∷ us)) ≡ length (writes_in x.tx us) = ap length (skipped x.tx u us (λ d. omega (arith, l, d))) in
        let rest = counted_put x us h.1 in
        let a = with_one u us in
        let b = with_one u (put x us) in
        omega (arith, e, n, rest, a, b)
  ]
]
  where
    placed : {o : Ordering} → nat_cmp x.tx u.tx ≡ o → put x (u ∷ us) ≡ match_ordering o (x ∷ u ∷ us) (x ∷ us) (u ∷ put x us)
    placed {o} e = ap (λ (p : Ordering). match_ordering p (x ∷ u ∷ us) (x ∷ us) (u ∷ put x us)) e

counted_without : (t : ℕ) (us : List Unfinished) → pending_in (without t us) + length (writes_in t us) ≡ pending_in us
counted_without t [] = refl
counted_without t (u ∷ us) = elim (cases_eq u.tx t) [
  | inl e ↦
      let w : pending_in (without t (u ∷ us)) ≡ pending_in us = ap pending_in (taken (subst (λ (k : ℕ). eqb u.tx k ≡ true) e (eqb_self u.tx))) in
      let n : length (writes_in t (u ∷ us)) ≡ length u.writes = ap length (met t u us e) in
      let a = with_one u us in
      omega (arith, w, n, a)
  | inr d ↦
      let w : pending_in (without t (u ∷ us)) ≡ pending_in (u ∷ without t us) = ap pending_in (taken (eqb_differ u.tx t d)) in
      let n : length (writes_in t (u ∷ us)) ≡ length (writes_in t us) = ap length (skipped t u us d) in
      let rest = counted_without t us in
      let a = with_one u us in
      let b = with_one u (without t us) in
      omega (arith, w, n, rest, a, b)
]
  where
    taken : {b : Bool} → eqb u.tx t ≡ b → without t (u ∷ us) ≡ cond b us (u ∷ without t us)
    taken {b} e = ap (λ (c : Bool). cond c us (u ∷ without t us)) e

counted : (lsn t : ℕ) (ws : List OpenWrite) (us : List Unfinished) → AreRising us → pending_in (put_open lsn t ws us) + length (writes_in t us) ≡ pending_in us + length ws
counted lsn t ws us h = by (has_items ws) refl
  where
    by : (b : Bool) → has_items ws ≡ b → pending_in (cond b (put (record { tx = t; last = lsn; undo_next = last_open ws; writes = ws }) us) (without t us)) + length (writes_in t us) ≡ pending_in us + length ws
    by true e = counted_put (record { tx = t; last = lsn; undo_next = last_open ws; writes = ws }) us h
    by false e = let n = ap length (nothing ws e) in let w = counted_without t us in omega (arith, n, w)

-- ---- the changes that calls make

module _ (es : List (ℕ × Tracked)) (sorted : IsStrictlySortedBy nat_cmp (keys_of es)) where
  pub one_more : (lsn t : ℕ) (item : OpenWrite) (now : List Unfinished) → now ≡ put_open lsn t (writes_in t (listed_in es) ++ item ∷ []) (listed_in es) → pending_in now ≡ pending_in (listed_in es) + 1
  one_more lsn t item now h =
      let e = ap pending_in h in
      let c = counted lsn t (writes_in t (listed_in es) ++ item ∷ []) (listed_in es) (listed_rising es (rising es sorted)) in
      let n = length-append (writes_in t (listed_in es)) (item ∷ []) in
      omega (arith, e, c, n)

  one_shorter : (ws : List OpenWrite) → length (without_last ws) + cond (has_items ws) 1 0 ≡ length ws
  one_shorter [] = refl
  one_shorter (w ∷ []) = refl
  one_shorter (w ∷ v ∷ ws) = let r = one_shorter (v ∷ ws) in omega (arith, r)

  pub one_less : (lsn t : ℕ) (now : List Unfinished) → now ≡ put_open lsn t (without_last (writes_in t (listed_in es))) (listed_in es) → pending_in now + cond (has_items (writes_in t (listed_in es))) 1 0 ≡ pending_in (listed_in es)
  one_less lsn t now h =
      let e = ap pending_in h in
      let c = counted lsn t (without_last (writes_in t (listed_in es))) (listed_in es) (listed_rising es (rising es sorted)) in
      let n = one_shorter (writes_in t (listed_in es)) in
      omega (arith, e, c, n)

pub all_less : (t : ℕ) (us now : List Unfinished) → now ≡ without t us → pending_in now + length (writes_in t us) ≡ pending_in us
all_less t us now h = let e = ap pending_in h in let c = counted_without t us in omega (arith, e, c)
