-- The table of the transactions that a checkpoint lists.
use Rattle.std.proofs.Common.{◌≡◌, Some, ℕ, ◌+◌, ◌<◌, zero, suc, Bool, true, false, cond, eqb, List, [], ◌∷◌, ◌++◌, length, take, slice_index_or, Ordering, refl, sym, ap, subst, ◌∙◌, arith, inl, inr}
use Rattle.std.specs.Ordering.{nat_cmp, match_ordering}
use Rattle.std.specs.List.Sorted.{IsStrictlySortedBy}
use Rattle.std.specs.Map.{keys_of, lookup}
use Rattle.std.specs.BTreeMap.{insert_entry, is_at, get}
use Rattle.std.specs.Ordering.{is_eq}
use Rattle.std.proofs.lemmas.List.Sums.{fold-append}
use Rattle.log_laws.proofs.Central.{eqb_self, eqb_differ}
use Rattle.wal_record.specs.OpenWrites.{has_items, is_loser}
use Rattle.wal_record.specs.Chains.{greatest}
use Rattle.wal_record.specs.Checkpoints.{last_open, unfinished, checkpoint_of}
use Rattle.wal_record.specs.declared.record.Unfinished.{Unfinished}
use Rattle.wal_record.specs.declared.record.Record.{Record}
use Rattle.listing_laws.specs.Summary.{put, last_in}
use Rattle.listing_laws.proofs.Listing.{listing, listing_suc, cmp_less, cmp_equal, cmp_greater}
use Rattle.listing_laws.proofs.Transactions.{some_open}
use Rattle.log_index.specs.Table.{unfinished_of, listed_before, listed_in, AllAbove, AreRising, IsListed, AreListed, Table, last_of_tracked, noted_in}
use Rattle.log_index.specs.declared.table.Tracked.{Tracked}
use Rattle.log_index.proofs.Tables.{Above, Rising, rising, tri, above_put}

-- ---- a transaction with open writes is put in

inserted : (t : ℕ) (es : List (ℕ × Tracked)) (x : Tracked) → Rising es → has_items x.writes.items ≡ true → listed_in (insert_entry nat_cmp es t x) ≡ put (unfinished_of t x) (listed_in es)
unfolding listed_in
inserted t [] x r some = ap (λ (b : Bool). cond b (unfinished_of t x ∷ []) []) some
inserted t (e ∷ es) x r some = elim (tri t e.0) [
  | inl l ↦
      ap listed_in (placed (cmp_less t e.0 l))
      ∙ ap (λ (b : Bool). cond b (unfinished_of t x ∷ listed_in (e ∷ es)) (listed_in (e ∷ es))) some
      ∙ sym (above_put (unfinished_of t x) (e ∷ es) (l, below t e.0 es l r.0))
  | inr c ↦ elim c [
    | inl same ↦ ap listed_in (placed (cmp_equal t e.0 same)) ∙ ap (λ (b : Bool). cond b (unfinished_of e.0 x ∷ listed_in es) (listed_in es)) some ∙ at same (has_items e.1.writes.items)
    | inr l ↦ ap listed_in (placed (cmp_greater t e.0 l)) ∙ ap (λ (us : List Unfinished). listed_before us e) (inserted t es x r.1 some) ∙ past l (has_items e.1.writes.items)
  ]
]
  where
    placed : {o : Ordering} → nat_cmp t e.0 ≡ o → insert_entry nat_cmp (e ∷ es) t x ≡ match_ordering o ((t, x) ∷ e ∷ es) ((e.0, x) ∷ es) (e ∷ insert_entry nat_cmp es t x)
    placed {o} h = ap (λ (p : Ordering). match_ordering p ((t, x) ∷ e ∷ es) ((e.0, x) ∷ es) (e ∷ insert_entry nat_cmp es t x)) h

    below : (t u : ℕ) (es : List (ℕ × Tracked)) → t < u → Above u es → Above t es
    below t u [] l h = tt
    below t u (e ∷ es) l h = ((let y = h.0 in omega (arith, l, y)), below t u es l h.1)

    at : t ≡ e.0 → (b : Bool) → unfinished_of e.0 x ∷ listed_in es ≡ put (unfinished_of t x) (cond b (unfinished_of e.0 e.1 ∷ listed_in es) (listed_in es))
    at same true =
        ap (λ (k : ℕ). unfinished_of k x ∷ listed_in es) (sym same)
        ∙ sym (ap (λ (o : Ordering). match_ordering o (unfinished_of t x ∷ unfinished_of e.0 e.1 ∷ listed_in es) (unfinished_of t x ∷ listed_in es) (unfinished_of e.0 e.1 ∷ put (unfinished_of t x) (listed_in es))) (cmp_equal t e.0 same))
    at same false = ap (λ (k : ℕ). unfinished_of k x ∷ listed_in es) (sym same) ∙ sym (above_put (unfinished_of t x) es (subst (λ (k : ℕ). Above k es) (sym same) r.0))

    past : e.0 < t → (b : Bool) → cond b (unfinished_of e.0 e.1 ∷ put (unfinished_of t x) (listed_in es)) (put (unfinished_of t x) (listed_in es)) ≡ put (unfinished_of t x) (cond b (unfinished_of e.0 e.1 ∷ listed_in es) (listed_in es))
    past l true = sym (ap (λ (o : Ordering). match_ordering o (unfinished_of t x ∷ unfinished_of e.0 e.1 ∷ listed_in es) (unfinished_of t x ∷ listed_in es) (unfinished_of e.0 e.1 ∷ put (unfinished_of t x) (listed_in es))) (cmp_greater t e.0 l))
    past l false = refl

-- ---- one after the other

above_at : (t : ℕ) (us : List Unfinished) (i : ℕ) (d : Unfinished) → AllAbove t us → i < length us → t < (slice_index_or us i d).tx
above_at t [] i d h l = absurd (omega (arith, l))
above_at t (u ∷ us) zero d h l = h.0
above_at t (u ∷ us) (suc i) d h l = above_at t us i d h.1 (omega (arith, l))

put_next : (us : List Unfinished) (i : ℕ) (d : Unfinished) → AreRising us → i < length us → put (slice_index_or us i d) (take i us) ≡ take (suc i) us
put_next [] i d h l = absurd (omega (arith, l))
put_next (u ∷ us) zero d h l = refl
put_next (u ∷ us) (suc i) d h l =
    ap (λ (o : Ordering). match_ordering o (slice_index_or us i d ∷ u ∷ take i us) (slice_index_or us i d ∷ take i us) (u ∷ put (slice_index_or us i d) (take i us))) (cmp_greater (slice_index_or us i d).tx u.tx (above_at u.tx us i d h.0 (omega (arith, l))))
    ∙ ap (λ (ws : List Unfinished). u ∷ ws) (put_next us i d h.1 (omega (arith, l)))

listed_at : (us : List Unfinished) (i : ℕ) (d : Unfinished) → AreListed us → i < length us → IsListed (slice_index_or us i d)
listed_at [] i d h l = absurd (omega (arith, l))
listed_at (u ∷ us) zero d h l = h.1.0
listed_at (u ∷ us) (suc i) d h l = listed_at us i d (h.0.1, h.1.1) (omega (arith, l))

-- ---- what a log lists

module _ (P : ℕ → Bool) (f : ℕ → Unfinished) (tx : (t : ℕ) → (f t).tx ≡ t) (good : (t : ℕ) → P t ≡ true → IsListed (f t)) where
  all_above : (t a n : ℕ) → t < a → AllAbove t (listing P f a n)
  all_above t a zero h = tt
  all_above t a (suc n) h = subst (AllAbove t) (sym (listing_suc P f a n)) (by (P a) (all_above t (a + 1) n (omega (arith, h))))
    where
      by : (b : Bool) → AllAbove t (listing P f (a + 1) n) → AllAbove t (cond b (f a ∷ listing P f (a + 1) n) (listing P f (a + 1) n))
      by true rest = ((let e = tx a in omega (arith, e, h)), rest)
      by false rest = rest

  all_listed : (a n : ℕ) → AreListed (listing P f a n)
  all_listed a zero = (tt, tt)
  all_listed a (suc n) = subst AreListed (sym (listing_suc P f a n)) (by (P a) refl (all_listed (a + 1) n))
    where
      by : (b : Bool) → P a ≡ b → AreListed (listing P f (a + 1) n) → AreListed (cond b (f a ∷ listing P f (a + 1) n) (listing P f (a + 1) n))
      by true e rest = ((all_above (f a).tx (a + 1) n (let x = tx a in omega (arith, x)), rest.0), (good a e, rest.1))
      by false e rest = rest

pub log_listed : (log : List Record) → AreListed (checkpoint_of log).transactions
unfolding checkpoint_of
log_listed log = all_listed (is_loser log) (unfinished log) (λ t. refl) (λ t some. (sym (some_open log t) ∙ some, refl)) 1 (greatest log)

-- ---- a step of the loop

same_unfinished : (u : Unfinished) (x : Tracked) → IsListed u → x.last ≡ u.last → x.writes.items ≡ u.writes → unfinished_of u.tx x ≡ u
same_unfinished u x h l w = λ i. record { tx = u.tx; last = l i; undo_next = (ap last_open w ∙ sym h.1) i; writes = w i }

pub one_rebuilt : (us : List Unfinished) (i : ℕ) (d : Unfinished) (es now : List (ℕ × Tracked)) (x : Tracked) → AreListed us → i < length us → IsStrictlySortedBy nat_cmp (keys_of es) → listed_in es ≡ take i us → x.last ≡ (slice_index_or us i d).last
    → x.writes.items ≡ (slice_index_or us i d).writes → now ≡ insert_entry nat_cmp es (slice_index_or us i d).tx x → listed_in now ≡ take (suc i) us
one_rebuilt us i d es now x h l sorted before last writes is =
    let listed = listed_at us i d h l in
    ap listed_in is
    ∙ inserted (slice_index_or us i d).tx es x (rising es sorted) (ap has_items writes ∙ listed.0)
    ∙ (λ j. put (same_unfinished (slice_index_or us i d) x listed last writes j) (before j))
    ∙ put_next us i d h.0 l

pub item_rebuilt : (us : List Unfinished) (i m : ℕ) (u : Unfinished) (es now : List (ℕ × Tracked)) (x : Tracked) → slice_index_or us i u ≡ u → m ≡ suc i → i < length us → IsStrictlySortedBy nat_cmp (keys_of es) → (AreListed us → listed_in es ≡ take i us) → x.last ≡ u.last → x.writes.items ≡ u.writes
    → now ≡ insert_entry nat_cmp es u.tx x → AreListed us → listed_in now ≡ take m us
item_rebuilt us i m u es now x at more l sorted before last writes is h =
    one_rebuilt us i u es now x h l sorted (before h) (last ∙ ap (λ (v : Unfinished). v.last) (sym at)) (writes ∙ ap (λ (v : Unfinished). v.writes) (sym at)) (is ∙ ap (λ (v : Unfinished). insert_entry nat_cmp es v.tx x) (sym at))
    ∙ ap (λ (k : ℕ). take k us) (sym more)

pub none_rebuilt : (es : List (ℕ × Tracked)) → es ≡ [] → listed_in es ≡ []
unfolding listed_in
none_rebuilt es h = ap listed_in h

-- ---- what was noted last

pub none_noted : (made : Table) → made.entries ≡ [] → (q : ℕ) → noted_in made q ≡ 0
none_noted made h q = ap (λ (es : List (ℕ × Tracked)). last_of_tracked (lookup (is_at (nat_cmp q)) es)) h

take_next : (us : List Unfinished) (i : ℕ) (u : Unfinished) → u ≡ slice_index_or us i u → i < length us → take (suc i) us ≡ take i us ++ u ∷ []
take_next [] i u e l = absurd (omega (arith, l))
take_next (v ∷ us) zero u e l = ap (λ (w : Unfinished). w ∷ []) (sym e)
take_next (v ∷ us) (suc i) u e l = ap (λ (ws : List Unfinished). v ∷ ws) (take_next us i u e (omega (arith, l)))

at_is : (t q : ℕ) → is_at (nat_cmp t) q ≡ eqb t q
at_is t q = elim (tri t q) [
  | inl l ↦ ap is_eq (cmp_less t q l) ∙ sym (eqb_differ t q (λ e. omega (arith, l, e)))
  | inr c ↦ elim c [ inl e ↦ ap is_eq (cmp_equal t q e) ∙ sym (subst (λ (k : ℕ). eqb t k ≡ true) e (eqb_self t)) | inr l ↦ ap is_eq (cmp_greater t q l) ∙ sym (eqb_differ t q (λ e. omega (arith, l, e))) ]
]

pub one_noted : (us : List Unfinished) (i m : ℕ) (u : Unfinished) (old new : Table) (x : Tracked) → u ≡ slice_index_or us i u → m ≡ suc i → i < length us → ((q : ℕ) → get nat_cmp new q ≡ cond (is_at (nat_cmp u.tx) q) (Some x) (get nat_cmp old q))
    → ((q : ℕ) → noted_in old q ≡ last_in q (take i us)) → x.last ≡ u.last → (q : ℕ) → noted_in new q ≡ last_in q (take m us)
one_noted us i m u old new x at more l updates before last q =
    ap last_of_tracked (updates q ∙ ap (λ (b : Bool). cond b (Some x) (get nat_cmp old q)) (at_is u.tx q))
    ∙ by (eqb u.tx q)
    ∙ ap (λ (n : ℕ). cond (eqb u.tx q) u.last n) (before q)
    ∙ sym (fold-append (λ (n : ℕ) (v : Unfinished). cond (eqb v.tx q) v.last n) 0 (take i us) (u ∷ []))
    ∙ ap (last_in q) (sym (take_next us i u at l) ∙ sym (ap (λ (k : ℕ). take k us) more))
  where
    by : (b : Bool) → last_of_tracked (cond b (Some x) (get nat_cmp old q)) ≡ cond b u.last (noted_in old q)
    by true = last
    by false = refl
