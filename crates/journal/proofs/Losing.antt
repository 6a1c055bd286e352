-- The table of losers, as a life goes on.
use Rattle.std.proofs.Common.{◌≡◌, ℕ, suc, ◌<◌, ◌≤◌, slice_index_or, take, List, [], ◌∷◌, ◌++◌, length, map, Option, Some, None, Bool, true, false, refl, sym, ap, ◌∙◌, subst, arith, append-nil, append_assoc}
use Rattle.std.specs.Prelude.{Result, Ok, Err, filter}
use Rattle.std.specs.List.{find}
use Rattle.std.specs.Option.{option_map}
use Rattle.life_history.specs.Groups.{is_still}
use Rattle.life_history.specs.Kept.{commit_entry}
use Rattle.loser_laws.specs.Losers.{AreLosers, IsDone, touches, txs_of}
use Rattle.loser_laws.proofs.Tables.{all_calm, all_committed, all_ended, all_still, all_undone, each_apart, ended_txs, found_tx, left_are, none_done, start_txs}
use Rattle.loser_laws.proofs.Ways.{ways}
use Rattle.losers.proofs.Changes.{found_at}
use Rattle.losers.specs.Losers.{ended_at, is_left, undone_at, untouched}
use Rattle.losers.specs.declared.losers.LoserState.{LoserState}
use Rattle.page_ops.specs.Groups.{Each, group_entries, said_entries}
use Rattle.page_ops.specs.Outcomes.{begun, losers_left}
use Rattle.page_ops.specs.Seeing.{IsConsistent}
use Rattle.page_ops.specs.declared.group.Said.{Said}
use Rattle.store_model.specs.declared.fault.Fault.{Fault}
use Rattle.wal_record.specs.Chains.{finishes}
use Rattle.wal_record.specs.History.{Live, log_of, phase}
use Rattle.wal_record.specs.OpenWrites.{losers}
use Rattle.wal_record.specs.declared.entry.Entry.{Entry}
use Rattle.wal_record.specs.declared.entry.Entry.TheVariants as entries
use Rattle.wal_record.specs.declared.record.Record.{Record}
use Rattle.wal_record.specs.declared.record.Record.TheVariants as kinds
use Rattle.journal.specs.Losers.{HasLosers, undone_in}
use Rattle.journal.proofs.Locking.{opening_lawful}
use Rattle.journal.proofs.Restoring.{taken_all}

-- ---- a record

still_finishes : (t : ℕ) (r : Record) → is_still r ≡ true → finishes t r ≡ false
still_finishes t (kinds.Commit c) e = absurd (cc e)
still_finishes t (kinds.End x) e = absurd (cc e)
still_finishes t _ e = refl

still_touches : (t lsn : ℕ) (r : Record) → is_still r ≡ true → None ≡ undone_in r → touches t (entries.Rec lsn r) ≡ false
still_touches t lsn (kinds.Undo u) s e = absurd (cc e)
still_touches t lsn (kinds.End x) s e = absurd (cc s)
still_touches t lsn _ s e = refl

pub none_here : (h : List Entry) (lsn : ℕ) (r : Record) (xs : List LoserState) → is_still r ≡ true → None ≡ undone_in r → Each (IsDone h) xs → Each (IsDone (h ++ entries.Rec lsn r ∷ [])) xs
none_here h lsn r xs s e = all_still h lsn r xs (λ t. still_touches t lsn r s e) (λ t. still_finishes t r s)

pub undone_here : (h : List Entry) (lsn place tx : ℕ) (r : Record) (xs : List LoserState) → Some tx ≡ undone_in r → place ≡ suc (length h) → Each (IsDone h) xs → Each (IsDone (h ++ entries.Rec lsn r ∷ [])) (map (undone_at tx place) xs)
undone_here h lsn place tx (kinds.Undo u) xs e at k =
    let is : tx ≡ u.tx = cc e in
    subst (λ (n : ℕ). Each (IsDone (h ++ entries.Rec lsn (kinds.Undo u) ∷ [])) (map (undone_at n place) xs)) (sym is) (all_undone h lsn place u xs at k)
undone_here h lsn place tx _ xs e at k = absurd (cc e)

-- ---- a group

said_done : (h : List Entry) (said : Option Said) (xs : List LoserState) → Each (IsDone h) xs → Each (IsDone (h ++ said_entries said)) xs
said_done h None xs k = subst (λ (l : List Entry). Each (IsDone l) xs) (sym (append-nil h)) k
said_done h (Some a) xs k = all_calm h (entries.Said a.session a.tx a.request a.reply) xs refl (λ t. refl) k

-- the records of a group stand one behind the other
pub done_none : (h : List Entry) (lsn : ℕ) (said : Option Said) (xs : List LoserState) → Each (IsDone h) xs → Each (IsDone (h ++ group_entries lsn [] said)) xs
done_none h lsn said xs k = said_done h said xs k

pub done_one : (h : List Entry) (lsn : ℕ) (r : Record) (said : Option Said) (xs : List LoserState) → Each (IsDone (h ++ entries.Rec lsn r ∷ [])) xs → Each (IsDone (h ++ group_entries lsn (r ∷ []) said)) xs
done_one h lsn r said xs k = subst (λ (l : List Entry). Each (IsDone l) xs) (append_assoc h (entries.Rec lsn r ∷ []) (said_entries said)) (said_done (h ++ entries.Rec lsn r ∷ []) said xs k)

pub done_two : (h : List Entry) (lsn : ℕ) (r q : Record) (said : Option Said) (xs : List LoserState) → Each (IsDone ((h ++ entries.Rec lsn r ∷ []) ++ entries.Rec (suc lsn) q ∷ [])) xs → Each (IsDone (h ++ group_entries lsn (r ∷ q ∷ []) said)) xs
done_two h lsn r q said xs k =
    let g = h ++ entries.Rec lsn r ∷ [] in
    subst (λ (l : List Entry). Each (IsDone l) xs) (append_assoc h (entries.Rec lsn r ∷ []) (entries.Rec (suc lsn) q ∷ said_entries said)) (done_one g (suc lsn) q said xs k)

pub group_empty : (h : List Entry) (lsn : ℕ) (rs : List Record) (said : Option Said) (xs : List LoserState) → length rs < 1 → Each (IsDone h) xs → Each (IsDone (h ++ group_entries lsn rs said)) xs
group_empty h lsn [] said xs none k = done_none h lsn said xs k
group_empty h lsn (r ∷ rs) said xs none k = absurd (omega (arith, none))

pub group_one : (h : List Entry) (lsn : ℕ) (rs : List Record) (r d : Record) (said : Option Said) (xs : List LoserState) → 1 ≤ length rs → length rs < 2 → r ≡ slice_index_or rs 0 d → Each (IsDone (h ++ entries.Rec lsn r ∷ [])) xs → Each (IsDone (h ++ group_entries lsn rs said)) xs
group_one h lsn [] r d said xs some few is k = absurd (omega (arith, some))
group_one h lsn (q ∷ []) r d said xs some few is k = done_one h lsn q said xs (subst (λ (x : Record). Each (IsDone (h ++ entries.Rec lsn x ∷ [])) xs) is k)
group_one h lsn (q ∷ p ∷ rs) r d said xs some few is k = absurd (omega (arith, few))

pub group_two : (h : List Entry) (lsn : ℕ) (rs : List Record) (r q d e : Record) (said : Option Said) (xs : List LoserState) → 2 ≤ length rs → length rs < 3 → r ≡ slice_index_or rs 0 d → q ≡ slice_index_or rs 1 e
    → Each (IsDone ((h ++ entries.Rec lsn r ∷ []) ++ entries.Rec (suc lsn) q ∷ [])) xs → Each (IsDone (h ++ group_entries lsn rs said)) xs
group_two h lsn [] r q d e said xs some few is is' k = absurd (omega (arith, some))
group_two h lsn (x ∷ []) r q d e said xs some few is is' k = absurd (omega (arith, some))
group_two h lsn (x ∷ y ∷ []) r q d e said xs some few is is' k =
    done_two h lsn x y said xs (subst (λ (z : Record × Record). Each (IsDone ((h ++ entries.Rec lsn z.0 ∷ []) ++ entries.Rec (suc lsn) z.1 ∷ [])) xs) (λ i. (is i, is' i)) k)
group_two h lsn (x ∷ y ∷ z ∷ rs) r q d e said xs some few is is' k = absurd (omega (arith, few))

-- ---- what the journal keeps

module _ (opens : List Record → Type 0) (h h' : List Entry) (xs xs' : List LoserState) (k : HasLosers opens h xs) where
  pub losers_same : h' ≡ h → HasLosers opens h' xs
  losers_same now opening stands = subst (λ (l : List Entry). AreLosers opening l xs) (sym now) (k opening stands)

  -- an entry that is no record
  pub losers_entry : (e : Entry) → h' ≡ h ++ e ∷ [] → log_of (e ∷ []) ≡ [] → ((t : ℕ) → touches t e ≡ false) → HasLosers opens h' xs
  losers_entry e now none apart opening stands = subst (λ (l : List Entry). AreLosers opening l xs) (sym now) (record { txs = (k opening stands).txs; done = all_calm h e xs none apart (k opening stands).done })

  pub losers_group : (lsn : ℕ) (recs : List Record) (said : Option Said) → h' ≡ h ++ group_entries lsn recs said → txs_of xs' ≡ txs_of xs → (Each (IsDone h) xs → Each (IsDone (h ++ group_entries lsn recs said)) xs') → HasLosers opens h' xs'
  losers_group lsn recs said now same more opening stands = subst (λ (l : List Entry). AreLosers opening l xs') (sym now) (record { txs = same ∙ (k opening stands).txs; done = more (k opening stands).done })

  pub losers_end : (lsn place tx prev : ℕ) → h' ≡ h ++ entries.Rec lsn (kinds.End (record { tx = tx; prev = prev })) ∷ [] → xs' ≡ map (ended_at tx place) xs → place ≡ suc (length h) → HasLosers opens h' xs'
  losers_end lsn place tx prev now is at opening stands =
      subst (λ (z : List Entry × List LoserState). AreLosers opening z.0 z.1) (λ i. (sym now i, sym is i)) (record { txs = ended_txs tx place xs ∙ (k opening stands).txs; done = all_ended h lsn place tx prev xs at (k opening stands).done })

  -- the commit of a live transaction
  pub losers_commit : (g : List Entry) (lsn tx prev : ℕ) → g ≡ h → IsConsistent opens g → phase g tx ≡ Live → h' ≡ g ++ commit_entry lsn tx prev ∷ [] → HasLosers opens h' xs
  losers_commit g lsn tx prev same c live now opening stands =
      let before = losers_is opening stands g same in
      let apart = (ways opening g).live (opening_lawful opens g c opening stands) (c.legal opening stands) tx live in
      subst (λ (l : List Entry). AreLosers opening l xs) (sym now) (record { txs = before.txs; done = all_committed g lsn tx prev xs (each_apart opening g xs tx before apart) before.done })
    where
      losers_is : (opening : List Record) → opens opening → (g : List Entry) → g ≡ h → AreLosers opening g xs
      losers_is opening stands g same = subst (λ (l : List Entry). AreLosers opening l xs) (sym same) (k opening stands)

pub losers_begun : (opens : List Record → Type 0) (h h' : List Entry) (xs : List LoserState) (session : ℕ) (result : Result ℕ Fault) → HasLosers opens h xs → h' ≡ h ++ begun session result → HasLosers opens h' xs
losers_begun opens h h' xs session (Ok tx) k now = losers_entry opens h h' xs xs k (entries.Began session tx) now refl (λ t. refl)
losers_begun opens h h' xs session (Err fault) k now = losers_same opens h h' xs xs k (now ∙ append-nil h)

pub losers_start : (opens : List Record → Type 0) (h : List Entry) (xs : List LoserState) → h ≡ [] → ((opening : List Record) → opens opening → xs ≡ map untouched (losers opening)) → HasLosers opens h xs
losers_start opens h xs none is opening stands =
    subst (λ (z : List Entry × List LoserState). AreLosers opening z.0 z.1) (λ i. (sym none i, sym (is opening stands) i)) (record { txs = start_txs (losers opening); done = none_done (losers opening) })

-- ---- the first of them

pub found_before : (p : LoserState → Bool) (xs : List LoserState) → find p (take 0 xs) ≡ None
found_before p [] = refl
found_before p (x ∷ xs) = refl

pub first_at : (p : ℕ → Bool) (xs : List LoserState) (i : ℕ) (d : LoserState) → find (λ (x : LoserState). p x.tx) (take i xs) ≡ None → i < length xs → p (slice_index_or xs i d).tx ≡ true → Some (slice_index_or xs i d).tx ≡ find p (txs_of xs)
first_at p xs i d none lt is = ap (option_map (λ (x : LoserState). x.tx)) (found_at (λ (x : LoserState). p x.tx) i xs d none lt is) ∙ found_tx p xs

pub first_none : (p : ℕ → Bool) (xs : List LoserState) (i : ℕ) → find (λ (x : LoserState). p x.tx) (take i xs) ≡ None → length xs ≤ i → None ≡ find p (txs_of xs)
first_none p xs i none le = sym (ap (option_map (λ (x : LoserState). x.tx)) (sym (ap (find (λ (x : LoserState). p x.tx)) (taken_all i xs le)) ∙ none)) ∙ found_tx p xs

-- ---- those that are left

pub left_told : (opens : List Record → Type 0) (h g : List Entry) (xs : List LoserState) → HasLosers opens h xs → h ≡ g → (opening : List Record) → opens opening → map (λ (x : LoserState). x.tx) (filter is_left xs) ≡ losers_left opening g
left_told opens h g xs k same opening stands = left_are opening h xs (k opening stands) ∙ ap (losers_left opening) same
