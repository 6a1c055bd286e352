-- What is read off a log's summary.
use Rattle.std.proofs.Common.{◌≡◌, ℕ, ◌<◌, eqb, subst, ◌+◌, ◌-◌, ◌≤◌, inl, inr, zero, suc, Bool, true, false, cond, List, [], ◌∷◌, ◌++◌, map, filter, length, refl, sym, ap, ◌∙◌, arith}
use Rattle.std.specs.List.{range_with_len, fold}
use Rattle.std.proofs.lemmas.List.{map-append}
use Rattle.std.proofs.lemmas.List.Sums.{sum_by-append}
use Rattle.std.proofs.lemmas.List.Elements.{filter-append}
use Rattle.std.proofs.lemmas.List.FromFn.{length-map-range_with_len, get_or-map-range_with_len}
use Rattle.std.proofs.lemmas.Bool.{cases_eq}
use Rattle.std.specs.Prelude.{slice_index_or}
use Rattle.store_model.specs.Along.{along}
use Rattle.store_model.proofs.Bools.{false_unless}
use Rattle.wal_record.specs.Chains.{pages, greatest, last, head, names}
use Rattle.wal_record.specs.OpenWrites.{open_writes, open_list, has_items, is_loser, losers, sum_to, pending}
use Rattle.wal_record.specs.Checkpoints.{unfinished, loser, page_head, page_heads, checkpoint_of, analysis_of}
use Rattle.wal_record.specs.Sound.{AreLawful}
use Rattle.wal_record.specs.declared.analysis.PageHead.{PageHead}
use Rattle.wal_record.proofs.Along.{by_pushes}
use Rattle.wal_record.proofs.Pushes.{head_push}
use Rattle.wal_record.specs.declared.record.OpenWrite.{OpenWrite}
use Rattle.wal_record.specs.declared.record.Unfinished.{Unfinished}
use Rattle.wal_record.specs.declared.record.Record.{Record}
use Rattle.log_laws.specs.Places.{AllPlaced}
use Rattle.log_laws.proofs.Places.{places}
use Rattle.listing_laws.specs.Summary.{last_in, loser_of, analysis_in, writes_of, unfinished_in, checkpoint_in, no_entry, entry_at, writes_in, pending_in}
use Rattle.listing_laws.proofs.Named.{named, named_push, or_parts, named_in, never_written, never_backed_up}
use Rattle.listing_laws.specs.Laws.{ReadingLaw}
use Rattle.listing_laws.proofs.Listing.{listing, listing_suc, next}
use Rattle.listing_laws.proofs.Transactions.{writes_listed, none_of_zero}
use Rattle.log_laws.proofs.Central.{eqb_self, eqb_differ}
use Rattle.log_laws.proofs.Serial.{no_loser}

losers_read : (log : List Record) (ts : List ℕ) → map (loser log) ts ≡ map loser_of (map (unfinished log) ts)
losers_read log [] = refl
losers_read log (t ∷ ts) = ap (λ (ls : List _). loser log t ∷ ls) (losers_read log ts)

pub analysis : (log : List Record) → analysis_of log ≡ analysis_in (checkpoint_of log)
unfolding analysis_of checkpoint_of
analysis log = ap (λ (ls : List _). record (analysis_in (checkpoint_of log)) { losers = ls }) (losers_read log (losers log))

writes_back : (ws : List OpenWrite) → writes_of (map (λ (w : OpenWrite). w.lsn) ws) (map (λ (w : OpenWrite). w.key) ws) ≡ ws
writes_back [] = refl
writes_back (w ∷ ws) = ap (λ (rest : List OpenWrite). w ∷ rest) (writes_back ws)

losers_back : (us : List Unfinished) → map unfinished_in (map loser_of us) ≡ us
losers_back [] = refl
losers_back (u ∷ us) = λ i. record u { writes = writes_back u.writes i } ∷ losers_back us i

pub checkpoint_back : (log : List Record) → checkpoint_in (analysis_of log) ≡ checkpoint_of log
checkpoint_back log = ap checkpoint_in (analysis log) ∙ (λ i. record (checkpoint_of log) { transactions = losers_back (checkpoint_of log).transactions i })

pub page_count : (log : List Record) → length (checkpoint_of log).pages ≡ pages log
unfolding checkpoint_of
page_count log = length-map-range_with_len (page_head log) 1 (pages log)

pub found_writes : (log : List Record) → AreLawful log → (t : ℕ) → open_list log t ≡ writes_in t (checkpoint_of log).transactions
unfolding checkpoint_of
found_writes log lawful t = sym (writes_listed log lawful t)

-- ---- entries of pages

none_headed : (p : ℕ) → head [] p ≡ 0
unfolding head along
none_headed p = refl

never_headed : (p : ℕ) (log : List Record) → named log p ≡ false → head log p ≡ 0
never_headed p = by_pushes (λ (log : List Record). named log p ≡ false → head log p ≡ 0) (λ _. none_headed p)
    (λ log r before h.
    let parts = or_parts (named log p) (names p r) (sym (named_push log r p) ∙ h) in
    head_push log r p ∙ ap (λ (b : Bool). cond b (length log + 1) (head log p)) parts.1 ∙ before parts.0)

module _ (log : List Record) (lawful : AreLawful log) where
  unmade : (p : ℕ) → (1 ≤ p → p ≤ pages log → ⊥) → page_head log p ≡ no_entry
  unmade p out =
      let none : named log p ≡ false = false_unless (named log p) (λ h. let i = named_in log lawful p h in out i.0 i.1) in
      λ i. record {
        head = never_headed p log none i;
        written = never_written p log lawful none i;
        backup = (never_backed_up p log lawful none i).backup;
        backup_lsn = (never_backed_up p log lawful none i).lsn;
      }

  beyond : (hs : List PageHead) (i : ℕ) → length hs ≤ i → slice_index_or hs i no_entry ≡ no_entry
  beyond [] i h = refl
  beyond (x ∷ hs) zero h = absurd (omega (arith, h))
  beyond (x ∷ hs) (suc i) h = beyond hs i (omega (arith, h))

  entry : (p : ℕ) → page_head log p ≡ entry_at p (page_heads log)
  entry zero = unmade 0 (λ l u. omega (arith, l))
  entry (suc i) = elim (cases_eq (pages log - i) 0) [
    | inl e ↦ unmade (suc i) (λ l u. omega (arith, u, e)) ∙ sym (beyond (page_heads log) i (let n = length-map-range_with_len (page_head log) 1 (pages log) in omega (arith, e, n)))
    | inr d ↦ sym (get_or-map-range_with_len (page_head log) 1 (pages log) i (suc i) no_entry (omega (arith, d)) (omega arith))
  ]

pub found_entry : (log : List Record) → AreLawful log → (p : ℕ) → page_head log p ≡ entry_at p (checkpoint_of log).pages
unfolding checkpoint_of
found_entry log lawful p = entry log lawful p

-- ---- pending writes

pub same_length : (log : List Record) (ws : List OpenWrite) (rs : List Record) → AllPlaced log ws rs → length ws ≡ length rs
same_length log [] [] h = refl
same_length log [] (r ∷ rs) h = absurd h
same_length log (w ∷ ws) [] h = absurd h
same_length log (w ∷ ws) (r ∷ rs) h = ap (λ (n : ℕ). suc n) (same_length log ws rs h.2)

range_push : (a n : ℕ) → range_with_len a (suc n) ≡ range_with_len a n ++ (a + n) ∷ []
range_push a zero = let e : a ≡ a + 0 = omega arith in ap (λ (x : ℕ). x ∷ []) e
range_push a (suc n) = let e : a + 1 + n ≡ a + suc n = omega arith in ap (λ (l : List ℕ). a ∷ l) (range_push (a + 1) n ∙ ap (λ (x : ℕ). range_with_len (a + 1) n ++ x ∷ []) e)

module _ (P : ℕ → Bool) (f : ℕ → Unfinished) (g : ℕ → ℕ) (none : g 0 ≡ 0) (size : (t : ℕ) → cond (P t) (length (f t).writes) 0 ≡ g t) where
  last_summed : (t : ℕ) (b : Bool) → pending_in (map f (cond b (t ∷ []) [])) ≡ cond b (length (f t).writes) 0
  last_summed t true = omega arith
  last_summed t false = refl

  summed : (n : ℕ) → pending_in (listing P f 1 n) ≡ sum_to g n
  summed zero = sym none
  summed (suc n) =
      let e : 1 + n ≡ suc n = omega arith in
      ap (λ (qs : List ℕ). pending_in (map f (filter P qs))) (range_push 1 n ∙ ap (λ (x : ℕ). range_with_len 1 n ++ x ∷ []) e)
      ∙ ap (λ (qs : List ℕ). pending_in (map f qs)) (filter-append P (range_with_len 1 n) (suc n ∷ []))
      ∙ ap pending_in (map-append f (filter P (range_with_len 1 n)) (cond (P (suc n)) (suc n ∷ []) []))
      ∙ sum_by-append (λ (u : Unfinished). length u.writes) (listing P f 1 n) (map f (cond (P (suc n)) (suc n ∷ []) []))
      ∙ (λ i. summed n i + (last_summed (suc n) (P (suc n)) ∙ size (suc n)) i)

pub counted : (log : List Record) → AreLawful log → pending log ≡ pending_in (checkpoint_of log).transactions
unfolding pending checkpoint_of
counted log lawful = sym (summed (is_loser log) (unfinished log) (λ t. length (open_writes log t)) (ap length (none_of_zero log lawful)) (λ t. by t (is_loser log t) refl) (greatest log))
  where
    empty : (xs : List Record) → has_items xs ≡ false → 0 ≡ length xs
    empty [] e = refl
    empty (x ∷ xs) e = absurd cc

    by : (t : ℕ) (b : Bool) → is_loser log t ≡ b → cond b (length (open_list log t)) 0 ≡ length (open_writes log t)
    by t true e = same_length log (open_list log t) (open_writes log t) (places log t).placed
    by t false e = empty (open_writes log t) e

-- ---- last records

module _ (P : ℕ → Bool) (f : ℕ → Unfinished) (tx : (t : ℕ) → (f t).tx ≡ t) where
  abbrev last_step : ℕ → ℕ → Unfinished → ℕ
  last_step t n u = cond (eqb u.tx t) u.last n

  unlisted : (t n : ℕ) → (a k : ℕ) → t < a → fold (last_step t) n (listing P f a k) ≡ n
  unlisted t n a zero h = refl
  unlisted t n a (suc k) h = ap (fold (last_step t) n) (listing_suc P f a k) ∙ by (P a) (unlisted t n (a + 1) k (omega (arith, h)))
    where
      by : (b : Bool) → fold (last_step t) n (listing P f (a + 1) k) ≡ n → fold (last_step t) n (cond b (f a ∷ listing P f (a + 1) k) (listing P f (a + 1) k)) ≡ n
      by true rest = ap (λ (c : Bool). fold (last_step t) (cond c (f a).last n) (listing P f (a + 1) k)) (eqb_differ (f a).tx t (λ e. let x = tx a in omega (arith, e, x, h))) ∙ rest
      by false rest = rest

  listed_last : (t n : ℕ) → (a k : ℕ) → a ≤ t → t < a + k → P t ≡ true → fold (last_step t) n (listing P f a k) ≡ (f t).last
  listed_last t n a zero l u p = absurd (omega (arith, l, u))
  listed_last t n a (suc k) l u p = ap (fold (last_step t) n) (listing_suc P f a k) ∙ elim (cases_eq a t) [
    | inl e ↦ ap (λ (b : Bool). fold (last_step t) n (next b (f a) (listing P f (a + 1) k))) (ap P e ∙ p)
        ∙ ap (λ (c : Bool). fold (last_step t) (cond c (f a).last n) (listing P f (a + 1) k)) (subst (λ (q : ℕ). eqb (f a).tx q ≡ true) (tx a ∙ e) (eqb_self (f a).tx))
        ∙ unlisted t (f a).last (a + 1) k (omega (arith, e))
        ∙ ap (λ (q : ℕ). (f q).last) e
    | inr d ↦ by (λ e. d (sym (tx a) ∙ e)) (P a) (λ m. listed_last t m (a + 1) k (omega (arith, l, d)) (omega (arith, u)) p)
  ]
    where
      by : ((f a).tx ≡ t → ⊥) → (b : Bool) → ((m : ℕ) → fold (last_step t) m (listing P f (a + 1) k) ≡ (f t).last) → fold (last_step t) n (next b (f a) (listing P f (a + 1) k)) ≡ (f t).last
      by d true rest = rest (cond (eqb (f a).tx t) (f a).last n)
      by d false rest = rest n

found_last : (log : List Record) → AreLawful log → (t : ℕ) → is_loser log t ≡ true → last_in t (checkpoint_of log).transactions ≡ last log t
unfolding checkpoint_of
found_last log lawful zero h = absurd (let z = ap has_items (none_of_zero log lawful) in let x : true ≡ false = sym h ∙ z in cc)
found_last log lawful (suc t) h = elim (cases_eq (greatest log - t) 0) [
  | inl e ↦ absurd (let z = no_loser log (suc t) (omega (arith, e)) in let x : true ≡ false = sym h ∙ z in cc)
  | inr d ↦ listed_last (is_loser log) (unfinished log) (λ q. refl) (suc t) 0 1 (greatest log) (omega arith) (omega (arith, d)) h
]

pub reading : (log : List Record) → ReadingLaw log
reading log = record { analysis = analysis log; checkpoint = checkpoint_back log; pages = page_count log; entry = found_entry log; writes = found_writes log; last = found_last log; pending = counted log }
