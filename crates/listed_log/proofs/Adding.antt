-- A record more, and a flush: the log and its listing are of the longer list, or of the same one.
use Rattle.std.proofs.Common.{◌≡◌, ℕ, ◌+◌, List, [], ◌∷◌, ◌++◌, length, None, Bool, true, false, refl, sym, ap, ◌∙◌, subst, arith, append_assoc, append-nil, length-append, inl, inr, get_or}
use Rattle.std.specs.Prelude.{◌<◌, ◌≤◌, ◌^◌, ◌⊎◌, ◌||◌, Result, Ok, Err, OnOk, IfErr}
use Rattle.std.specs.List.{list_any}
use Rattle.std.proofs.lemmas.List.Folds.{list_any-append}
use Rattle.media.specs.Kept.{Kept}
use Rattle.log_blocks.specs.LogState.{LogState, Refused}
use Rattle.log_index.specs.GoingOn.{KnowsLast}
use Rattle.log_index.specs.Listing.{IsListingOf, noted}
use Rattle.log_index.specs.Table.{noted_step}
use Rattle.log_index.specs.declared.listing.Listing.{Listing}
use Rattle.log_index.proofs.NotedLaws.{noted_kept}
use Rattle.log_manager.specs.Managed.{Managed, HasMore}
use Rattle.log_manager.specs.Records.{IsLogOf}
use Rattle.store_model.specs.declared.fault.Fault.{Fault}
use Rattle.store_model.specs.declared.fault.Fault.TheVariants as faults
use Rattle.wal_record.specs.Chains.{finishes}
use Rattle.wal_record.specs.Checkpoints.{last_checkpoint}
use Rattle.wal_record.specs.Sound.{AreLawful}
use Rattle.wal_record.specs.declared.record.Record.{Record}
use Rattle.wal_record.proofs.Pushes.{lawful_front}
use Rattle.listed_log.specs.Listed.{HoldsEnd, IsLogWith}

neither : (a b : Bool) → (a || (b || false)) ≡ false → (a ≡ false) × (b ≡ false)
neither true b e = absurd (cc e)
neither false true e = absurd (cc e)
neither false false e = (refl, refl)

pub noted_on : (goes : ℕ → Bool) (rs : List Record) (r : Record) (lsn : ℕ) (s s' : Listing) → KnowsLast goes rs s → ((q : ℕ) → noted s' q ≡ noted_step lsn q (noted s q) r) → lsn ≡ length rs + 1 → KnowsLast goes (rs ++ r ∷ []) s'
noted_on goes rs r lsn s s' before step place t may none =
    let both = neither (list_any (finishes t) rs) (finishes t r) (sym (list_any-append (finishes t) rs (r ∷ [])) ∙ none) in
    step t ∙ ap (λ (l : ℕ). noted_step l t (noted s t) r) place ∙ (noted_kept rs r t).kept both.1 (noted s t) (before t may both.0)

-- the items of a short list
pub one_item : {A : Type 0} (xs : List A) (x : A) → 1 ≤ length xs → length xs < 2 → x ≡ get_or xs 0 x → xs ≡ x ∷ []
one_item [] x least most is = absurd (omega (arith, least))
one_item (a ∷ []) x least most is = ap (λ y. y ∷ []) (sym is)
one_item (a ∷ b ∷ xs) x least most is = absurd (omega (arith, most))

pub two_items : {A : Type 0} (xs : List A) (x y : A) → 2 ≤ length xs → length xs < 3 → x ≡ get_or xs 0 x → y ≡ get_or xs 1 y → xs ≡ x ∷ y ∷ []
two_items [] x y least most is is2 = absurd (omega (arith, least))
two_items (a ∷ []) x y least most is is2 = absurd (omega (arith, least))
two_items (a ∷ b ∷ []) x y least most is is2 = λ i. sym is i ∷ sym is2 i ∷ []
two_items (a ∷ b ∷ d ∷ xs) x y least most is is2 = absurd (omega (arith, most))

-- two records, one behind the other
pub noted_two : (goes : ℕ → Bool) (rs : List Record) (r q : Record) (lsn next : ℕ) (s s1 s2 : Listing) → KnowsLast goes rs s → ((n : ℕ) → noted s1 n ≡ noted_step lsn n (noted s n) r) → ((n : ℕ) → noted s2 n ≡ noted_step next n (noted s1 n) q)
    → lsn ≡ length rs + 1 → next ≡ lsn + 1 → KnowsLast goes (rs ++ r ∷ q ∷ []) s2
noted_two goes rs r q lsn next s s1 s2 before one two place above =
    let both : rs ++ r ∷ q ∷ [] ≡ (rs ++ r ∷ []) ++ q ∷ [] = sym (append_assoc rs (r ∷ []) (q ∷ [])) in
    subst (λ (l : List Record). KnowsLast goes l s2) (sym both) (noted_on goes (rs ++ r ∷ []) q next s1 s2 (noted_on goes rs r lsn s s1 before one place) two (omega (arith, place, above, length-append rs (r ∷ []))))

pub listed_two : (rs : List Record) (r q : Record) (lsn next : ℕ) (s s1 s2 : Listing) → AreLawful (rs ++ r ∷ q ∷ []) → lsn ≡ length rs + 1 → next ≡ lsn + 1 → length rs < 2 ^ 62 → IsListingOf rs s
    → (IsListingOf rs s → AreLawful (rs ++ r ∷ []) → lsn ≡ length rs + 1 → length rs < 2 ^ 63 → IsListingOf (rs ++ r ∷ []) s1)
    → (IsListingOf (rs ++ r ∷ []) s1 → AreLawful ((rs ++ r ∷ []) ++ q ∷ []) → next ≡ length (rs ++ r ∷ []) + 1 → length (rs ++ r ∷ []) < 2 ^ 63 → IsListingOf ((rs ++ r ∷ []) ++ q ∷ []) s2) → IsListingOf (rs ++ r ∷ q ∷ []) s2
listed_two rs r q lsn next s s1 s2 lawful place above low k one two =
    let both : rs ++ r ∷ q ∷ [] ≡ (rs ++ r ∷ []) ++ q ∷ [] = sym (append_assoc rs (r ∷ []) (q ∷ [])) in
    let whole = subst AreLawful both lawful in
    let longer = length-append rs (r ∷ []) in
    let first = one k (lawful_front (rs ++ r ∷ []) q whole).0 place (omega (arith, low)) in
    subst (λ (l : List Record). IsListingOf l s2) (sym both) (two first whole (omega (arith, place, above, longer)) (omega (arith, low, longer)))

module _ {D : Type 0} (tells : Type 0) (told : D → Kept) (may_leave : D → Kept → Type 0) (goes : ℕ → Bool) (rs : List Record) (m : Managed D) where
  -- what is made ready changes neither
  pub readied : (s s' : Listing) → IsLogWith tells told may_leave goes rs m s → (IsListingOf rs s → IsListingOf rs s') → ((q : ℕ) → noted s' q ≡ noted s q) → IsLogWith tells told may_leave goes rs m s'
  readied s s' k same none = record { lawful = k.lawful; listing = same k.listing; noted = λ t may runs. none t ∙ k.noted t may runs; next = k.next; records = k.records }

  place_is : (s : Listing) (lsn : ℕ) → IsLogWith tells told may_leave goes rs m s → lsn ≡ m.log.next → lsn ≡ length rs + 1
  place_is s lsn k is = let n = k.next in omega (arith, is, n)

  -- records more, which the listing has noted
  pub added : (recs : List Record) (lsn : ℕ) (m' : Managed D) (s s' : Listing) → IsLogWith tells told may_leave goes rs m s → AreLawful (rs ++ recs) → lsn ≡ m.log.next
      → (lsn ≡ length rs + 1 → IsListingOf (rs ++ recs) s') → (lsn ≡ length rs + 1 → KnowsLast goes (rs ++ recs) s') → HasMore recs m.log m'.log
      → (tells → (before : ℕ) (stable waiting : List Record) → IsLogOf told may_leave m.log before stable waiting → IsLogOf told may_leave m'.log before stable (waiting ++ recs))
      → IsLogWith tells told may_leave goes (rs ++ recs) m' s'
  added recs lsn m' s s' k lawful at listing step more blocks =
      let place = place_is s lsn k at in
      let same : m'.log.ended ≡ m.log.ended = ap (λ (l : LogState D). l.ended) more.is in
      record {
        lawful = lawful;
        listing = listing place;
        noted = step place;
        next =
            let one : m'.log.next ≡ m.log.next + length recs = ap (λ (l : LogState D). l.next) more.is in
            let n = k.next in
            omega (arith, one, n, length-append rs recs);
        records = λ t runs.
            let old = k.records t (sym same ∙ runs) in
            record {
              forgotten = old.forgotten;
              stable = old.stable;
              waiting = old.waiting ++ recs;
              is =
                  ap (λ (l : List Record). l ++ recs) old.is ∙ append_assoc old.forgotten (old.stable ++ old.waiting) recs
                  ∙ ap (λ (l : List Record). old.forgotten ++ l) (append_assoc old.stable old.waiting recs);
              blocks = blocks t (last_checkpoint old.forgotten) old.stable old.waiting old.blocks;
            };
      }

  pub added_one : (r : Record) (lsn : ℕ) (m' : Managed D) (s s' : Listing) → IsLogWith tells told may_leave goes rs m s → AreLawful (rs ++ r ∷ []) → lsn ≡ m.log.next
      → (lsn ≡ length rs + 1 → IsListingOf (rs ++ r ∷ []) s') → ((q : ℕ) → noted s' q ≡ noted_step lsn q (noted s q) r) → HasMore (r ∷ []) m.log m'.log
      → (tells → (before : ℕ) (stable waiting : List Record) → IsLogOf told may_leave m.log before stable waiting → IsLogOf told may_leave m'.log before stable (waiting ++ r ∷ []))
      → IsLogWith tells told may_leave goes (rs ++ r ∷ []) m' s'
  added_one r lsn m' s s' k lawful at listing step more blocks = added (r ∷ []) lsn m' s s' k lawful at listing (λ place. noted_on goes rs r lsn s s' k.noted step place) more blocks

  kept_blocks : (m' : Managed D) → m' ≡ m → HoldsEnd told may_leave m.log rs → HoldsEnd told may_leave m'.log rs
  kept_blocks m' same old = subst (λ (x : Managed D). HoldsEnd told may_leave x.log rs) (sym same) old

  flushed_blocks : (m' : Managed D) (old : HoldsEnd told may_leave m.log rs) → ((m' ≡ m) ⊎ IsLogOf told may_leave m'.log (last_checkpoint old.forgotten) (old.stable ++ old.waiting) []) → HoldsEnd told may_leave m'.log rs
  flushed_blocks m' old (inl same) = kept_blocks m' same old
  flushed_blocks m' old (inr log) = record {
    forgotten = old.forgotten;
    stable = old.stable ++ old.waiting;
    waiting = [];
    is = old.is ∙ ap (λ (l : List Record). old.forgotten ++ l) (sym (append-nil (old.stable ++ old.waiting)));
    blocks = log;
  }

  ended_blocks : (count : D → ℕ) (m' : Managed D) (fault : Fault) → Refused ⊥ count m.log m'.log fault → (m.log.ended ≡ None → HoldsEnd told may_leave m.log rs) → m'.log.ended ≡ None → HoldsEnd told may_leave m'.log rs
  ended_blocks count m' (faults.Ended at) why old runs = subst (λ (l : LogState D). HoldsEnd told may_leave l rs) (sym why.1) (old (ap (λ (l : LogState D). l.ended) (sym why.1) ∙ runs))
  ended_blocks count m' faults.LogFault why old runs = absurd (cc (why.2, runs))
  ended_blocks count m' faults.Memory why old runs = absurd why.0
  ended_blocks count m' _ why old runs = absurd why

  pub flushed : {A : Type 0} (count : D → ℕ) (m' : Managed D) (s : Listing) (result : Result A Fault) → IsLogWith tells told may_leave goes rs m s → m'.log.next ≡ m.log.next
      → (tells → (before : ℕ) (stable waiting : List Record) → IsLogOf told may_leave m.log before stable waiting → OnOk result ((m' ≡ m) ⊎ IsLogOf told may_leave m'.log before (stable ++ waiting) []))
      → OnOk result ((m.log.ended ≡ None) × (m'.log.ended ≡ None)) → IfErr result (Refused ⊥ count m.log m'.log) → IsLogWith tells told may_leave goes rs m' s
  flushed count m' s (Ok x) k next blocks live why = record {
    lawful = k.lawful;
    listing = k.listing;
    noted = k.noted;
    next = next ∙ k.next;
    records = λ t runs. let old = k.records t live.0 in flushed_blocks m' old (blocks t (last_checkpoint old.forgotten) old.stable old.waiting old.blocks);
  }
  flushed count m' s (Err fault) k next blocks live why = record {
    lawful = k.lawful;
    listing = k.listing;
    noted = k.noted;
    next = next ∙ k.next;
    records = λ t runs. ended_blocks count m' fault why (k.records t) runs;
  }
