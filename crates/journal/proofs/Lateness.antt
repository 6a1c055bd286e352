-- Who comes late.
use Rattle.std.proofs.Common.{◌≡◌, ℕ, zero, suc, ◌<◌, ◌≤◌, List, [], ◌∷◌, length, take, Some, None, Bool, true, false, refl, sym, ap, ◌∙◌, subst, inl, inr, arith, slice_index_or}
use Rattle.std.specs.Prelude.{◌||◌, IsTrue}
use Rattle.std.specs.List.{find, list_any}
use Rattle.front.proofs.Keeping.{prefix_trans}
use mathlib.Core.List.{IsPrefix}
use Rattle.log_index.specs.Listing.{IsListingOf}
use Rattle.log_manager.specs.Managed.{Managed}
use Rattle.media.specs.Kept.{Kept}
use Rattle.page_ops.specs.Seeing.{IsConsistent}
use Rattle.wal_record.specs.Legal.{IsLegal}
use Rattle.log_index.specs.declared.listing.Listing.{Listing}
use Rattle.log_laws.proofs.Beginnings.{beginning}
use Rattle.loser_laws.specs.Losers.{touches}
use Rattle.loser_laws.proofs.Lateness.{ended, undone}
use Rattle.loser_laws.proofs.Tables.{each_loser, found_done, found_loser, found_none, touch_end, touch_undo}
use Rattle.losers.specs.Losers.{is_of}
use Rattle.losers.specs.declared.losers.LoserState.{LoserState}
use Rattle.page_ops.specs.Asking.{IsForestalled, IsLate, IsTimely, WasTimely, can_be_late, last_place}
use Rattle.page_ops.specs.Groups.{Each}
use Rattle.store_model.proofs.Bools.{not_both}
use Rattle.wal_record.specs.Chains.{finishes}
use Rattle.wal_record.specs.Checkpoints.{last_open}
use Rattle.wal_record.specs.History.{life_log, log_of}
use Rattle.wal_record.specs.OpenWrites.{is_loser, open_list}
use Rattle.wal_record.specs.Sound.{AreLawful}
use Rattle.wal_record.specs.declared.entry.Entry.{Entry}
use Rattle.wal_record.specs.declared.record.End.{End}
use Rattle.wal_record.specs.declared.record.Undo.{Undo}
use Rattle.wal_record.specs.declared.record.Record.{Record}
use Rattle.wal_record.specs.declared.record.Record.TheVariants as kinds
use Rattle.journal.specs.Kept.{AreRecords}
use Rattle.journal.specs.Losers.{HasLosers, Tells}
use Rattle.journal.specs.Restored.{AreRestored, Places}
use Rattle.journal.proofs.Restoring.{each_all, each_at, each_more}

-- ---- a loser

module _ (opening : List Record) (h : List Entry) (s : Listing) (places : Places) (xs : List LoserState) (k : Tells opening h s places xs) where
  sound : AreLawful opening
  sound = (beginning opening (log_of h)).lawful k.lawful

  unknown : (tx : ℕ) → None ≡ find (is_of tx) xs → is_loser opening tx ≡ false
  unknown tx none = found_none opening h xs tx sound k.losers (sym none)

  known_loser : (tx : ℕ) (x : LoserState) → Some x ≡ find (is_of tx) xs → is_loser opening tx ≡ true
  known_loser tx x found = found_loser opening tx xs x (each_loser opening h xs k.losers) (sym found)

  place_of : (tx : ℕ) (x : LoserState) → Some x ≡ find (is_of tx) xs → x.place ≡ last_place (touches tx) h
  place_of tx x found = let one = found_done h tx xs x k.losers.done (sym found) in one.0.place ∙ ap (λ (t : ℕ). last_place (touches t) h) one.1

  pub no_loser_undone : (u : Undo) → None ≡ find (is_of u.tx) xs → IsTimely opening h (kinds.Undo u)
  no_loser_undone u none loser = absurd (not_both (is_loser opening u.tx) loser (unknown u.tx none))

  pub still_timely : (u : Undo) (n : ℕ) → n ≡ last_open (open_list (life_log opening h) u.tx) → u.undo_next < n → WasTimely opening h (kinds.Undo u) → IsTimely opening h (kinds.Undo u)
  still_timely u n is above was loser = (undone opening h u).timely k.lawful k.legal loser was (omega (arith, is, above))

  pub undone_late : (u : Undo) (n : ℕ) (x : LoserState) → Some x ≡ find (is_of u.tx) xs → n ≡ last_open (open_list (life_log opening h) u.tx) → n ≤ u.undo_next → IsForestalled opening h x.place (kinds.Undo u)
  undone_late u n x found is low = record {
    late = λ timely. let above = (undone opening h u).late k.lawful (timely (known_loser u.tx x found)) in absurd (omega (arith, above, is, low));
    first = place_of u.tx x found ∙ sym (ap (λ (f : Entry → Bool). last_place f h) (λ i e. touch_undo u e i));
  }

  pub no_loser_ended : (x : End) → None ≡ find (is_of x.tx) xs → IsTimely opening h (kinds.End x)
  no_loser_ended x none loser = absurd (not_both (is_loser opening x.tx) loser (unknown x.tx none))

  pub not_ended : (e : End) (x : LoserState) → Some x ≡ find (is_of e.tx) xs → x.over ≡ false → IsTimely opening h (kinds.End e)
  not_ended e x found left loser =
      let one = found_done h e.tx xs x k.losers.done (sym found) in
      (ended opening h e.tx).ended sound loser ∙ ap (λ (t : ℕ). list_any (finishes t) (log_of h)) (sym one.1) ∙ sym one.0.over ∙ left

  pub ended_late : (e : End) (x : LoserState) → Some x ≡ find (is_of e.tx) xs → x.over ≡ true → IsForestalled opening h x.place (kinds.End e)
  ended_late e x found over =
      let one = found_done h e.tx xs x k.losers.done (sym found) in
      record {
        late = λ timely. not_both (list_any (finishes e.tx) (life_log opening h))
            ((ended opening h e.tx).ended sound (known_loser e.tx x found) ∙ ap (λ (t : ℕ). list_any (finishes t) (log_of h)) (sym one.1) ∙ sym one.0.over ∙ over)
            (timely (known_loser e.tx x found));
        first = place_of e.tx x found ∙ sym (ap (λ (f : Entry → Bool). last_place f h) (λ i y. touch_end e y i));
      }

-- what the journal keeps tells it
pub known_tells : {D : Type 0} {tells : Type 0} {told : D → Kept} {may_leave : D → Kept → Type 0} (opens : List Record → Type 0) (h g : List Entry) (m : Managed D) (s s' : Listing) (places : Places) (xs : List LoserState) → h ≡ g → IsConsistent opens g
    → AreRecords opens tells told may_leave h m s → AreRestored h places → HasLosers opens h xs → s' ≡ s → (opening : List Record) → opens opening → Tells opening h s' places xs
known_tells opens h g m s s' places xs same c records restored losers is opening stands = record {
  lawful = (records opening stands).lawful;
  legal = subst (IsLegal opening) (sym same) (c.legal opening stands);
  listing = subst (IsListingOf (life_log opening h)) (sym is) (records opening stands).listing;
  restored = restored;
  losers = losers opening stands;
}

-- ---- records of a group

-- these records of a group come in time, where each did at an earlier moment
abbrev pub AreTimely : Listing → Places → List LoserState → List Record → List Record → Type 0
AreTimely s places xs all rs = (opening : List Record) (h : List Entry) → Tells opening h s places xs → Each (WasTimely opening h) all → Each (IsTimely opening h) rs

pub timely_none : (s : Listing) (places : Places) (xs : List LoserState) (rs : List Record) → AreTimely s places xs rs (take 0 rs)
timely_none s places xs [] opening h k was = tt
timely_none s places xs (r ∷ rs) opening h k was = tt

pub timely_more : (s : Listing) (places : Places) (xs : List LoserState) (i m : ℕ) (rs : List Record) (d : Record) → AreTimely s places xs rs (take i rs) → m ≡ suc i → i < length rs
    → ((opening : List Record) (h : List Entry) → Tells opening h s places xs → WasTimely opening h (slice_index_or rs i d) → IsTimely opening h (slice_index_or rs i d)) → AreTimely s places xs rs (take m rs)
timely_more s places xs i m rs d before next lt one opening h k was =
    subst (λ (n : ℕ). Each (IsTimely opening h) (take n rs)) (sym next) (each_more (IsTimely opening h) i rs d (before opening h k was) lt (one opening h k (each_at (WasTimely opening h) i rs d lt was)))

pub timely_all : (s : Listing) (places : Places) (xs : List LoserState) (i : ℕ) (rs : List Record) → AreTimely s places xs rs (take i rs) → length rs ≤ i → AreTimely s places xs rs rs
timely_all s places xs i rs before le opening h k was = each_all (IsTimely opening h) i rs (before opening h k was) le

pub late_at : (opening : List Record) (h : List Entry) (place i : ℕ) (rs : List Record) (d : Record) → i < length rs → IsForestalled opening h place (slice_index_or rs i d) → IsLate opening h place rs
late_at opening h place i [] d lt late = absurd (omega (arith, lt))
late_at opening h place zero (r ∷ rs) d lt late = inl late
late_at opening h place (suc i) (r ∷ rs) d lt late = inr (late_at opening h place i rs d (omega (arith, lt)) late)

either : (a b : Bool) → b ≡ true → (a || b) ≡ true
either true b e = refl
either false b e = e

first : (a b : Bool) → a ≡ true → (a || b) ≡ true
first a b e = ap (λ (c : Bool). c || b) e

pub one_can : (i : ℕ) (rs : List Record) (d : Record) → i < length rs → can_be_late (slice_index_or rs i d) ≡ true → IsTrue (list_any can_be_late rs)
one_can i [] d lt is = absurd (omega (arith, lt))
one_can zero (r ∷ rs) d lt is = first (can_be_late r) (list_any can_be_late rs) is
one_can (suc i) (r ∷ rs) d lt is = either (can_be_late r) (list_any can_be_late rs) (one_can i rs d (omega (arith, lt)) is)

-- what was timely at an earlier moment was so at one before this one
pub was_timely : (opening : List Record) (seen h : List Entry) (rs : List Record) → IsPrefix seen h → Each (WasTimely opening seen) rs → Each (WasTimely opening h) rs
was_timely opening seen h [] goes was = tt
was_timely opening seen h (r ∷ rs) goes was = ((was.0.0, prefix_trans was.0.0 seen h was.0.1 goes, was.0.2), was_timely opening seen h rs goes was.1)
