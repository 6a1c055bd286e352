-- The End of a session's transaction, as it is entered.
use Rattle.std.proofs.Common.{◌≡◌, ℕ, ◌-◌, ◌<◌, ◌^◌, List, [], ◌∷◌, ◌++◌, length, Option, Some, None, is_some, Bool, false, refl, sym, subst, arith}
use Rattle.life_history.specs.Kept.{end_entry}
use Rattle.listed_log.specs.Listed.{IsLogWith}
use Rattle.log_index.specs.GoingOn.{may_go_on}
use Rattle.log_index.specs.declared.listing.Listing.{Listing}
use Rattle.log_manager.specs.Managed.{Managed}
use Rattle.media.specs.Kept.{Kept}
use Rattle.page_ops.specs.Seeing.{IsConsistent}
use Rattle.wal_record.specs.History.{life_log}
use Rattle.wal_record.specs.Sound.{AreLawful}
use Rattle.wal_record.specs.declared.record.End.{End}
use Rattle.wal_record.specs.declared.record.Record.{Record}
use Rattle.wal_record.specs.declared.record.Record.TheVariants as kinds
use Rattle.wal_record.specs.declared.entry.Entry.{Entry}
use Rattle.journal.specs.Groups.{IsNext, GroupFollows}
use Rattle.journal.specs.Kept.{AreRecords}
use Rattle.journal.proofs.Grouping.{next_of}

pub goes_on : (o : Option ℕ) → is_some o ≡ false → o ≡ None
goes_on None e = refl
goes_on (Some n) e = absurd (cc e)

module _ {D : Type 0} (opens : List Record → Type 0) (tells : Type 0) (told : D → Kept) (may_leave : D → Kept → Type 0) (h0 h : List Entry) (view : h0 ≡ h) (m m1 : Managed D) (s s1 : Listing) (last lsn : ℕ) (records : AreRecords opens tells told may_leave h0 m s)
    (is : last ≡ m.log.next - 1) (low : last < 2 ^ 62) (at : lsn ≡ m.log.next) (end : End) (follows : (lsn : ℕ) → IsNext opens h lsn → GroupFollows opens h lsn (kinds.End end ∷ []) None) where
  next : IsNext opens h0 lsn
  next = next_of opens tells told may_leave h0 m s last lsn records is low at

  over_follows : GroupFollows opens h lsn (kinds.End end ∷ []) None
  over_follows = follows lsn (subst (λ (l : List Entry). IsNext opens l lsn) view next)

  pub over_consistent : (tx : ℕ) → end.tx ≡ tx → IsConsistent opens (h0 ++ end_entry lsn tx end.prev ∷ [])
  over_consistent tx same = subst (λ (z : List Entry × ℕ). IsConsistent opens (z.0 ++ end_entry lsn z.1 end.prev ∷ [])) (λ i. (sym view i, same i)) over_follows.consistent

  pub over_records : ((goes : ℕ → Bool) (rs : List Record) → IsLogWith tells told may_leave goes rs m s → AreLawful (rs ++ kinds.End end ∷ []) → length rs < 2 ^ 62 → IsLogWith tells told may_leave goes (rs ++ kinds.End end ∷ []) m1 s1)
      → (opening : List Record) → opens opening → IsLogWith tells told may_leave (may_go_on opening) (life_log opening h0 ++ kinds.End end ∷ []) m1 s1
  over_records more opening stands =
      let place = next opening stands in
      more (may_go_on opening) (life_log opening h0) (records opening stands) (subst (λ (l : List Entry). AreLawful (life_log opening l ++ kinds.End end ∷ [])) (sym view) (over_follows.lawful opening stands)) (omega (arith, place.0, place.1))
