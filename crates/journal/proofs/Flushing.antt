-- A flush, as the journal keeps it.
use Rattle.std.proofs.Common.{◌≡◌, ℕ, ◌≤◌, List, Option, None, Bool, sym, ap, ◌∙◌, subst}
use Rattle.std.specs.Prelude.{◌⊎◌, is_some}
use Rattle.log_blocks.specs.LogState.{durable_lsn}
use Rattle.log_index.specs.declared.listing.Listing.{Listing}
use Rattle.log_manager.specs.Managed.{Managed}
use Rattle.media.specs.Kept.{Kept}
use Rattle.range_lock.specs.declared.range_locks.RangeLocks.{RangeLocks}
use Rattle.wal_record.specs.declared.record.Record.{Record}
use Rattle.wal_record.specs.declared.entry.Entry.{Entry}
use Rattle.listed_log.specs.Listed.{IsLogWith}
use Rattle.journal.specs.Kept.{EndsByFault, IsKept}
use Rattle.journal.proofs.Living.{life_flush}

pub kept_flush : {D : Type 0} (opens : List Record → Type 0) (tells : Type 0) (told : D → Kept) (may_leave : D → Kept → Type 0) (h h' : List Entry) (m m' : Managed D) (s s' : Listing) (t : RangeLocks) (mark mark' durable faults faults' : ℕ)
    → IsKept opens tells told may_leave h m s t mark faults → h' ≡ h → m.log.ended ≡ None → ((goes : ℕ → Bool) (rs : List Record) → IsLogWith tells told may_leave goes rs m s → IsLogWith tells told may_leave goes rs m' s') → m'.spare ≡ m.spare
    → ((goes : ℕ → Bool) (rs : List Record) → IsLogWith tells told may_leave goes rs m s → tells → m.log.ended ≡ None → durable_lsn m.log.places ≤ durable_lsn m'.log.places)
    → durable ≡ durable_lsn m'.log.places → (mark' ≡ mark) ⊎ (mark' ≡ durable) → EndsByFault m'.log.ended h faults' → IsKept opens tells told may_leave h' m' s' t mark' faults'
kept_flush opens tells told may_leave h h' m m' s s' t mark mark' durable faults faults' k now runs records spare rises is marked ends =
    subst (λ (l : List Entry). IsKept opens tells told may_leave l m' s' t mark' faults') (sym now) (record {
      life = life_flush opens tells told may_leave h m m' s s' t mark mark' durable k.life runs records spare rises is marked;
      ends = ends;
    })

-- the log goes on, and no fault was counted
pub ends_flushed : (was ended : Option ℕ) (h : List Entry) (faults faults' : ℕ) → EndsByFault was h faults → was ≡ None → ended ≡ None → faults' ≡ faults → EndsByFault ended h faults'
ends_flushed was ended h faults faults' k runs goes same = record {
  acknowledged = λ _. k.acknowledged runs;
  none = λ _. same ∙ k.none runs;
  one = λ over. absurd (cc (over, ap is_some goes));
}
