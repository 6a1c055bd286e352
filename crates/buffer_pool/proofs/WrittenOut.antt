-- What is entered of a page that is written out, by what its frame was and is.
use Rattle.std.proofs.Common.{◌≡◌, ℕ, List, [], ◌∷◌, Bool, true, false, refl, sym, ap, subst, ◌∙◌}
use Rattle.std.specs.Prelude.{Ok, if◌then◌else◌}
use Rattle.wal_record.specs.declared.record.Record.{Record}
use Rattle.wal_record.specs.declared.entry.Entry.{Entry}
use Rattle.wal_record.specs.declared.entry.Entry.TheVariants as entries
use Rattle.page_ops.specs.Gains.{Gains}
use Rattle.page_ops.specs.Hands.{Hand}
use Rattle.page_ops.specs.Names.{LedgerName}
use Rattle.page_ops.specs.Seeing.{Known}
use Rattle.buffer_pool.specs.Tables.{IsDropped, IsStored, Table, frame_of, is_dirty, is_full}
use Rattle.buffer_pool.specs.Writes.{EntersWritten, WritesOut, written_of, written_out}
use Rattle.buffer_pool.specs.declared.frame.Frame.{Frame}
use Rattle.buffer_pool.specs.declared.frame.Frame.TheVariants.{Empty, Kept, Full}

clean_out : (page at : ℕ) (f g : Frame Hand) → is_dirty f ≡ false → written_out page at f g ≡ []
clean_out page at (Full h) (Full k) clean = ap (λ (b : Bool). if b then entries.Rec at (written_of page h.lsn) ∷ [] else []) clean
clean_out page at (Full h) Kept clean = refl
clean_out page at (Full h) Empty clean = refl
clean_out page at Kept g clean = refl
clean_out page at Empty g clean = refl

module _ (opens : List Record → Type 0) (ledger sessions : LedgerName) (page : ℕ) (x : Unit {0}) (old new : Known) where
  abbrev Enters : List Entry → Type 0
  Enters es = Gains opens ledger sessions es old new

  -- a page that wasn't dirty
  pub clean_writes : (t t' : Table) → is_dirty (frame_of t page) ≡ false → Enters [] → WritesOut {T = Unit {0}} opens ledger sessions page (Ok x) t t' old new
  clean_writes t t' clean g = (0, subst Enters (sym (clean_out page 0 (frame_of t page) (frame_of t' page) clean)) g)

  module _ (h : Hand) (t t' : Table) (whose : h.page ≡ page) (dirty : h.dirty ≡ true) where
    -- one that is written
    pub stored_writes : IsStored page h t t' → EntersWritten opens ledger sessions h.page h.lsn (Ok true) old new → WritesOut {T = Unit {0}} opens ledger sessions page (Ok x) t t' old new
    stored_writes s e =
        let one : entries.Rec e.at (written_of h.page h.lsn) ∷ [] ≡ written_out page e.at (Full h) (Full (record h { dirty = false })) =
        (λ i. entries.Rec e.at (written_of (whose i) h.lsn) ∷ []) ∙ ap (λ (b : Bool). if b then entries.Rec e.at (written_of page h.lsn) ∷ [] else []) (sym dirty) in
        (e.at, subst Enters (one ∙ (λ i. written_out page e.at (sym s.was i) (sym s.frame.frame i))) e.gains)

    -- one that is dropped
    pub dropped_writes : IsDropped page h t t' → EntersWritten opens ledger sessions h.page h.lsn (Ok false) old new → WritesOut {T = Unit {0}} opens ledger sessions page (Ok x) t t' old new
    dropped_writes s e = (0, subst Enters (λ i. written_out page 0 (sym s.was i) (sym s.frame.frame i)) e.gains)

-- a page that is written stays in its frame
pub stored_full : (page : ℕ) (h : Hand) (t t' : Table) → IsStored page h t t' → is_full (frame_of t' page) ≡ is_full (frame_of t page)
stored_full page h t t' s = ap is_full s.frame.frame ∙ sym (ap is_full s.was)
