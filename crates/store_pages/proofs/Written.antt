-- What a page that is written adds to a life, and which pages are dirty then.
use Rattle.std.proofs.Common.{◌≡◌, ◌≢◌, ℕ, ◌<◌, ◌≤◌, List, [], ◌∷◌, ◌++◌, length, Bool, cond, Some, None, Result, Ok, Err, true, false, sym, ap, subst, ◌∙◌, arith, append-nil, append_assoc, inl, inr}
use Rattle.std.specs.List.{All}
use Rattle.std.proofs.lemmas.List.Elements.{All-append, All-cons, All-nil}
use Rattle.front.specs.Seen.{PassSeen}
use Rattle.front.proofs.Keeping.{prefix_self}
use Rattle.store_model.specs.declared.fault.Fault.{Fault}
use Rattle.wal_record.specs.declared.entry.Entry.{Entry}
use Rattle.wal_record.specs.declared.entry.Entry.TheVariants.{Rec}
use Rattle.wal_record.specs.declared.record.Record.{Record}
use Rattle.wal_record.specs.declared.record.Record.TheVariants as kinds
use Rattle.page_ops.specs.Claims.{no_claims}
use Rattle.page_ops.specs.Names.{LedgerName}
use Rattle.page_ops.specs.Seeing.{Account, Upholds, known}
use Rattle.page_ops.proofs.Gaining.{gains_of_upheld}
use Rattle.buffer_pool.specs.Tables.{IsNextDirty, Stays, Stores, Table, frame_of, is_dirty}
use Rattle.buffer_pool.specs.Writes.{WritesOut, is_written, written_of, written_out}
use Rattle.buffer_pool.specs.declared.frame.Frame.{Frame}
use Rattle.buffer_pool.specs.declared.frame.Frame.TheVariants.{Empty, Full, Kept}
use Rattle.page_ops.specs.Hands.{Hand}
use Rattle.command_laws.specs.Alone.{IsAlone}
use Rattle.command_laws.specs.Names.{Active, AreNamed}
use Rattle.command_laws.proofs.Alone.{entered, still_alone}
use Rattle.command_laws.proofs.Listed.{each_by}
use Rattle.command_laws.proofs.Living.{BeginsNone, all_weaker, still_named}
use Rattle.store_pages.specs.Pages.{IsNextWritten, IsWrittenEntry, Lacks, OthersStay, WritesPages, WritesUpto}

-- ---- what is entered

written_entry : (e : Entry) → is_written e ≡ true → IsWrittenEntry e
written_entry (Rec lsn (kinds.Written w)) is = tt
written_entry _ is = absurd (cc is)

begins_none : (e : Entry) → IsWrittenEntry e → BeginsNone e
begins_none (Rec lsn (kinds.Written w)) is = tt
begins_none _ is = absurd is

pub writes_none : (h : List Entry) → WritesPages h h
writes_none h = ([], All-nil IsWrittenEntry, sym (append-nil h))

pub writes_then : (h h' h'' : List Entry) → WritesPages h h' → WritesPages h' h'' → WritesPages h h''
writes_then h h' h'' a b = (a.0 ++ b.0, All-append IsWrittenEntry a.0 b.0 a.1 b.1, b.2 ∙ ap (λ (l : List Entry). l ++ b.0) a.2 ∙ append_assoc h a.0 b.0)

pub writes_named : (h h' : List Entry) (active : List Active) → WritesPages h h' → AreNamed h active → AreNamed h' active
writes_named h h' active w named = subst (λ (l : List Entry). AreNamed l active) (sym w.2) (still_named h w.0 active (all_weaker IsWrittenEntry BeginsNone begins_none w.0 w.1) named)

module _ (opens : List Record → Type 0) (ledger sessions : LedgerName) (a a' : Account) (t t' : PassSeen Entry) (alone : IsAlone opens ledger a t.log) (u : Upholds opens ledger sessions is_written (known a t no_claims) (known a' t' no_claims)) where
  pub writes_pages : WritesPages t.log t'.log
  writes_pages = (u.own, each_by is_written IsWrittenEntry written_entry u.own u.kinds, entered opens ledger sessions t.log u.own (known a t no_claims) (known a' t' no_claims) alone (prefix_self t.log) (gains_of_upheld is_written opens ledger sessions (known a t no_claims) (known a' t' no_claims) u))

  pub writes_alone : IsAlone opens ledger a' t'.log
  writes_alone = still_alone opens ledger sessions t.log u.own (known a t no_claims) (known a' t' no_claims) alone (prefix_self t.log) (gains_of_upheld is_written opens ledger sessions (known a t no_claims) (known a' t' no_claims) u)

-- ---- which pages are dirty

module _ (old new : Table) where
  pub stays_lacking : Stays old new → (q : ℕ) → Lacks new q → Lacks old q
  stays_lacking s q lacks = ap is_dirty (sym (s.frames q)) ∙ lacks

  module _ (page : ℕ) (clean : is_dirty (frame_of new page) ≡ false) (s : Stores page old new) where
    others : (q : ℕ) → q ≢ page → frame_of new q ≡ frame_of old q
    others q not = elim s [
      | inl same ↦ same.1.frames q
      | inr moved ↦ elim moved.1 [
        | inl stored ↦ stored.frame.frames q not
        | inr dropped ↦ dropped.frame.frames q not
      ]
    ]

    not_this : (q : ℕ) → Lacks new q → q ≢ page
    not_this q lacks is = let two : true ≡ false = sym lacks ∙ ap (λ (p : ℕ). is_dirty (frame_of new p)) is ∙ clean in cc

    pub stored_lacking : (q : ℕ) → Lacks new q → Lacks old q
    stored_lacking q lacks = ap is_dirty (sym (others q (not_this q lacks))) ∙ lacks

    pub next_written : (after : ℕ) → IsNextDirty old after (Some page) → IsNextWritten (Lacks new) after (Some page)
    next_written after next = (
      next.0,
      λ q low high lacks.
          let apart = not_this q lacks in
          let two : true ≡ false = sym (stored_lacking q lacks) ∙ next.2 q low (below q high apart) in
          cc,
    )
      where
        below : (q : ℕ) → q ≤ page → q ≢ page → q < page
        below q high apart = omega (arith, high, apart)

pub none_written : (t : Table) (after : ℕ) → IsNextDirty t after None → IsNextWritten (Lacks t) after None
none_written t after next = λ q low lacks. let two : true ≡ false = sym lacks ∙ next q low in cc

-- ---- one page

few_written : (page at : ℕ) (f f' : Frame Hand) → All IsWrittenEntry (written_out page at f f') × (length (written_out page at f f') ≤ 1)
few_written page at (Full h) (Full now) = by h.dirty
  where
    by : (b : Bool) → All IsWrittenEntry (cond b (Rec at (written_of page h.lsn) ∷ []) []) × (length (cond b (Rec at (written_of page h.lsn) ∷ []) []) ≤ 1)
    by true = (All-cons IsWrittenEntry (Rec at (written_of page h.lsn)) [] tt (All-nil IsWrittenEntry), omega arith)
    by false = (All-nil IsWrittenEntry, omega arith)
few_written page at (Full h) Kept = (All-nil IsWrittenEntry, omega arith)
few_written page at (Full h) Empty = (All-nil IsWrittenEntry, omega arith)
few_written page at Kept f' = (All-nil IsWrittenEntry, omega arith)
few_written page at Empty f' = (All-nil IsWrittenEntry, omega arith)

pub writes_one : {T : Type 0} (opens : List Record → Type 0) (ledger sessions : LedgerName) (a a' : Account) (t t' : PassSeen Entry) (page : ℕ) (old new : Table) (r : Result T Fault) → IsAlone opens ledger a t.log
    → WritesOut opens ledger sessions page r old new (known a t no_claims) (known a' t' no_claims) → WritesUpto 1 t.log t'.log
writes_one opens ledger sessions a a' t t' page old new (Ok x) alone w =
    let es = written_out page w.0 (frame_of old page) (frame_of new page) in
    let few = few_written page w.0 (frame_of old page) (frame_of new page) in
    (es, few.0, few.1, entered opens ledger sessions t.log es (known a t no_claims) (known a' t' no_claims) alone (prefix_self t.log) w.1)
writes_one opens ledger sessions a a' t t' page old new (Err f) alone w = ([], All-nil IsWrittenEntry, omega arith, entered opens ledger sessions t.log [] (known a t no_claims) (known a' t' no_claims) alone (prefix_self t.log) w)

pub upto_pages : (n : ℕ) (h h' : List Entry) → WritesUpto n h h' → WritesPages h h'
upto_pages n h h' w = (w.0, w.1, w.3)

pub upto_named : (n : ℕ) (h h' : List Entry) (active : List Active) → WritesUpto n h h' → AreNamed h active → AreNamed h' active
upto_named n h h' active w named = writes_named h h' active (upto_pages n h h' w) named

pub others_lacking : (old new : Table) (page : ℕ) → Stores page old new → OthersStay page (Lacks old) (Lacks new)
others_lacking old new page s q not lacks = ap is_dirty (by s) ∙ lacks
  where
    by : Stores page old new → frame_of new q ≡ frame_of old q
    by (inl same) = same.1.frames q
    by (inr moved) = elim moved.1 [
      | inl stored ↦ stored.frame.frames q not
      | inr dropped ↦ dropped.frame.frames q not
    ]
