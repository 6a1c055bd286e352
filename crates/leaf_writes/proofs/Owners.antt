-- A group of a change leaves the transaction of its session as it was.
use Rattle.std.proofs.Common.{◌≡◌, ℕ, suc, cond, List, [], ◌∷◌, ◌++◌, Option, Some, None, Result, Ok, Err, Bool, true, false, refl, sym, ap, ◌∙◌, append-nil, append_assoc}
use Rattle.std.specs.Prelude.{IfSome}
use Rattle.std.specs.List.{list_all}
use Rattle.std.specs.Option.{option_map}
use Rattle.books.specs.Rights.{SessionClaim}
use Rattle.store_model.proofs.Bools.{both_true, and_true}
use Rattle.store_model.specs.declared.fault.Fault.{Fault}
use Rattle.store_model.specs.declared.fault.Fault.TheVariants as faults
use Rattle.wal_record.specs.Books.{session_transaction, unless_over}
use Rattle.wal_record.specs.History.{Phase, is_over, last_begun, phase, phase_step, session_step}
use Rattle.wal_record.specs.declared.record.Record.{Record}
use Rattle.wal_record.specs.declared.record.Record.TheVariants as kinds
use Rattle.wal_record.specs.declared.entry.Entry.{Entry}
use Rattle.wal_record.specs.declared.entry.Entry.TheVariants.{Rec, Acked, Began}
use Rattle.wal_record.proofs.Pushes.{last_begun_push, phase_push}
use Rattle.page_ops.specs.Claims.{Claims, SessionAgrees}
use Rattle.page_ops.specs.Groups.{AreFilled, AreFilledFrom, Numbers, filled, record_entries, said_entries}
use Rattle.page_ops.specs.Names.{LedgerName}
use Rattle.page_ops.specs.Outcomes.{KeepsRights, OnEntered, answered}
use Rattle.page_ops.specs.Seeing.{Enters, Known}
use Rattle.page_ops.specs.declared.group.Group.{Group}
use Rattle.page_ops.specs.declared.group.Said.{Said}
use Rattle.page_ops.specs.declared.outcome.Entered.{Entered}
use Rattle.page_ops.specs.declared.outcome.Entered.TheVariants.{At, NoRoom, Late}
use Rattle.leaf_writes.specs.Changes.{record_by}
use Rattle.leaf_writes.specs.Owners.{KeepsOwner, UnlessTold}
use Rattle.leaf_writes.specs.declared.change.How.{How}
use Rattle.leaf_writes.specs.declared.change.How.TheVariants as hows

-- ---- entries by which no transaction begins or ends

abbrev pub is_quiet : Record → Bool
is_quiet (kinds.Commit c) = false
is_quiet (kinds.End e) = false
is_quiet _ = true

abbrev pub leaves : Entry → Bool
leaves (Began session tx) = false
leaves (Acked session tx) = false
leaves (Rec lsn r) = is_quiet r
leaves _ = true

same_begun : (s : ℕ) (b : Option ℕ) (e : Entry) → leaves e ≡ true → session_step s b e ≡ b
same_begun s b (Began session tx) calm = absurd (cc calm)
same_begun s b _ calm = refl

same_phase : (t : ℕ) (p : Phase) (e : Entry) → leaves e ≡ true → phase_step t p e ≡ p
same_phase t p (Began session tx) calm = absurd (cc calm)
same_phase t p (Acked session tx) calm = absurd (cc calm)
same_phase t p (Rec lsn (kinds.Commit c)) calm = absurd (cc calm)
same_phase t p (Rec lsn (kinds.End e)) calm = absurd (cc calm)
same_phase t p _ calm = refl

same_unless : (h : List Entry) (e : Entry) (b : Option ℕ) → leaves e ≡ true → unless_over (h ++ e ∷ []) b ≡ unless_over h b
same_unless h e None calm = refl
same_unless h e (Some t) calm = ap (λ (p : Phase). cond (is_over p) 0 t) (phase_push h e t ∙ same_phase t (phase h t) e calm)

one_more : (h : List Entry) (e : Entry) (s : ℕ) → leaves e ≡ true → session_transaction (h ++ e ∷ []) s ≡ session_transaction h s
one_more h e s calm = ap (unless_over (h ++ e ∷ [])) (last_begun_push h e s ∙ same_begun s (last_begun h s) e calm) ∙ same_unless h e (last_begun h s) calm

pub transaction_stays : (es h : List Entry) (s : ℕ) → list_all leaves es ≡ true → session_transaction (h ++ es) s ≡ session_transaction h s
transaction_stays [] h s calm = ap (λ (l : List Entry). session_transaction l s) (append-nil h)
transaction_stays (e ∷ es) h s calm =
    let both = both_true (leaves e) (list_all leaves es) calm in
    ap (λ (l : List Entry). session_transaction l s) (sym (append_assoc h (e ∷ []) es)) ∙ transaction_stays es (h ++ e ∷ []) s both.1 ∙ one_more h e s both.0

-- ---- those of a change

quiet_filled : (made : Option ℕ) (n : Numbers) (r : Record) → is_quiet (filled made n r) ≡ is_quiet r
quiet_filled made n (kinds.Write w) = refl
quiet_filled made n (kinds.Apply a) = refl
quiet_filled made n (kinds.Undo u) = refl
quiet_filled made n (kinds.End e) = refl
quiet_filled made n (kinds.Split s) = refl
quiet_filled made n (kinds.Adopt a) = refl
quiet_filled made n (kinds.Grow g) = refl
quiet_filled made n (kinds.Purge g) = refl
quiet_filled made n (kinds.Checkpoint c) = refl
quiet_filled made n (kinds.Lost l) = refl
quiet_filled made n _ = refl

leave_records : (lsn : ℕ) (made : Option ℕ) (new : ℕ) (rs xs : List Record) → AreFilledFrom made new rs xs → list_all is_quiet rs ≡ true → list_all leaves (record_entries lsn xs) ≡ true
leave_records lsn made new [] [] f calm = refl
leave_records lsn made new [] (x ∷ xs) f calm = absurd f
leave_records lsn made new (r ∷ rs) [] f calm = absurd f
leave_records lsn made new (r ∷ rs) (x ∷ xs) f calm =
    let both = both_true (is_quiet r) (list_all is_quiet rs) calm in
    and_true (is_quiet x) (list_all leaves (record_entries (suc lsn) xs)) (ap is_quiet f.0.2 ∙ quiet_filled made f.0.0 r ∙ both.0) (leave_records (suc lsn) made new rs xs f.1 both.1)

leave_both : (es fs : List Entry) → list_all leaves es ≡ true → list_all leaves fs ≡ true → list_all leaves (es ++ fs) ≡ true
leave_both [] fs x y = y
leave_both (e ∷ es) fs x y = let both = both_true (leaves e) (list_all leaves es) x in and_true (leaves e) (list_all leaves (es ++ fs)) both.0 (leave_both es fs both.1 y)

leave_said : (s : Option Said) → list_all leaves (said_entries s) ≡ true
leave_said None = refl
leave_said (Some s) = refl

pub leave_answered : (child : ℕ) (g now : Group) (result : Result Entered Fault) → list_all is_quiet g.recs ≡ true → OnEntered result (AreFilled child g.recs now.recs) → list_all leaves (answered now.lsn now.recs g.said result) ≡ true
leave_answered child g now (Ok (At pos)) calm f = leave_both (record_entries now.lsn now.recs) (said_entries g.said) (leave_records now.lsn _ child g.recs now.recs f calm) (leave_said g.said)
leave_answered child g now (Ok NoRoom) calm f = refl
leave_answered child g now (Ok (Late pos)) calm f = refl
leave_answered child g now (Err (faults.Full p q at)) calm f = by g.said
  where
    by : (s : Option Said) → list_all leaves (answered now.lsn now.recs s (Err (faults.Full p q at))) ≡ true
    by None = refl
    by (Some s) = refl
leave_answered child g now (Err _) calm f = refl

pub quiet_change : (how : How) (tx page : ℕ) (key : List ℕ) (new : Option (List ℕ)) → is_quiet (record_by how tx page key new) ≡ true
quiet_change (hows.Write old) tx page key new = refl
quiet_change (hows.Apply old operator argument) tx page key new = refl
quiet_change (hows.Undo undo_next) tx page key new = refl

-- ---- the right

same_right : (result : Result Entered Fault) (x y : Claims) → KeepsRights result x y → UnlessTold result (y.s ≡ x.s)
same_right (Ok (At pos)) x y keeps = tt
same_right (Ok NoRoom) x y keeps = ap (λ (w : Claims). w.s) keeps
same_right (Ok (Late pos)) x y keeps = ap (λ (w : Claims). w.s) keeps
same_right (Err (faults.Full p q at)) x y keeps = tt
same_right (Err _) x y keeps = ap (λ (w : Claims). w.s) keeps

pub keeps_owner : (opens : List Record → Type 0) (ledger sessions : LedgerName) (es : List Entry) (old new : Known) (result : Result Entered Fault) → Enters opens ledger sessions old es new → list_all leaves es ≡ true
    → option_map (λ (s : SessionClaim). s.session) new.claims.s ≡ option_map (λ (s : SessionClaim). s.session) old.claims.s → KeepsRights result old.claims new.claims → KeepsOwner result old.claims.s new.claims.s
keeps_owner opens ledger sessions es old new result e calm holds keeps =
    record { session = holds; tx = by old.claims.s new.claims.s e.found.rights.s e.now.rights.s holds; same = same_right result old.claims new.claims keeps }
  where
    by : (o o' : Option SessionClaim) → IfSome o (SessionAgrees e.moment) → IfSome o' (SessionAgrees new.log) → option_map (λ (s : SessionClaim). s.session) o' ≡ option_map (λ (s : SessionClaim). s.session) o
        → option_map (λ (s : SessionClaim). s.tx) o' ≡ option_map (λ (s : SessionClaim). s.tx) o
    by None None before now same = refl
    by None (Some s') before now same = absurd (cc same)
    by (Some s) None before now same = absurd (cc same)
    by (Some s) (Some s') before now same =
        let is : s'.session ≡ s.session = cc same in
        ap (λ (t : ℕ). Some t) (now.tx ∙ (λ i. session_transaction (e.is i) (is i)) ∙ transaction_stays es e.moment s.session calm ∙ sym before.tx)

-- where the change wasn't asked for
pub keeps_same : (result : Result Entered Fault) (o : Option SessionClaim) → KeepsOwner result o o
keeps_same result o = record { session = refl; tx = refl; same = by result }
  where
    by : (result : Result Entered Fault) → UnlessTold result (o ≡ o)
    by (Ok (At pos)) = tt
    by (Ok NoRoom) = refl
    by (Ok (Late pos)) = refl
    by (Err (faults.Full p q at)) = tt
    by (Err _) = refl
