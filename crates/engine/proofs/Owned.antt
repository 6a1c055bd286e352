-- The session's transaction is live, as long as no commit of it was refused.
use Rattle.std.proofs.Common.{◌≡◌, ℕ, ◌+◌, Bool, true, false, cond, List, [], ◌∷◌, ◌++◌, Some, Result, Ok, Err, refl, sym, ap, subst, ◌∙◌}
use Rattle.std.specs.Prelude.{IfOk, is_ok}
use mathlib.Core.List.{IsPrefix}
use Rattle.books.specs.Rights.{SessionClaim}
use Rattle.front.specs.Seen.{PassSeen}
use Rattle.front.proofs.Keeping.{prefix_self, prefix_trans}
use Rattle.store_model.specs.Range.{Interval}
use Rattle.store_model.specs.declared.fault.Fault.{Fault}
use Rattle.store_model.specs.declared.range.Mode.{Mode}
use Rattle.store_model.specs.declared.reply.Reply.{Reply}
use Rattle.store_model.specs.declared.request.Request.{Request}
use Rattle.wal_record.specs.Books.{session_entries}
use Rattle.wal_record.specs.History.{Live, phase}
use Rattle.wal_record.specs.Legal.{IsLegal}
use Rattle.wal_record.specs.Locks.{Held}
use Rattle.wal_record.specs.Rules.{is_number}
use Rattle.wal_record.specs.declared.record.Record.{Record}
use Rattle.wal_record.specs.declared.entry.Entry.{Entry}
use Rattle.wal_record.specs.declared.entry.Entry.TheVariants as entries
use Rattle.wal_record.proofs.Pushes.{legal_front, phase_push}
use Rattle.log_laws.proofs.Central.{eqb_self}
use Rattle.page_ops.specs.Claims.{SessionAgrees, session_alone}
use Rattle.page_ops.specs.Names.{LedgerName}
use Rattle.page_ops.specs.Outcomes.{begun}
use Rattle.page_ops.specs.Seeing.{Account, Enters, IsConsistent, Known, known}
use Rattle.group_laws.proofs.Owners.{transaction}
use Rattle.group_laws.proofs.Quiet.{stays}
use Rattle.engine.specs.Answers.{HasLocked}
use Rattle.engine.specs.Sittings.{IsOwned, IsSeated}

pub owned_later : (opens : List Record → Type 0) (h h' : List Entry) (s : SessionClaim) → IsPrefix h h' → IsOwned opens h s → IsOwned opens h' s
owned_later opens h h' s longer owned some = let o = owned some in record { tx = o.tx; before = o.before; begins = prefix_trans o.before h h' o.begins longer; agrees = o.agrees; live = o.live }

-- an agreeing right to a live transaction
pub owned_now : (opens : List Record → Type 0) (h : List Entry) (s : SessionClaim) → SessionAgrees h s → ((opening : List Record) → opens opening → phase h s.tx ≡ Live) → IsOwned opens h s
owned_now opens h s agrees live some = record { tx = refl; before = h; begins = prefix_self h; agrees = agrees; live = live }

-- behind its beginning
pub owned_begun : (opens : List Record → Type 0) (ledger sessions : LedgerName) (old : Known) (a : Account) (t : PassSeen Entry) (s : SessionClaim) (session tx : ℕ) → s.tx ≡ tx → Enters opens ledger sessions old (entries.Began session tx ∷ []) (known a t (session_alone s)) → IsOwned opens t.log s
owned_begun opens ledger sessions old a t s session tx is e = owned_now opens t.log s e.now.rights.s (λ opening stands.
    ap (phase t.log) is ∙ ap (λ (h : List Entry). phase h tx) e.is ∙ phase_push e.moment (entries.Began session tx) tx ∙ ap (λ (b : Bool). cond b Live (phase e.moment tx)) (eqb_self tx))

-- behind a lock
pub locked_live : (opens : List Record → Type 0) (h : List Entry) (lock : Held) (s : SessionClaim) → HasLocked opens h lock s → (opening : List Record) → opens opening → phase h s.tx ≡ Live
locked_live opens h lock s had opening stands =
    let one : Entry = entries.Lock s.tx lock.range lock.mode in
    let parts = legal_front opening had.before one (subst (IsLegal opening) had.last (had.consistent.legal opening stands)) in
    ap (λ (l : List Entry). phase l s.tx) had.last ∙ phase_push had.before one s.tx ∙ parts.1.rule.live

pub owned_locked : (opens : List Record → Type 0) (h : List Entry) (lock : Held) (s : SessionClaim) → HasLocked opens h lock s → IsOwned opens h s
owned_locked opens h lock s had = owned_now opens h s had.agrees (locked_live opens h lock s had)

-- behind its refusal
pub owned_refused : (opens : List Record → Type 0) (ledger sessions : LedgerName) (old : Known) (a : Account) (t : PassSeen Entry) (s s' : SessionClaim) (range : Interval) (mode : Mode) (holder : ℕ) → s'.tx ≡ s.tx
    → Enters opens ledger sessions old (entries.Refused s.tx range mode holder ∷ []) (known a t (session_alone s')) → IsOwned opens t.log s'
owned_refused opens ledger sessions old a t s s' range mode holder is e = owned_now opens t.log s' e.now.rights.s (λ opening stands.
    let one : Entry = entries.Refused s.tx range mode holder in
    let parts = legal_front opening e.moment one (subst (IsLegal opening) e.is (e.now.consistent.legal opening stands)) in
    ap (phase t.log) is ∙ ap (λ (l : List Entry). phase l s.tx) e.is ∙ phase_push e.moment one s.tx ∙ parts.1.rule.live)

-- since the lock was taken
pub still_live : (opens : List Record → Type 0) (h h' : List Entry) (lock : Held) (s : SessionClaim) → HasLocked opens h lock s → IsPrefix h h' → IsConsistent opens h' → SessionAgrees h' s → (opening : List Record) → opens opening → phase h' s.tx ≡ Live
still_live opens h h' lock s had longer consistent agrees opening stands =
    let own = transaction h s.session s.tx had.agrees.tx had.active in
    let same : session_entries (h ++ longer.0) s.session ≡ session_entries h s.session = ap (λ (l : List Entry). session_entries l s.session) longer.1 ∙ sym agrees.entries ∙ had.agrees.entries in
    ap (λ (l : List Entry). phase l s.tx) (sym longer.1)
    ∙ (stays opening h longer.0 s.session s.tx own.0 (subst (IsLegal opening) (sym longer.1) (consistent.legal opening stands)) same).0.phase
    ∙ locked_live opens h lock s had opening stands

-- behind an answer
pub owned_said : (opens : List Record → Type 0) (ledger sessions : LedgerName) (h : List Entry) (old : Known) (new : Known) (lock : Held) (s s' : SessionClaim) (request : Request) (reply : Reply) → HasLocked opens h lock s → IsPrefix h old.log → s'.tx ≡ s.tx
    → (e : Enters opens ledger sessions old (entries.Said s.session s.tx request reply ∷ []) new) → SessionAgrees e.moment s → SessionAgrees new.log s' → IsOwned opens new.log s'
owned_said opens ledger sessions h old new lock s s' request reply had longer is e agreed agrees = owned_now opens new.log s' agrees (λ opening stands.
    ap (phase new.log) is ∙ ap (λ (l : List Entry). phase l s.tx) e.is ∙ phase_push e.moment (entries.Said s.session s.tx request reply) s.tx
    ∙ still_live opens h e.moment lock s had (prefix_trans h old.log e.moment longer e.found.begins) e.found.consistent agreed opening stands)

-- a session whose transaction was begun
pub seated_begun : (opens : List Record → Type 0) (ledger sessions : LedgerName) (old : Known) (a : Account) (t : PassSeen Entry) (s s' : SessionClaim) (r : Result ℕ Fault) → is_ok r ≡ true → IfOk r (λ tx. s' ≡ record { session = s.session; entries = s.entries + 1; tx = tx })
    → IfOk r (λ tx. is_number tx ≡ true) → Enters opens ledger sessions old (begun s.session r) (known a t (session_alone s')) → IsSeated opens (Some s') t.log false
seated_begun opens ledger sessions old a t s s' (Ok tx) ok right number e =
    let is : s'.tx ≡ tx = ap (λ (x : SessionClaim). x.tx) right in
    record { there = refl; number = λ some. subst (λ (n : ℕ). is_number n ≡ true) (sym is) number; owned = λ _. owned_begun opens ledger sessions old a t s' s.session tx is e }
seated_begun opens ledger sessions old a t s s' (Err f) ok right number e = absurd (cc ok)
