-- A change that answers a request, handed to the journal: its answer, its refusals, and the right to the session behind it.
use Rattle.std.proofs.Common.{◌≡◌, ℕ, Bool, true, false, List, [], ◌∷◌, ◌++◌, length, Option, Some, None, Result, Ok, Err, refl, sym, ap, subst, ◌∙◌, inl, inr}
use Rattle.std.specs.Prelude.{IfOk, IfSome, IsSome}
use Rattle.std.specs.List.{list_any}
use Rattle.std.specs.Option.{option_map}
use mathlib.Core.List.{IsPrefix}
use Rattle.books.specs.Rights.{SessionClaim}
use Rattle.front.specs.Seen.{PassSeen}
use Rattle.store_model.specs.declared.fault.Fault.{Fault}
use Rattle.store_model.specs.declared.fault.Fault.TheVariants as faults
use Rattle.store_model.specs.declared.reply.Outcome.TheVariants as outcomes
use Rattle.store_model.specs.declared.reply.Reply.TheVariants as replies
use Rattle.store_model.specs.declared.request.Request.{Request}
use Rattle.wal_record.specs.History.{Live, phase}
use Rattle.wal_record.specs.Legal.{IsLegal}
use Rattle.wal_record.specs.declared.page.PageState.{PageState}
use Rattle.wal_record.specs.declared.record.Record.{Record}
use Rattle.wal_record.specs.declared.entry.Entry.{Entry}
use Rattle.wal_record.specs.declared.entry.Entry.TheVariants as entries
use Rattle.wal_record.proofs.Pushes.{legal_front, phase_push}
use Rattle.page_ops.specs.Asking.{can_be_late}
use Rattle.page_ops.specs.Causes.{EndsBy, FailsToEnter, OrFull}
use Rattle.page_ops.specs.Claims.{Claims, SessionAgrees}
use Rattle.page_ops.specs.Desks.{Desk, Faults}
use Rattle.page_ops.specs.Gains.{Gains}
use Rattle.page_ops.specs.Groups.{declined_entries}
use Rattle.page_ops.specs.Hands.{Hand}
use Rattle.page_ops.specs.Names.{LedgerName}
use Rattle.page_ops.specs.Outcomes.{IsAnswer, IsFull}
use Rattle.page_ops.specs.Seeing.{Account, IsConsistent, Known, known}
use Rattle.page_ops.specs.declared.group.Said.{Said}
use Rattle.page_ops.specs.declared.outcome.Entered.{Entered}
use Rattle.page_ops.specs.declared.outcome.Entered.TheVariants.{At, NoRoom, Late}
use Rattle.leaf_writes.specs.Changes.{change_group, record_by, said_by}
use Rattle.leaf_writes.specs.KeyWrites.{WritesBy, WritesKey, needs_purge}
use Rattle.leaf_writes.specs.MayChange.{IsWriter, MayBy, MayChange}
use Rattle.leaf_writes.specs.Owners.{IsDeclined, KeepsOwner}
use Rattle.leaf_writes.specs.declared.change.Change.{Change}
use Rattle.leaf_writes.specs.declared.change.How.{How}
use Rattle.leaf_writes.specs.declared.change.How.TheVariants as hows
use Rattle.rollback.specs.Rolls.{standing}
use Rattle.engine.specs.Answers.{FailsToAsk, IsSaidAt}
use Rattle.engine.specs.Completes.{Completes, CompletesFor, IsSaidFor}
use Rattle.engine.specs.Sittings.{IsOwned}
use Rattle.engine.specs.Writes.{LacksRoom, asked_by, old_of}
use Rattle.engine.proofs.Changed.{ToldOn, entered_on, refused_on, said_is, told_at, told_live, told_of}
use Rattle.engine.proofs.Owned.{owned_later, owned_now}

-- ---- whose change it is

pub record IsWriterOf (opens : List Record → Type 0) (seen : List Entry) (t : ℕ) (key : List ℕ) (owner : Option SessionClaim) : Type 0 where
  pub s : SessionClaim
  pub is : owner ≡ Some s
  pub tx : s.tx ≡ t
  pub writer : IsWriter opens seen key s

writer_of : (how : How) (opens : List Record → Type 0) (seen : List Entry) (at : PageState) (t : ℕ) (key : List ℕ) (new : Option (List ℕ)) (owner : Option SessionClaim) (request : Request) → asked_by how key new ≡ Some request → MayBy how opens seen at t key new owner → IsWriterOf opens seen t key owner
writer_of (hows.Write old) opens seen at t key new None request asked may = absurd may.0
writer_of (hows.Write old) opens seen at t key new (Some s) request asked may = record { s = s; is = refl; tx = may.0.0; writer = may.0.1 }
writer_of (hows.Apply old operator argument) opens seen at t key new None request asked may = absurd may.0
writer_of (hows.Apply old operator argument) opens seen at t key new (Some s) request asked may = record { s = s; is = refl; tx = may.0.0; writer = may.0.1 }
writer_of (hows.Undo next) opens seen at t key new owner request asked may = absurd (cc asked)

-- ---- what it can't be answered

not_late : (how : How) (t page : ℕ) (key : List ℕ) (new : Option (List ℕ)) (request : Request) → asked_by how key new ≡ Some request → list_any can_be_late (record_by how t page key new ∷ []) ≡ true → ⊥
not_late (hows.Write old) t page key new request asked late = absurd (cc late)
not_late (hows.Apply old operator argument) t page key new request asked late = absurd (cc late)
not_late (hows.Undo next) t page key new request asked late = absurd (cc asked)

-- ---- faults

fails_by : (opens : List Record → Type 0) (log_faults made : LedgerName) (own : Faults) (old new : Account) (h : List Entry) (f : Fault) → FailsToEnter OrFull f → EndsBy opens log_faults made old new h f → FailsToAsk OrFull opens log_faults made own own old new h f
fails_by opens log_faults made own old new h faults.Memory may why = why
fails_by opens log_faults made own old new h (faults.Ended at) may why = why
fails_by opens log_faults made own old new h (faults.Full p q at) may why = (tt, why.0, why.1)
fails_by opens log_faults made own old new h _ may why = absurd may

pub write_fails : (opens : List Record → Type 0) (log_faults made : LedgerName) (own own' : Faults) (old new : Account) (h : List Entry) (f : Fault) → own' ≡ own → FailsToEnter OrFull f → EndsBy opens log_faults made old new h f → FailsToAsk OrFull opens log_faults made own own' old new h f
write_fails opens log_faults made own own' old new h f same may why = subst (λ (o : Faults). FailsToAsk OrFull opens log_faults made own o old new h f) (sym same) (fails_by opens log_faults made own old new h f may why)

pub lacks_room : (opens : List Record → Type 0) (h : List Entry) (c : Change) (owner : Option SessionClaim) (page : ℕ) (f : Fault) → IsFull opens h (change_group c owner page) f → LacksRoom opens h f
lacks_room opens h c owner page (faults.Full p q at) full = (full.2, full.3)
lacks_room opens h c owner page _ full = tt

-- ---- what was seen

module _ (opens : List Record → Type 0) (ledger sessions : LedgerName) (c : Change) (owner : Option SessionClaim) (seen : PassSeen Entry) (leaf leaf_now : Hand) (result : Result Entered Fault) (old new : Known) where
  pub record Sees : Type 0 where
    pub begins : IsPrefix old.log new.log
    pub consistent : IsConsistent opens new.log

  sees_of : (es : List Entry) → Gains opens ledger sessions es old new → Sees
  sees_of es g = record { begins = (g.gained, sym g.is); consistent = g.consistent }

  sees_by : (b : Bool) → WritesBy b opens ledger sessions c owner seen leaf leaf_now result old new → Sees
  sees_by false w = sees_of _ w.writes.gains
  sees_by true (inl w) = sees_of _ w.gains
  sees_by true (inr w) = sees_of _ w.writes.gains

  pub sees : WritesKey opens ledger sessions c owner seen leaf leaf_now result old new → Sees
  sees w = sees_by (needs_purge c leaf.state) w

-- ---- the whole

module _ (opens : List Record → Type 0) (ledger sessions : LedgerName) (c : Change) (owner : Option SessionClaim) (t : PassSeen Entry) (at : PageState) (may : MayChange opens t.log at c owner) (asked : IsSome (asked_by c.how c.key c.new)) where
  request_of_some : (o : Option Request) → IsSome o → (r : Request) × (o ≡ Some r)
  request_of_some None some = absurd (cc some)
  request_of_some (Some r) some = (r, refl)

  abbrev request : Request
  request = (request_of_some (asked_by c.how c.key c.new) asked).0

  asked_is : asked_by c.how c.key c.new ≡ Some request
  asked_is = (request_of_some (asked_by c.how c.key c.new) asked).1

  whose : IsWriterOf opens t.log c.tx c.key owner
  whose = writer_of c.how opens t.log at c.tx c.key c.new owner request asked_is may

  -- nothing else can come of it
  pub no_other : (page : ℕ) (h : List Entry) (result : Result Entered Fault) (e : Entered) → result ≡ Ok e → IfOk result (IsAnswer opens h (change_group c owner page)) → ((pos : ℕ) → e ≡ At pos → ⊥) → ⊥
  no_other page h result e at answer other = plain e other (subst (λ (r : Result Entered Fault). IfOk r (IsAnswer opens h (change_group c owner page))) at answer)
    where
      spoken : said_by c.how c.key c.new owner ≡ Some (told_of whose.s request (replies.Was (old_of c.how)))
      spoken = ap (said_by c.how c.key c.new) whose.is ∙ said_is c.how c.key c.new whose.s request asked_is

      plain : (e : Entered) → ((pos : ℕ) → e ≡ At pos → ⊥) → IsAnswer opens h (change_group c owner page) e → ⊥
      plain (At pos) other k = other pos refl
      plain NoRoom other k = absurd (let clash : ◌≡◌ {A = Option Said} None (Some (told_of whose.s request (replies.Was (old_of c.how)))) = sym k.0 ∙ spoken in cc clash)
      plain (Late pos) other k = not_late c.how c.tx page c.key c.new request asked_is k.0

  module _ (t' : PassSeen Entry) (d d' : Desk) (same : d'.faults ≡ d.faults) (a a' : Account) (y y' : Claims) (leaf leaf_now : Hand) (result : Result Entered Fault) (w : WritesKey opens ledger sessions c owner t' leaf leaf_now result (known a t y) (known a' t' y')) (owner' : Option SessionClaim) (keeps : KeepsOwner result owner owner') where
    written : (r : Result Entered Fault) → result ≡ r → WritesKey opens ledger sessions c (Some whose.s) t' leaf leaf_now r (known a t y) (known a' t' y')
    written r at = subst (λ (q : Option SessionClaim × Result Entered Fault). WritesKey opens ledger sessions c q.0 t' leaf leaf_now q.1 (known a t y) (known a' t' y')) (λ i. (whose.is i, at i)) w

    seen : Sees opens ledger sessions c owner t' leaf leaf_now result (known a t y) (known a' t' y')
    seen = sees opens ledger sessions c owner t' leaf leaf_now result (known a t y) (known a' t' y') w

    -- with the request that it answers
    asks : (P : Option SessionClaim → Request → Type 0) → P (Some whose.s) request → IfSome (asked_by c.how c.key c.new) (P owner)
    asks P p = subst (λ (o : Option Request). IfSome o (P owner)) (sym asked_is) (subst (λ (o : Option SessionClaim). P o request) (sym whose.is) p)

    same_tx : (o : Option SessionClaim) (s' : SessionClaim) → owner' ≡ o → o ≡ Some s' → s'.tx ≡ whose.s.tx
    same_tx o s' e some = let both : ◌≡◌ {A = Option ℕ} (Some s'.tx) (Some whose.s.tx) = ap (option_map (λ (s : SessionClaim). s.tx)) (sym (e ∙ some)) ∙ keeps.tx ∙ ap (option_map (λ (s : SessionClaim). s.tx)) whose.is in cc both

    -- an agreeing right to the transaction, which is live
    live_by : ((opening : List Record) → opens opening → phase t'.log whose.s.tx ≡ Live) → IfSome owner' (SessionAgrees t'.log) → IfSome owner' (IsOwned opens t'.log)
    live_by live agrees = go owner' refl agrees
      where
        go : (o : Option SessionClaim) → owner' ≡ o → IfSome o (SessionAgrees t'.log) → IfSome o (IsOwned opens t'.log)
        go None e g = tt
        go (Some s') e g = owned_now opens t'.log s' g (λ opening stands. ap (phase t'.log) (same_tx (Some s') s' e refl) ∙ live opening stands)

    -- entered
    module _ (pos : ℕ) (entered : result ≡ Ok (At pos)) (reply : Option (List ℕ)) (reply_is : reply ≡ old_of c.how) where
      both : Completes opens ledger sessions whose.s request (Ok (record { pos = pos; reply = replies.Was (old_of c.how) })) (standing d a t) (standing d' a' t') × ToldOn opens whose.s request (replies.Was (old_of c.how)) t'.log
      both = entered_on opens ledger sessions c.how c.tx c.key c.new whose.s whose.tx request asked_is d d' same a a' t t' y y' leaf leaf_now pos (written (Ok (At pos)) entered)

      pub answers_ok : IfSome (asked_by c.how c.key c.new) (λ (r : Request). CompletesFor opens ledger sessions owner r (Ok (record { pos = pos; reply = replies.Was reply })) (standing d a t) (standing d' a' t'))
      answers_ok = asks (λ o r. CompletesFor opens ledger sessions o r (Ok (record { pos = pos; reply = replies.Was reply })) (standing d a t) (standing d' a' t'))
          (subst (λ (v : Option (List ℕ)). Completes opens ledger sessions whose.s request (Ok (record { pos = pos; reply = replies.Was v })) (standing d a t) (standing d' a' t')) (sym reply_is) both.0)

      pub said_ok : pos ≡ length t'.log → IfSome (asked_by c.how c.key c.new) (λ (r : Request). IsSaidFor opens owner r t'.log (record { pos = pos; reply = replies.Was reply }))
      said_ok place = asks (λ o r. IsSaidFor opens o r t'.log (record { pos = pos; reply = replies.Was reply }))
          (subst (λ (v : Option (List ℕ)). IsSaidAt opens whose.s request t'.log (record { pos = pos; reply = replies.Was v })) (sym reply_is) (told_at opens whose.s request (replies.Was (old_of c.how)) t'.log seen.consistent both.1 pos place))

      pub live_ok : IfSome owner' (SessionAgrees t'.log) → IfSome owner' (IsOwned opens t'.log)
      live_ok agrees = live_by (told_live opens whose.s request (replies.Was (old_of c.how)) t'.log seen.consistent both.1) agrees

    -- refused
    module _ (f : Fault) (refused : result ≡ Err f) (fails : FailsToEnter OrFull f) where
      pub answers_err : IfSome (asked_by c.how c.key c.new) (λ (r : Request). CompletesFor opens ledger sessions owner r (Err f) (standing d a t) (standing d' a' t'))
      answers_err = asks (λ o r. CompletesFor opens ledger sessions o r (Err f) (standing d a t) (standing d' a' t'))
          (refused_on opens ledger sessions c.how c.tx c.key c.new whose.s whose.tx request asked_is d d' same a a' t t' y y' leaf leaf_now f fails (written (Err f) refused))

      as_was : owner' ≡ owner → IfSome owner' (IsOwned opens t'.log)
      as_was e = subst (λ (o : Option SessionClaim). IfSome o (IsOwned opens t'.log)) (sym (e ∙ whose.is)) (owned_later opens t.log t'.log whose.s seen.begins (owned_now opens t.log whose.s whose.writer.agrees whose.writer.live))

      pub live_err : IsDeclined c owner owner' t'.log f → IfSome owner' (IsOwned opens t'.log)
      live_err declined = go f fails (subst (λ (r : Result Entered Fault). KeepsOwner r owner owner') refused keeps) declined
        where
          go : (f : Fault) → FailsToEnter OrFull f → KeepsOwner (Err f) owner owner' → IsDeclined c owner owner' t'.log f → IfSome owner' (IsOwned opens t'.log)
          go faults.Memory may k d = as_was k.same
          go (faults.Ended p) may k d = as_was k.same
          go (faults.Full p q pos) may k d =
              let one : Entry = entries.Declined whose.s.session whose.s.tx request (outcomes.Full p q) in
              let ends : t'.log ≡ d.0.0 ++ one ∷ [] = d.0.1 ∙ ap (λ (o : Option Said). d.0.0 ++ declined_entries o (outcomes.Full p q)) (ap (said_by c.how c.key c.new) whose.is ∙ said_is c.how c.key c.new whose.s request asked_is) in
              live_by (λ opening stands. ap (λ (l : List Entry). phase l whose.s.tx) ends ∙ phase_push d.0.0 one whose.s.tx ∙ (legal_front opening d.0.0 one (subst (IsLegal opening) ends (seen.consistent.legal opening stands))).1.rule.live) d.1
          go _ may k d = absurd may
