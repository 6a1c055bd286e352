-- A request that is answered alone, whatever calls stood before.
use Rattle.std.proofs.Common.{◌≡◌, ℕ, true, List, [], ◌∷◌, ◌++◌, length, Option, Some, None, Result, Ok, Err, refl, sym, ap, subst, ◌∙◌, inl}
use Rattle.std.specs.Prelude.{IfErr, IfOk, IfSome}
use Rattle.std.specs.Option.{option_map}
use mathlib.Core.List.{IsPrefix}
use Rattle.books.specs.Rights.{SessionClaim}
use Rattle.front.specs.Seen.{PassSeen}
use Rattle.store_model.specs.declared.fault.Fault.{Fault}
use Rattle.store_model.specs.declared.fault.Fault.TheVariants as faults
use Rattle.store_model.specs.declared.fault.Memory.{Memory}
use Rattle.store_model.specs.declared.reply.Reply.{Reply}
use Rattle.store_model.specs.declared.request.Request.{Request}
use Rattle.wal_record.specs.Books.{session_entries}
use Rattle.wal_record.specs.History.{Live, phase}
use Rattle.wal_record.specs.Legal.{IsLegal}
use Rattle.wal_record.specs.declared.record.Record.{Record}
use Rattle.wal_record.specs.declared.entry.Entry.{Entry}
use Rattle.wal_record.specs.declared.entry.Entry.TheVariants as entries
use Rattle.wal_record.proofs.Pushes.{phase_push}
use Rattle.page_ops.specs.Causes.{FailsToEnter, NoOther}
use Rattle.page_ops.specs.Claims.{Claims, SessionAgrees, no_claims}
use Rattle.page_ops.specs.Desks.{Desk}
use Rattle.page_ops.specs.Hands.{Hand}
use Rattle.page_ops.specs.Names.{LedgerName}
use Rattle.page_ops.specs.Seeing.{Account, Enters, IsConsistent, known}
use Rattle.page_ops.proofs.Gaining.{gains_of}
use Rattle.smo.specs.Settled.{claims_of}
use Rattle.group_laws.proofs.Owners.{transaction}
use Rattle.group_laws.proofs.Quiet.{stays}
use Rattle.rollback.specs.Rolls.{standing}
use Rattle.rollback.proofs.Composing.{faults_self, reclaimed}
use Rattle.engine.specs.Answers.{AreLast}
use Rattle.engine.specs.Completes.{Completes, CompletesFor, IsSaidFor}
use Rattle.engine.specs.Saying.{IsSpeaker, KeepsHolder, MaySpeak, Says, said_entries}
use Rattle.engine.specs.Sittings.{IsOwned}
use Rattle.engine.specs.declared.answered.Answered.{Answered}
use Rattle.engine.proofs.Owned.{owned_later, owned_now}
use Rattle.engine.proofs.Told.{said_at}

-- ---- who speaks

-- while the right agrees, the transaction is live
pub live_then : (opens : List Record → Type 0) (seen h : List Entry) (s : SessionClaim) → IsSpeaker opens seen s → IsPrefix seen h → IsConsistent opens h → SessionAgrees h s → (opening : List Record) → opens opening → phase h s.tx ≡ Live
live_then opens seen h s speaks longer consistent agrees opening stands =
    let own = transaction seen s.session s.tx speaks.agrees.tx speaks.active in
    let same : session_entries (seen ++ longer.0) s.session ≡ session_entries seen s.session = ap (λ (l : List Entry). session_entries l s.session) longer.1 ∙ sym agrees.entries ∙ speaks.agrees.entries in
    ap (λ (l : List Entry). phase l s.tx) (sym longer.1) ∙ (stays opening seen longer.0 s.session s.tx own.0 (subst (IsLegal opening) (sym longer.1) (consistent.legal opening stands)) same).0.phase ∙ speaks.live opening stands

-- ---- the answer

pub plain_none : (s : SessionClaim) (request : Request) (f : Fault) → FailsToEnter NoOther f → AreLast s request (Err f) true []
plain_none s request faults.Memory may = refl
plain_none s request (faults.Ended at) may = refl
plain_none s request _ may = absurd may

module _ (opens : List Record → Type 0) (ledger sessions : LedgerName) (s : SessionClaim) (request : Request) (a a' : Account) (t t' : PassSeen Entry) (x x' : Claims) (d : Desk) where
  pub completes : (result : Result Answered Fault) (last : List Entry) → AreLast s request result true last → Enters opens ledger sessions (known a t x) last (known a' t' x') → Completes opens ledger sessions s request result (standing d a t) (standing d a' t')
  completes result last by e = record { behind = []; last = last; gains = reclaimed opens ledger sessions last a a' t t' x x' no_claims no_claims (gains_of opens ledger sessions last (known a t x) (known a' t' x') e); kept_up = refl; by = by; faults = faults_self d.faults }

module _ (opens : List Record → Type 0) (ledger sessions : LedgerName) (request : Request) (leaf : Hand) (a a' : Account) (t t' : PassSeen Entry) (reply : Reply) where
  -- of this session, which is told
  module _ (s : SessionClaim) (speaks : IsSpeaker opens t.log s) (y : Claims) (e : Enters opens ledger sessions (known a t (claims_of leaf (Some s))) (entries.Said s.session s.tx request reply ∷ []) (known a' t' y)) (owner' : Option SessionClaim) (session : y.s ≡ owner') where
    spoken_live : (opening : List Record) → opens opening → phase t'.log s.tx ≡ Live
    spoken_live opening stands =
        ap (λ (l : List Entry). phase l s.tx) e.is ∙ phase_push e.moment (entries.Said s.session s.tx request reply) s.tx
        ∙ live_then opens t.log e.moment s speaks e.found.begins e.found.consistent e.found.rights.s opening stands

    spoken_owned : option_map (λ (c : SessionClaim). c.tx) owner' ≡ Some s.tx → IfSome owner' (IsOwned opens t'.log)
    spoken_owned tx = go owner' refl tx (subst (λ (o : Option SessionClaim). IfSome o (SessionAgrees t'.log)) session e.now.rights.s)
      where
        go : (o : Option SessionClaim) → owner' ≡ o → option_map (λ (c : SessionClaim). c.tx) o ≡ Some s.tx → IfSome o (SessionAgrees t'.log) → IfSome o (IsOwned opens t'.log)
        go None is k g = tt
        go (Some s') is k g = let tx_is : s'.tx ≡ s.tx = cc k in owned_now opens t'.log s' g (λ opening stands. ap (phase t'.log) tx_is ∙ spoken_live opening stands)

  module _ (owner owner' : Option SessionClaim) (speaks : MaySpeak opens t.log owner) (told : Result Reply Memory) (same : IfOk told (λ r. r ≡ reply)) (result : Result ℕ Fault) (says : Says opens ledger sessions result request told leaf owner owner' a a' t t') (holder : KeepsHolder result owner owner') where
    -- it was told
    module _ (pos : ℕ) (is : result ≡ Ok pos) (made : IfErr told (λ memory. result ≡ Err faults.Memory)) where
      told_is : told ≡ Ok reply
      told_is = go told same made
        where
          go : (r : Result Reply Memory) → IfOk r (λ q. q ≡ reply) → IfErr r (λ memory. result ≡ Err faults.Memory) → r ≡ Ok reply
          go (Ok q) e m = ap Ok e
          go (Err w) e m = absurd (let clash : ◌≡◌ {A = Result ℕ Fault} (Ok pos) (Err faults.Memory) = sym is ∙ m in cc clash)

      entered : (s : SessionClaim) → owner ≡ Some s → Enters opens ledger sessions (known a t (claims_of leaf (Some s))) (entries.Said s.session s.tx request reply ∷ []) (known a' t' says.claims)
      entered s some = subst (λ (q : Option SessionClaim × Result ℕ Fault × Result Reply Memory). Enters opens ledger sessions (known a t (claims_of leaf q.0)) (said_entries q.1 q.0 request q.2) (known a' t' says.claims)) (λ i. (some i, is i, told_is i)) says.entered

      pub alone_answers : (d : Desk) → CompletesFor opens ledger sessions owner request (Ok (record { pos = pos; reply = reply })) (standing d a t) (standing d a' t')
      alone_answers d = go owner refl speaks
        where
          go : (o : Option SessionClaim) → owner ≡ o → MaySpeak opens t.log o → CompletesFor opens ledger sessions o request (Ok (record { pos = pos; reply = reply })) (standing d a t) (standing d a' t')
          go None e m = absurd m
          go (Some s) e m = completes opens ledger sessions s request a a' t t' (claims_of leaf (Some s)) says.claims d (Ok (record { pos = pos; reply = reply })) (entries.Said s.session s.tx request reply ∷ []) (refl, inl refl) (entered s e)

      pub alone_said : pos ≡ length t'.log → IsSaidFor opens owner request t'.log (record { pos = pos; reply = reply })
      alone_said place = go owner refl speaks
        where
          go : (o : Option SessionClaim) → owner ≡ o → MaySpeak opens t.log o → IsSaidFor opens o request t'.log (record { pos = pos; reply = reply })
          go None e m = absurd m
          go (Some s) e m = said_at opens ledger sessions (known a t (claims_of leaf (Some s))) (known a' t' says.claims) s s request reply pos refl refl (entered s e) place

      pub alone_live : IfSome owner' (IsOwned opens t'.log)
      alone_live = go owner refl speaks
        where
          go : (o : Option SessionClaim) → owner ≡ o → MaySpeak opens t.log o → IfSome owner' (IsOwned opens t'.log)
          go None e m = absurd m
          go (Some s) e m = spoken_owned s m says.claims (entered s e) owner' says.session (holder.tx ∙ ap (option_map (λ (c : SessionClaim). c.tx)) e)

      pub alone_agrees : IfSome owner' (SessionAgrees t'.log)
      alone_agrees = subst (λ (o : Option SessionClaim). IfSome o (SessionAgrees t'.log)) says.session says.entered.now.rights.s

    -- it was refused
    module _ (f : Fault) (is : result ≡ Err f) where
      nothing : (s : SessionClaim) → owner ≡ Some s → Enters opens ledger sessions (known a t (claims_of leaf (Some s))) [] (known a' t' says.claims)
      nothing s some = subst (λ (q : Option SessionClaim × Result ℕ Fault). Enters opens ledger sessions (known a t (claims_of leaf q.0)) (said_entries q.1 q.0 request told) (known a' t' says.claims)) (λ i. (some i, is i)) says.entered

      pub alone_fails : FailsToEnter NoOther f → (d : Desk) → CompletesFor opens ledger sessions owner request (Err f) (standing d a t) (standing d a' t')
      alone_fails may d = go owner refl speaks
        where
          go : (o : Option SessionClaim) → owner ≡ o → MaySpeak opens t.log o → CompletesFor opens ledger sessions o request (Err f) (standing d a t) (standing d a' t')
          go None e m = absurd m
          go (Some s) e m = completes opens ledger sessions s request a a' t t' (claims_of leaf (Some s)) says.claims d (Err f) [] (plain_none s request f may) (nothing s e)

      pub alone_owned : owner' ≡ owner → IfSome owner' (IsOwned opens t'.log)
      alone_owned same = go owner refl speaks
        where
          go : (o : Option SessionClaim) → owner ≡ o → MaySpeak opens t.log o → IfSome owner' (IsOwned opens t'.log)
          go None e m = absurd m
          go (Some s) e m = subst (λ (o : Option SessionClaim). IfSome o (IsOwned opens t'.log)) (sym (same ∙ e)) (owned_later opens t.log t'.log s says.entered.now.begins (owned_now opens t.log s m.agrees m.live))
