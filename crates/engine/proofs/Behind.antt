-- A request behind its lock that is answered alone: the leaf found, the session's right shown, the answer told.
use Rattle.std.proofs.Common.{◌≡◌, ℕ, ◌-◌, true, List, [], length, Option, Some, None, Result, Ok, Err, refl, sym, ap, subst, ◌∙◌, inl}
use Rattle.std.specs.Prelude.{IfErr, IfSome, OnOk}
use Rattle.std.specs.Option.{option_map}
use mathlib.Core.List.{IsPrefix}
use Rattle.books.specs.Rights.{SessionClaim}
use Rattle.front.specs.Seen.{PassSeen}
use Rattle.front.proofs.Keeping.{prefix_trans}
use Rattle.store_model.specs.declared.fault.Fault.{Fault}
use Rattle.store_model.specs.declared.fault.Fault.TheVariants as faults
use Rattle.store_model.specs.declared.fault.Memory.{Memory}
use Rattle.store_model.specs.declared.reply.Reply.{Reply}
use Rattle.store_model.specs.declared.reply.Reply.TheVariants as replies
use Rattle.store_model.specs.declared.request.Request.{Request}
use Rattle.store_model.specs.declared.request.Request.TheVariants as requests
use Rattle.wal_record.specs.Images.{IsLeafOf}
use Rattle.wal_record.specs.Locks.{Held}
use Rattle.wal_record.specs.State.{leaf_rows, live}
use Rattle.wal_record.specs.declared.record.Record.{Record}
use Rattle.wal_record.specs.declared.entry.Entry.{Entry}
use Rattle.page_ops.specs.Causes.{Ends, FailsToBring, FailsToEnter, MeetsNoEnd, NoOther}
use Rattle.page_ops.specs.Claims.{Claims, SessionAgrees, no_claims}
use Rattle.page_ops.specs.Desks.{Desk, IsMade, KeepsFaults}
use Rattle.page_ops.specs.Hands.{Hand, IsInHand}
use Rattle.page_ops.specs.Names.{LedgerName}
use Rattle.page_ops.specs.Seeing.{Account, Enters, IsConsistent, Upholds, is_upkeep, known}
use Rattle.rollback.specs.Rolls.{standing}
use Rattle.rollback.proofs.Failing.{done, done_then, fails_then, none_then, plain_fails}
use Rattle.foster_tree.specs.Nows.{IsNow}
use Rattle.smo.specs.Settled.{claims_of}
use Rattle.engine.specs.Answers.{AreLast, IsSaidAt}
use Rattle.engine.specs.Completes.{Completes, CompletesFor, IsSaidFor, OwnsLock}
use Rattle.engine.specs.Requests.{lock_of}
use Rattle.engine.specs.Saying.{MaySay, said_entries}
use Rattle.engine.specs.Sittings.{IsOwned}
use Rattle.engine.proofs.Alone.{plain_none}
use Rattle.engine.proofs.Serving.{Upkept, begins_upkept, entered_last, nothing_last, upkept_looked, upkept_of, upkept_then}
use Rattle.engine.proofs.LockAsked.{root_made}
use Rattle.engine.proofs.Owned.{owned_later, owned_locked, owned_said}
use Rattle.engine.proofs.Told.{may_say_found, said_at}

-- the session whose lock it is
pub for_owner : (opens : List Record → Type 0) (h : List Entry) (lock : Held) (o : Option SessionClaim) (P : Option SessionClaim → Type 0) → OwnsLock opens h lock o → ((s : SessionClaim) → P (Some s)) → P o
for_owner opens h lock None P owns by = absurd owns
for_owner opens h lock (Some s) P owns by = by s

-- page 1 is there
pub made_of : (opens : List Record → Type 0) (h : List Entry) (lock : Held) (o : Option SessionClaim) → OwnsLock opens h lock o → IsMade opens h 1
made_of opens h lock None owns = absurd owns
made_of opens h lock (Some s) owns = root_made opens h owns.consistent

-- the transaction is live where nothing was entered for it
pub live_kept : (opens : List Record → Type 0) (h h' : List Entry) (lock : Held) (o o' : Option SessionClaim) → OwnsLock opens h lock o → IsPrefix h h' → o' ≡ o → IfSome o' (IsOwned opens h')
live_kept opens h h' lock None o' owns longer same = absurd owns
live_kept opens h h' lock (Some s) o' owns longer same = subst (λ (o : Option SessionClaim). IfSome o (IsOwned opens h')) (sym same) (owned_later opens h h' s longer (owned_locked opens h lock s owns))

-- the value on the leaf may be told
pub may_get : (opens : List Record → Type 0) (h0 h1 seen : List Entry) (key key' : List ℕ) (o o' : Option SessionClaim) (hand inside : Hand) (v : Option (List ℕ)) → OwnsLock opens h0 (lock_of (requests.Get key)) o → o' ≡ o → IsPrefix h0 h1 → IsPrefix h1 seen → IsConsistent opens seen → IfSome o' (SessionAgrees seen)
    → inside ≡ hand → IsInHand opens inside → IsNow opens h1 hand → IsLeafOf key hand.state → v ≡ live (leaf_rows inside.state.rows) key → key' ≡ key → MaySay opens seen hand o' (requests.Get key') (replies.Found v)
may_get opens h0 h1 seen key key' o o' hand inside v owns same first then consistent agrees view there now leaf v_is key_is = by o owns same
  where
    by : (o : Option SessionClaim) → OwnsLock opens h0 (lock_of (requests.Get key)) o → o' ≡ o → MaySay opens seen hand o' (requests.Get key') (replies.Found v)
    by None owns' is = absurd owns'
    by (Some s) had is =
        let value : v ≡ live (leaf_rows hand.state.rows) key = v_is ∙ ap (λ (h : Hand). live (leaf_rows h.state.rows) key) view in
        subst (λ (q : Option SessionClaim × List ℕ × Option (List ℕ)). MaySay opens seen hand q.0 (requests.Get q.1) (replies.Found q.2)) (λ i. (sym is i, sym key_is i, sym value i))
        (may_say_found opens h0 seen hand s key had (prefix_trans h0 h1 seen first then) consistent (subst (λ (q : Option SessionClaim). IfSome q (SessionAgrees seen)) is agrees) (subst (IsInHand opens) view there) (prefix_trans hand.pass.log h1 seen now.begins then) leaf)

-- a fault of a page that was brought is told by no entry
pub none_told : (opens : List Record → Type 0) (log_faults made : LedgerName) (own own' : _) (old new : Account) (h : List Entry) (s : SessionClaim) (request : Request) (f : Fault) → FailsToBring opens log_faults made own own' old new h f → AreLast s request (Err f) true []
none_told opens log_faults made own own' old new h s request (faults.Conflict holder range at) why = absurd why
none_told opens log_faults made own own' old new h s request (faults.Full pages pending at) why = absurd why
none_told opens log_faults made own own' old new h s request (faults.OpRefused at) why = absurd why
none_told opens log_faults made own own' old new h s request _ why = refl

module _ (opens : List Record → Type 0) (ledger sessions log_faults made : LedgerName) (request : Request) (lock : Held) (h0 : List Entry) (owner0 : Option SessionClaim) (owns : OwnsLock opens h0 lock owner0) (d0 d1 : Desk) (a0 a1 : Account) (s0 s1 : PassSeen Entry)
    (found : Upholds opens ledger sessions is_upkeep (known a0 s0 no_claims) (known a1 s1 no_claims)) (kept : KeepsFaults d0.faults d1.faults) where
  found_upkept : Upkept opens ledger sessions (standing d0 a0 s0) (standing d1 a1 s1)
  found_upkept = upkept_of opens ledger sessions (standing d0 a0 s0) (standing d1 a1 s1) found kept

  -- the leaf isn't found
  pub lost : (f : Fault) → FailsToBring opens log_faults made d0.faults d1.faults a0 a1 s1.log f → CompletesFor opens ledger sessions owner0 request (Err f) (standing d0 a0 s0) (standing d1 a1 s1)
  lost f why = for_owner opens h0 lock owner0 (λ o. CompletesFor opens ledger sessions o request (Err f) (standing d0 a0 s0) (standing d1 a1 s1)) owns
      (λ s. nothing_last opens ledger sessions s request (Err f) (standing d0 a0 s0) (standing d1 a1 s1) (none_told opens log_faults made d0.faults d1.faults a0 a1 s1.log s request f why) found_upkept)

  module _ (a2 : Account) (s2 : PassSeen Entry) (x x' : Claims) (looked : Enters opens ledger sessions (known a1 s1 x) [] (known a2 s2 x')) where
    before : Upkept opens ledger sessions (standing d0 a0 s0) (standing d1 a2 s2)
    before = upkept_then opens ledger sessions (standing d0 a0 s0) (standing d1 a1 s1) (standing d1 a2 s2) found_upkept (upkept_looked opens ledger sessions d1 a1 a2 s1 s2 x x' looked)

    pub begins_seen : IsPrefix s0.log s2.log
    begins_seen = begins_upkept opens ledger sessions (standing d0 a0 s0) (standing d1 a2 s2) before

    module _ (owner : Option SessionClaim) (same : owner ≡ owner0) (told : Result Reply Memory) (leaf : Hand) (y : Claims) (result : Result ℕ Fault) (d2 : Desk) (a3 : Account) (s3 : PassSeen Entry) (back : d2 ≡ record d1 { out = d1.out - 1 })
        (said : Enters opens ledger sessions (known a2 s2 (claims_of leaf owner)) (said_entries result owner request told) (known a3 s3 y)) where
      same_faults : d2.faults ≡ d1.faults
      same_faults = ap (λ (d : Desk). d.faults) back

      module _ (pos : ℕ) (is : result ≡ Ok pos) (reply reply' : Reply) (told_is : told ≡ Ok reply) (again : reply' ≡ reply) where
        entered : (s : SessionClaim) → owner ≡ Some s → Enters opens ledger sessions (known a2 s2 (claims_of leaf owner)) (said_entries (Ok pos) (Some s) request (Ok reply)) (known a3 s3 y)
        entered s some = subst (λ (q : Option SessionClaim × Result ℕ Fault × Result Reply Memory). Enters opens ledger sessions (known a2 s2 (claims_of leaf owner)) (said_entries q.1 q.0 request q.2) (known a3 s3 y)) (λ i. (some i, is i, told_is i)) said

        pub completes_ok : CompletesFor opens ledger sessions owner0 request (Ok (record { pos = pos; reply = reply' })) (standing d0 a0 s0) (standing d2 a3 s3)
        completes_ok = by owner0 owns same
          where
            by : (o : Option SessionClaim) → OwnsLock opens h0 lock o → owner ≡ o → CompletesFor opens ledger sessions o request (Ok (record { pos = pos; reply = reply' })) (standing d0 a0 s0) (standing d2 a3 s3)
            by None bad is' = absurd bad
            by (Some s) own is' = subst (λ (r : Reply). Completes opens ledger sessions s request (Ok (record { pos = pos; reply = r })) (standing d0 a0 s0) (standing d2 a3 s3)) (sym again)
                (entered_last opens ledger sessions s request (Ok (record { pos = pos; reply = reply })) (standing d0 a0 s0) d1 d2 a2 a3 s2 s3 (claims_of leaf owner) y (said_entries (Ok pos) (Some s) request (Ok reply)) same_faults before (entered s is') (refl, inl refl))

        pub said_ok : pos ≡ length s3.log → IsSaidFor opens owner0 request s3.log (record { pos = pos; reply = reply' })
        said_ok place = by owner0 owns same
          where
            by : (o : Option SessionClaim) → OwnsLock opens h0 lock o → owner ≡ o → IsSaidFor opens o request s3.log (record { pos = pos; reply = reply' })
            by None bad is' = absurd bad
            by (Some s) own is' = subst (λ (r : Reply). IsSaidAt opens s request s3.log (record { pos = pos; reply = r })) (sym again)
                (said_at opens ledger sessions (known a2 s2 (claims_of leaf owner)) (known a3 s3 y) s s request reply pos refl refl (entered s is') place)

        pub live_ok : (owner' : Option SessionClaim) → y.s ≡ owner' → option_map (λ (s : SessionClaim). s.tx) owner' ≡ option_map (λ (s : SessionClaim). s.tx) owner → h0 ≡ s0.log → IfSome owner' (IsOwned opens s3.log)
        live_ok owner' back_is tx at = by owner' owner0 owns same back_is tx
          where
            by : (o' o : Option SessionClaim) → OwnsLock opens h0 lock o → owner ≡ o → y.s ≡ o' → option_map (λ (s : SessionClaim). s.tx) o' ≡ option_map (λ (s : SessionClaim). s.tx) owner → IfSome o' (IsOwned opens s3.log)
            by None o own is' back' t = tt
            by (Some s') None own is' back' t = absurd own
            by (Some s') (Some s) own is' back' t =
                let e = entered s is' in
                let before_h : IsPrefix h0 s2.log = subst (λ (h : List Entry). IsPrefix h s2.log) (sym at) begins_seen in
                let t' : ◌≡◌ {A = Option ℕ} (Some s'.tx) (Some s.tx) = t ∙ ap (option_map (λ (s : SessionClaim). s.tx)) is' in
                let agreed : SessionAgrees e.moment s = subst (λ (o : Option SessionClaim). IfSome o (SessionAgrees e.moment)) is' e.found.rights.s in
                let agrees : SessionAgrees s3.log s' = subst (λ (o : Option SessionClaim). IfSome o (SessionAgrees s3.log)) back' e.now.rights.s in
                owned_said opens ledger sessions h0 (known a2 s2 (claims_of leaf owner)) (known a3 s3 y) lock s s' request reply own before_h (cc t') e agreed agrees

      module _ (f : Fault) (is : result ≡ Err f) where
        nothing : (s : SessionClaim) → owner ≡ Some s → Enters opens ledger sessions (known a2 s2 (claims_of leaf owner)) [] (known a3 s3 y)
        nothing s some = subst (λ (r : Result ℕ Fault). Enters opens ledger sessions (known a2 s2 (claims_of leaf owner)) (said_entries r owner request told) (known a3 s3 y)) is said

        pub completes_err : FailsToEnter NoOther f → CompletesFor opens ledger sessions owner0 request (Err f) (standing d0 a0 s0) (standing d2 a3 s3)
        completes_err may = by owner0 owns same
          where
            by : (o : Option SessionClaim) → OwnsLock opens h0 lock o → owner ≡ o → CompletesFor opens ledger sessions o request (Err f) (standing d0 a0 s0) (standing d2 a3 s3)
            by None bad is' = absurd bad
            by (Some s) own is' = entered_last opens ledger sessions s request (Err f) (standing d0 a0 s0) d1 d2 a2 a3 s2 s3 (claims_of leaf owner) y [] same_faults before (nothing s is') (plain_none s request f may)

      -- causes
      module _ (none : MeetsNoEnd a0 a1) (calm : MeetsNoEnd a1 a2) (fails : IfErr result (FailsToEnter NoOther)) (ends : Ends opens log_faults made a2 a3 s3.log result) where
        none_before : MeetsNoEnd a0 a2
        none_before = none_then a0 a1 a2 none calm

        open_all : OnOk result (MeetsNoEnd a0 a3)
        open_all = done_then opens log_faults made a0 a2 a3 s3.log none_before before.gains.keeps result (done opens log_faults made a2 a3 s3.log result ends)

        pub open_ok : (pos : ℕ) → result ≡ Ok pos → MeetsNoEnd a0 a3
        open_ok pos is = subst (λ (r : Result ℕ Fault). OnOk r (MeetsNoEnd a0 a3)) is open_all

        refused_all : IfErr result (FailsToBring opens log_faults made d0.faults d2.faults a0 a3 s3.log)
        refused_all = fails_then opens log_faults made a0 a2 a3 s3.log none_before before.gains.keeps d0.faults d1.faults d2.faults result before.faults
            (subst (λ (o : _). IfErr result (FailsToBring opens log_faults made d1.faults o a2 a3 s3.log)) (sym same_faults) (plain_fails opens log_faults made a2 a3 s3.log d1.faults result fails ends))

        pub refused_err : (f : Fault) → result ≡ Err f → FailsToBring opens log_faults made d0.faults d2.faults a0 a3 s3.log f
        refused_err f is = subst (λ (r : Result ℕ Fault). IfErr r (FailsToBring opens log_faults made d0.faults d2.faults a0 a3 s3.log)) is refused_all
