-- What a request of a life makes of the turns.
use Rattle.std.proofs.Common.{◌≡◌, ℕ, ◌<◌, Bool, true, List, [], ◌∷◌, ◌++◌, Option, Some, None, refl, sym, ap, subst, ◌∙◌, inl, inr, Result, Ok, Err}
use Rattle.std.specs.Prelude.{is_some, unwrap_or}
use Rattle.media.specs.declared.disk.Disk.{Ghosts}
use Rattle.store_model.specs.declared.fault.Fault.{Fault}
use Rattle.store_model.specs.declared.fault.Fault.TheVariants as faults
use Rattle.store_model.specs.declared.reply.Outcome.{Outcome}
use Rattle.store_model.specs.declared.reply.Outcome.TheVariants as outcomes
use Rattle.store_model.specs.declared.request.Request.{Request}
use Rattle.wal_record.specs.declared.record.Record.{Record}
use Rattle.wal_record.specs.declared.entry.Entry.{Entry}
use Rattle.wal_record.specs.declared.entry.Entry.TheVariants.{Rec, Said, Declined, Refused}
use Rattle.log_laws.specs.Right.{IsRight}
use Rattle.command_laws.specs.Commands.{Among, Answers, IsBesideRequest, Tells}
use Rattle.command_laws.specs.Names.{Active, active_of, is_active}
use Rattle.engine.specs.Requests.{lock_of}
use Rattle.engine.specs.declared.answered.Answered.{Answered}
use Rattle.store_life.specs.Turns.{Asks, IsTold, WasInWay}
use Rattle.own_life.specs.State.{FailsToAnswer, GoesOn, LifeState, name_by}
use Rattle.script.specs.declared.command.Command.TheVariants as commands
use Rattle.script.specs.declared.command.Device.TheVariants.{Log, Vault}
use Rattle.transcript.specs.Lines.{conflict_line, failed_line, request_head, request_lines}
use Rattle.life_commands.specs.Faults.{FailsAs, IsRefusedLine}
use Rattle.life_commands.specs.Living.{Adds, IsDiskOf, Within}
use Rattle.life_commands.specs.LogDisk.{View, IsWhole, seen}
use Rattle.life_commands.specs.Promises.{Did, DidArmed, Refused as IsRefused}
use Rattle.life_commands.specs.Refusals.{RefusesAt}
use Rattle.life_commands.specs.Rows.{IsCutOff, WroteInRoom}
use Rattle.life_commands.specs.Text.{answer_lines}
use Rattle.life_commands.specs.Turns.{Life, Stage}
use Rattle.life_commands.specs.declared.status.Status.{Status}
use Rattle.life_commands.specs.declared.status.Status.TheVariants as statuses
use Rattle.life_commands.proofs.Commands as c
use Rattle.life_commands.proofs.Lives.{disk_seen}
use Rattle.life_commands.proofs.Entered.{amid_among, amid_none, room_declined, room_refused}
use Rattle.life_commands.proofs.Told.{had_room}

pub some_of : {A : Type 0} (o : Option A) → is_some o ≡ true → (a : A) × (o ≡ Some a)
some_of None e = absurd cc
some_of (Some a) e = (a, refl)

-- ---- the answer among the own entries

pub first_of : (session tx : ℕ) (request : Request) (reply : _) (own : List Entry) → Tells session tx request reply own → (first : Entry) × (more : List Entry) × (own ≡ first ∷ more)
first_of session tx request reply own (inl e) = (Said session tx request reply, [], e)
first_of session tx request reply own (inr (lsn, r, told, of, e)) = (Rec lsn r, Said session tx request reply ∷ [], e)

reply_is : (active : List Active) (name : List ℕ) (session tx : ℕ) (request : Request) (reply : _) (own : List Entry) → Tells session tx request reply own → request_lines name request reply ≡ answer_lines active name request own
reply_is active name session tx request reply own (inl e) = ap (λ (l : List Entry). answer_lines active name request l) (sym e)
reply_is active name session tx request reply own (inr (lsn, r, told, of, e)) = ap (λ (l : List Entry). answer_lines active name request l) (sym e)

-- ---- one request

module _ {D : Type 0} (L : Ghosts D) (opens : List Record → Type 0) (x y : LifeState) (name : List ℕ) (none : x.ended ≡ None) (names : y.active ≡ x.active) (right : (opening : List Record) → opens opening → IsRight opening y.history) (request : Request) where
  module _ (a : Active) (act : active_of x.active name ≡ Some a) (v : View L.tells) (s : Stage) (h : Within (seen L v) opens x s) where
    abbrev Was : Entry → Type 0
    Was e = IsBesideRequest (WasInWay opens x.history (lock_of request)) a.tx (lock_of request) e

    abbrev AsksFor : Result Answered Fault → Type 0
    AsksFor result = Asks opens a.session a.tx request result x.history y.history

    abbrev Room : List Entry → List Entry → Type 0
    Room own es = WroteInRoom (IsWhole v) s.life (commands.Ask name request) own es

    abbrev DidNow : List ℕ → Type 0
    DidNow out = Adds (IsWhole v) (Within (seen L v) opens y) s (commands.Ask name request) out

    -- the own entries of an answer
    module _ (result : Result Answered Fault) (asks : AsksFor result) (outcome : Outcome) (are : Answers a.session a.tx request (lock_of request) outcome asks.own)
        (first : Entry) (more : List Entry) (is : asks.own ≡ first ∷ more) (room : Room asks.own asks.entries) where
      among : Among Was asks.own asks.entries
      among = amid_among Was first more asks.own asks.entries is asks.among

      answered : GoesOn x y → (out : List ℕ) → out ≡ answer_lines s.active name request asks.own → DidNow out
      answered goes out text = c.did_answer (seen L v) opens x s h name a act request y asks.entries asks.added right none asks.own outcome are among room goes names out text

      lacking : (kept : ℕ) (disk : D) → IsDiskOf (seen L v) opens y kept disk → (line : ℕ) → RefusesAt (seen L v) kept disk opens y.history s (commands.Ask name request) line statuses.Memory
      lacking kept disk of line = c.answer_lacks (seen L v) opens x s h name a act request y asks.entries asks.added right none asks.own outcome are among room kept disk of line

    -- ---- a reply

    module _ (answer : Answered) (asks : AsksFor (Ok answer)) (told : IsTold opens a.session a.tx request y.history answer) where
      told_room : Room asks.own asks.entries
      told_room = subst (λ (o : Option Life). WroteInRoom (IsWhole v) o (commands.Ask name request) asks.own asks.entries) (sym h.life)
          (λ t before is. had_room h.here.opening a.session a.tx request answer.reply y.history told.before told.own before asks.own told.is told.tells
          (told.fresh h.here.opening (h.begins t)) (told.room h.here.opening (h.begins t)) (asks.added ∙ ap (λ (l : List Entry). l ++ asks.entries) (sym h.history) ∙ is) asks.are)

      replied : GoesOn x y → (out : List ℕ) → out ≡ request_lines name request answer.reply → DidNow out
      replied goes out text =
          let f = first_of a.session a.tx request answer.reply asks.own asks.are in
          answered (Ok answer) asks (outcomes.Replied answer.reply) asks.are f.0 f.1 f.2 told_room goes out (text ∙ reply_is s.active name a.session a.tx request answer.reply asks.own asks.are)

      reply_lacks : (kept : ℕ) (disk : D) → IsDiskOf (seen L v) opens y kept disk → (line : ℕ) → RefusesAt (seen L v) kept disk opens y.history s (commands.Ask name request) line statuses.Memory
      reply_lacks kept disk of line =
          let f = first_of a.session a.tx request answer.reply asks.own asks.are in
          lacking (Ok answer) asks (outcomes.Replied answer.reply) asks.are f.0 f.1 f.2 told_room kept disk of line

    -- ---- a refusal

    room_by : (own es : List Entry) (e : Entry) → own ≡ e ∷ [] → Room (e ∷ []) es → Room own es
    room_by own es e is room = subst (λ (l : List Entry). Room l es) (sym is) room

    cut : (fault : Fault) (asks : AsksFor (Err fault)) → asks.own ≡ [] → IsCutOff (IsWhole v) s (commands.Ask name request) asks.entries
    cut fault asks is = c.ask_cut (seen L v) opens x s h name a act request y asks.entries asks.added right none (amid_none Was asks.own asks.entries is asks.among)

    same_name : (holder : ℕ) (other : List ℕ) → name_by holder y.active ≡ Some other → name_by holder s.active ≡ Some other
    same_name holder other by = ap (λ (l : List Active). name_by holder l) (h.active ∙ sym names) ∙ by

    named : is_active x.active name ≡ true
    named = ap is_some act

    -- the vault's fuse refused a call
    vaulted : (asks : AsksFor (Err faults.VaultFault)) → s.armed.vault ≡ true → GoesOn x y → (out : List ℕ) → out ≡ failed_line (request_head name request) Vault → DidNow out
    vaulted asks armed goes out text =
        c.did_vault_fail (seen L v) opens x s h y asks.entries asks.added right (commands.Ask name request) (inr refl) (c.is_named (seen L v) opens x s h name true named) (cut faults.VaultFault asks asks.are) armed goes names out text

    vault_lacks : (fault : Fault) (asks : AsksFor (Err fault)) → fault ≡ faults.VaultFault → (kept : ℕ) (disk : D) → IsDiskOf (seen L v) opens y kept disk → (line : ℕ) → RefusesAt (seen L v) kept disk opens y.history s (commands.Ask name request) line statuses.Memory
    vault_lacks fault asks is kept disk of line =
        let these : AsksFor (Err faults.VaultFault) = subst (λ (f : Fault). AsksFor (Err f)) is asks in
        c.cut_memory (seen L v) opens x s h y these.entries these.added right (commands.Ask name request) tt (inl refl) (c.is_named (seen L v) opens x s h name true named) (cut faults.VaultFault these these.are) kept disk of line

    module _ (w w' : ℕ) (may : Fault → Type 0) (failed : List ℕ) (failed_is : failed ≡ failed_line (request_head name request) Log) (before now : ℕ) (more : before < now → x.calls.refused < y.calls.refused) where
      declined : (fault : Fault) (asks : AsksFor (Err fault)) → FailsToAnswer may opens w w' x y fault → (out : List ℕ) → IsRefusedLine y.active name request failed before now fault out → DidNow out
      declined (faults.Conflict holder range at) asks p out (other, by, text) =
          answered (Err (faults.Conflict holder range at)) asks (outcomes.Conflict holder range) asks.are (Refused a.tx (lock_of request).range (lock_of request).mode holder) [] asks.are
          (room_by asks.own asks.entries _ asks.are (room_refused (IsWhole v) s.life name request a.tx holder (lock_of request).range (lock_of request).mode asks.entries))
          p.1 out
          (text ∙ ap (λ (o : Option (List ℕ)). conflict_line (request_head name request) (unwrap_or o [])) (sym (same_name holder other by)) ∙ ap (λ (l : List Entry). answer_lines s.active name request l) (sym asks.are))
      declined (faults.Full pages pending at) asks p out text =
          answered (Err (faults.Full pages pending at)) asks (outcomes.Full pages pending) asks.are (Declined a.session a.tx request (outcomes.Full pages pending)) [] asks.are
          (room_by asks.own asks.entries _ asks.are (room_declined (IsWhole v) s.life name request request a.session a.tx (outcomes.Full pages pending) asks.entries))
          p.1 out (text ∙ ap (λ (l : List Entry). answer_lines s.active name request l) (sym asks.are))
      declined (faults.OpRefused at) asks p out text =
          answered (Err (faults.OpRefused at)) asks outcomes.OpRefused asks.are (Declined a.session a.tx request outcomes.OpRefused) [] asks.are
          (room_by asks.own asks.entries _ asks.are (room_declined (IsWhole v) s.life name request request a.session a.tx outcomes.OpRefused asks.entries))
          p.1 out (text ∙ ap (λ (l : List Entry). answer_lines s.active name request l) (sym asks.are))
      declined faults.LogFault asks p out (is, rose) =
          c.did_fail (seen L v) opens x s h y asks.entries asks.added right (commands.Ask name request) tt (inl refl) (c.is_named (seen L v) opens x s h name true named) (cut faults.LogFault asks asks.are) tt p names (more rose) out (is ∙ failed_is)
      declined _ asks p out line = absurd line

      ends : (fault : Fault) (asks : AsksFor (Err fault)) → FailsToAnswer may opens w w' x y fault → (status : Status) → FailsAs before now fault status → (kept : ℕ) (disk : D) → IsDiskOf (seen L v) opens y kept disk → (line : ℕ)
          → RefusesAt (seen L v) kept disk opens y.history s (commands.Ask name request) line status
      ends (faults.Conflict holder range at) asks p status says kept disk of line = subst (λ (z : Status). RefusesAt (seen L v) kept disk opens y.history s (commands.Ask name request) line z) (sym says)
          (lacking (Err (faults.Conflict holder range at)) asks (outcomes.Conflict holder range) asks.are (Refused a.tx (lock_of request).range (lock_of request).mode holder) [] asks.are
          (room_by asks.own asks.entries _ asks.are (room_refused (IsWhole v) s.life name request a.tx holder (lock_of request).range (lock_of request).mode asks.entries)) kept disk of line)
      ends (faults.Full pages pending at) asks p status says kept disk of line = subst (λ (z : Status). RefusesAt (seen L v) kept disk opens y.history s (commands.Ask name request) line z) (sym says)
          (lacking (Err (faults.Full pages pending at)) asks (outcomes.Full pages pending) asks.are (Declined a.session a.tx request (outcomes.Full pages pending)) [] asks.are
          (room_by asks.own asks.entries _ asks.are (room_declined (IsWhole v) s.life name request request a.session a.tx (outcomes.Full pages pending) asks.entries)) kept disk of line)
      ends (faults.OpRefused at) asks p status says kept disk of line = subst (λ (z : Status). RefusesAt (seen L v) kept disk opens y.history s (commands.Ask name request) line z) (sym says)
          (lacking (Err (faults.OpRefused at)) asks outcomes.OpRefused asks.are (Declined a.session a.tx request outcomes.OpRefused) [] asks.are
          (room_by asks.own asks.entries _ asks.are (room_declined (IsWhole v) s.life name request request a.session a.tx outcomes.OpRefused asks.entries)) kept disk of line)
      ends faults.LogFault asks p status says kept disk of line = subst (λ (z : Status). RefusesAt (seen L v) kept disk opens y.history s (commands.Ask name request) line z) (sym says.0)
          (c.cut_fault (seen L v) opens x s h y asks.entries asks.added right (commands.Ask name request) tt (inl refl) (c.is_named (seen L v) opens x s h name true named) (cut faults.LogFault asks asks.are) kept disk of line)
      ends (faults.LogBad block byte) asks p status says kept disk of line = subst (λ (z : Status). RefusesAt (seen L v) kept disk opens y.history s (commands.Ask name request) line z) (sym says)
          (c.cut_bad (seen L v) opens x s h y asks.entries asks.added right (commands.Ask name request) tt (inl refl) (c.is_named (seen L v) opens x s h name true named) (cut (faults.LogBad block byte) asks asks.are) kept disk of line block byte p.1)
      ends faults.VaultFault asks p status says kept disk of line = subst (λ (z : Status). RefusesAt (seen L v) kept disk opens y.history s (commands.Ask name request) line z) (sym says)
          (c.cut_vault (seen L v) opens x s h y asks.entries asks.added right (commands.Ask name request) tt (inl refl) (c.is_named (seen L v) opens x s h name true named) (cut faults.VaultFault asks asks.are) kept disk of line)
      ends (faults.VaultBad object byte) asks p status says kept disk of line = subst (λ (z : Status). RefusesAt (seen L v) kept disk opens y.history s (commands.Ask name request) line z) (sym says)
          (c.cut_object (seen L v) opens x s h y asks.entries asks.added right (commands.Ask name request) tt (inl refl) (c.is_named (seen L v) opens x s h name true named) (cut (faults.VaultBad object byte) asks asks.are) kept disk of line object byte p.1)
      ends faults.Memory asks p status says kept disk of line = subst (λ (z : Status). RefusesAt (seen L v) kept disk opens y.history s (commands.Ask name request) line z) (sym says)
          (c.cut_memory (seen L v) opens x s h y asks.entries asks.added right (commands.Ask name request) tt (inl refl) (c.is_named (seen L v) opens x s h name true named) (cut faults.Memory asks asks.are) kept disk of line)
      ends _ asks p status says kept disk of line = absurd p

  -- ---- whatever the turns before

  module _ (on : is_active x.active name ≡ true) where
    pub ask_replies : (answer : Answered) → ((a : Active) → active_of x.active name ≡ Some a → Asks opens a.session a.tx request (Ok answer) x.history y.history)
        → ((a : Active) → active_of x.active name ≡ Some a → IsTold opens a.session a.tx request y.history answer) → GoesOn x y
        → (out : List ℕ) → out ≡ request_lines name request answer.reply → Did L opens x y (commands.Ask name request) out
    ask_replies answer asks told goes out text = λ v s h. let p = some_of (active_of x.active name) on in replied p.0 p.1 v s h answer (asks p.0 p.1) (told p.0 p.1) goes out text

    pub ask_lacks : (answer : Answered) → ((a : Active) → active_of x.active name ≡ Some a → Asks opens a.session a.tx request (Ok answer) x.history y.history)
        → ((a : Active) → active_of x.active name ≡ Some a → IsTold opens a.session a.tx request y.history answer) → (line : ℕ) → IsRefused L opens x y (commands.Ask name request) line statuses.Memory
    ask_lacks answer asks told line = λ v s h kept disk of. let p = some_of (active_of x.active name) on in reply_lacks p.0 p.1 v s h answer (asks p.0 p.1) (told p.0 p.1) kept disk (disk_seen L v opens y kept disk of) line

    pub ask_declined : (w w' : ℕ) (may : Fault → Type 0) (failed : List ℕ) → failed ≡ failed_line (request_head name request) Log → (before now : ℕ) → (before < now → x.calls.refused < y.calls.refused) → (fault : Fault)
        → ((a : Active) → active_of x.active name ≡ Some a → Asks opens a.session a.tx request (Err fault) x.history y.history) → FailsToAnswer may opens w w' x y fault
        → (out : List ℕ) → IsRefusedLine y.active name request failed before now fault out → Did L opens x y (commands.Ask name request) out
    ask_declined w w' may failed failed_is before now more fault asks p out line = λ v s h. let q = some_of (active_of x.active name) on in declined q.0 q.1 v s h w w' may failed failed_is before now more fault (asks q.0 q.1) p out line

    pub ask_vaulted : (fault : Fault) → fault ≡ faults.VaultFault → ((a : Active) → active_of x.active name ≡ Some a → Asks opens a.session a.tx request (Err fault) x.history y.history)
        → (w w' : ℕ) (may : Fault → Type 0) → FailsToAnswer may opens w w' x y fault → (armed : Bool) → armed ≡ true → (out : List ℕ) → out ≡ failed_line (request_head name request) Vault → DidArmed L opens armed x y (commands.Ask name request) out
    ask_vaulted fault is asks w w' may p armed set out text = λ v s same h.
        let q = some_of (active_of x.active name) on in
        vaulted q.0 q.1 v s h (subst (λ (f : Fault). Asks opens q.0.session q.0.tx request (Err f) x.history y.history) is (asks q.0 q.1)) (same ∙ set) (subst (λ (f : Fault). FailsToAnswer may opens w w' x y f) is p).0 out text

    pub ask_vault_lacks : (fault : Fault) → fault ≡ faults.VaultFault → ((a : Active) → active_of x.active name ≡ Some a → Asks opens a.session a.tx request (Err fault) x.history y.history) → (line : ℕ) → IsRefused L opens x y (commands.Ask name request) line statuses.Memory
    ask_vault_lacks fault is asks line = λ v s h kept disk of. let q = some_of (active_of x.active name) on in vault_lacks q.0 q.1 v s h fault (asks q.0 q.1) is kept disk (disk_seen L v opens y kept disk of) line

    pub ask_ends : (w w' : ℕ) (may : Fault → Type 0) (failed : List ℕ) → failed ≡ failed_line (request_head name request) Log → (before now : ℕ) → (before < now → x.calls.refused < y.calls.refused) → (fault : Fault)
        → ((a : Active) → active_of x.active name ≡ Some a → Asks opens a.session a.tx request (Err fault) x.history y.history) → FailsToAnswer may opens w w' x y fault
        → (status : Status) → FailsAs before now fault status → (line : ℕ) → IsRefused L opens x y (commands.Ask name request) line status
    ask_ends w w' may failed failed_is before now more fault asks p status says line = λ v s h kept disk of. let q = some_of (active_of x.active name) on in ends q.0 q.1 v s h w w' may failed failed_is before now more fault (asks q.0 q.1) p status says kept disk (disk_seen L v opens y kept disk of) line
