-- What a caller knows behind a group that was entered, or wasn't.
use Rattle.std.proofs.Common.{◌≡◌, ℕ, ◌+◌, ◌≤◌, List, [], ◌∷◌, ◌++◌, length, Option, Some, None, refl, sym, ap, ◌∙◌, subst, arith}
use Rattle.std.specs.Prelude.{◌<◌, IsSome, IsTrue, Ok, Err}
use Rattle.std.specs.Option.{option_map}
use Rattle.books.specs.Rights.{PageClaim, SessionClaim, MaintClaim}
use Rattle.front.specs.Seen.{PassSeen}
use Rattle.front.proofs.Keeping.{prefix_trans}
use Rattle.life_history.specs.Groups.{counted_group, own_entries, raised, raised_page, raised_session, raised_maintenance, new_or}
use Rattle.life_history.specs.Kept.{counted_more}
use Rattle.life_history.proofs.Entering.{entered_then}
use Rattle.page_ops.specs.Asking.{HasRoomFor}
use Rattle.page_ops.specs.Claims.{Claims, SessionAgrees, session_alone}
use Rattle.page_ops.proofs.Gaining.{calls_self, ended_self}
use Rattle.page_ops.specs.Groups.{made_by, group_entries}
use Rattle.page_ops.specs.Names.{LedgerName}
use Rattle.page_ops.specs.Outcomes.{EntersGroup, IsFilledIn, page_of, new_place}
use Rattle.page_ops.specs.Seeing.{Account, known, Keeps, Enters, IsConsistent, IsMoment, of_sessions}
use Rattle.page_ops.specs.declared.group.Group.{Group}
use Rattle.page_ops.specs.declared.group.Said.{Said}
use Rattle.page_ops.specs.declared.outcome.Entered.TheVariants as entered
use Rattle.store_model.specs.declared.fault.Fault.TheVariants as faults
use Rattle.wal_record.specs.declared.record.End.{End}
use Rattle.wal_record.specs.declared.record.Record.{Record}
use Rattle.wal_record.specs.declared.record.Record.TheVariants as kinds
use Rattle.wal_record.specs.declared.entry.Entry.{Entry}
use Rattle.wal_record.specs.History.{Live, phase}
use Rattle.journal.specs.Locks.{AreAcknowledged}
use Rattle.journal.specs.Groups.{IsNewRight, EndsLoser, EndsSession, EntersFilled, EntersNow}
use Rattle.page_ops.specs.Groups.{AreFilled}
use Rattle.wal_record.specs.State.{is_child}
use Rattle.journal.proofs.Locking.{live_of}

-- what was seen is a moment of the history, at which the rights agree
pub at_moment : (opens : List Record → Type 0) (entries sessions : LedgerName) (a a' : Account) (s s' : PassSeen Entry) (h : List Entry) (x x' : Claims) → Enters opens entries sessions (known a s x) [] (known a' s' x') → x' ≡ x → s'.log ≡ h → IsMoment opens s.log x h
at_moment opens entries sessions a a' s s' h x x' e claims log = subst (λ (y : Claims × List Entry). IsMoment opens s.log y.0 y.1) (λ i. (claims i, log i)) e.now

-- for want of memory nothing is entered
pub refused_group : (opens : List Record → Type 0) (entries sessions : LedgerName) (asked now : Group) (a0 a1 a2 : Account) (s0 s1 : PassSeen Entry) (x0 x1 x2 : Claims)
    → Enters opens entries sessions (known a0 s0 x0) [] (known a1 s1 x1) → a2 ≡ a1 → x2 ≡ x1 → EntersGroup opens entries sessions asked now (Err faults.Memory) (known a0 s0 x0) (known a2 s1 x2)
refused_group opens entries sessions asked now a0 a1 a2 s0 s1 x0 x1 x2 e account claims =
    record { enters = subst (λ (y : Account × Claims). Enters opens entries sessions (known a0 s0 x0) [] (known y.0 s1 y.1)) (λ i. (sym account i, sym claims i)) e; room = tt }

-- what a session with a transaction knows behind a look, where no commit waits: its transaction is live
pub record IsLive (opens : List Record → Type 0) (h : List Entry) (x : SessionClaim) : Type 0 where
  pub consistent : IsConsistent opens h
  pub agrees : SessionAgrees h x
  pub some : 0 < x.tx
  pub live : phase h x.tx ≡ Live

pub looked : (opens : List Record → Type 0) (entries sessions : LedgerName) (a0 a1 : Account) (s0 s1 : PassSeen Entry) (x0 x1 : SessionClaim) (h0 h : List Entry) → Enters opens entries sessions (known a0 s0 (session_alone x0)) [] (known a1 s1 (session_alone x1))
    → s1.log ≡ h0 → h ≡ h0 → AreAcknowledged h0 → x1 ≡ x0 → 0 < x0.tx → IsLive opens h x1
looked opens entries sessions a0 a1 s0 s1 x0 x1 h0 h e log same calm claim some =
    let here : s1.log ≡ h = log ∙ sym same in
    let agrees = subst (λ (l : List Entry). SessionAgrees l x1) here e.now.rights.s in
    let active : 0 < x1.tx = subst (λ (x : SessionClaim). 0 < x.tx) (sym claim) some in
    record {
      consistent = subst (IsConsistent opens) here e.now.consistent;
      agrees = agrees;
      some = active;
      live = live_of h x1 agrees active (subst AreAcknowledged (sym same) calm);
    }

-- an entry of a session's own, behind a look
pub entered_entry : (opens : List Record → Type 0) (entries sessions : LedgerName) (a0 a1 a2 a3 : Account) (s0 s1 s3 : PassSeen Entry) (x0 x1 x3 : SessionClaim) (h h3 : List Entry) (e : Entry)
    → Enters opens entries sessions (known a0 s0 (session_alone x0)) [] (known a1 s1 (session_alone x1)) → a1 ≡ a0 → a2 ≡ a1 → x1 ≡ x0 → s1.log ≡ h → h3 ≡ h ++ e ∷ [] → s3.log ≡ h3 → s1.durable ≤ s3.durable → a3 ≡ counted_more a2 1
    → of_sessions h3 ≡ of_sessions h + 1 → IsConsistent opens (h ++ e ∷ []) → SessionAgrees h3 x3 → Enters opens entries sessions (known a0 s0 (session_alone x0)) (e ∷ []) (known a3 s3 (session_alone x3))
entered_entry opens entries sessions a0 a1 a2 a3 s0 s1 s3 x0 x1 x3 h h3 e first account same claim log now seen later more own consistent agrees =
    entered_then opens entries sessions a0 a1 a3 s0 s1 s3 (session_alone x0) (session_alone x1) (session_alone x3) h (e ∷ []) 1 first account (ap session_alone claim) log (seen ∙ now) refl later
    (more ∙ ap (λ (a : Account). counted_more a 1) same) (subst (λ (l : List Entry). of_sessions l ≡ of_sessions h + 1) now own) consistent
    (record { a = tt; b = tt; c = tt; s = subst (λ (l : List Entry). SessionAgrees l x3) now agrees; m = tt })

-- ---- a group

pub keeps_group : (a : Account) (n own : ℕ) → Keeps a (counted_group a n own)
keeps_group a n own = record { entry_parts = refl; session_parts = refl; log_parts = refl; vault_parts = refl; log_faults = omega arith; vault_faults = omega arith; made = refl; ended = ended_self a.ended; calls = calls_self a.calls a.log_faults.amount }

module _ (opens : List Record → Type 0) (entries sessions : LedgerName) (asked now : Group) (a0 a1 a2 a3 a4 : Account) (s0 s1 s3 : PassSeen Entry) (h1 h3 : List Entry) (x0 x1 x3 x4 : Claims) (pos : ℕ) where
  pub entered_group : Enters opens entries sessions (known a0 s0 x0) [] (known a1 s1 x1) → a1 ≡ a0 → a2 ≡ a1 → x1 ≡ x0 → s1.log ≡ h1 → EntersNow asked now x1 x3 a2 a3 h1 h3
      → Enters opens entries sessions (known a3 s1 x3) [] (known a4 s3 x4) → a4 ≡ a3 → s3.log ≡ h3 → ((opening : List Record) → opens opening → HasRoomFor opening h1 asked)
      → EntersGroup opens entries sessions asked now (Ok (entered.At pos)) (known a0 s0 x0) (known a4 s3 x4)
  entered_group e account checked claims log p after same seen room =
      let es = group_entries now.lsn now.recs asked.said in
      let own = p.own in
      let is : s3.log ≡ s1.log ++ es = seen ∙ p.history ∙ ap (λ h. h ++ es) (sym log) in
      let sums : a4 ≡ counted_group a0 (length es) own = same ∙ p.counted ∙ ap (λ (a : Account). counted_group a (length es) own) (checked ∙ account) in
      record {
        enters = record {
          moment = s1.log;
          found = at_moment opens entries sessions a0 a1 s0 s1 s1.log x0 x1 e claims refl;
          is = is;
          now = record { begins = prefix_trans s0.log s1.log s3.log e.now.begins after.now.begins; consistent = after.now.consistent; rights = after.now.rights };
          durable = let first = e.durable in let then = after.durable in omega (arith, first, then);
          keeps = subst (λ a. Keeps a0 a) (sym sums) (keeps_group a0 (length es) own);
          counted = ap (λ (a : Account). a.entries.amount) sums;
          sessions_counted =
              let one : of_sessions s3.log ≡ of_sessions s1.log + own = ap of_sessions seen ∙ p.belongs ∙ ap (λ h. of_sessions h + own) (sym log) in
              let sum = ap (λ (a : Account). a.session_entries.amount) sums in
              omega (arith, one, sum);
          totals = after.totals;
        };
        room = λ opening stands. subst (λ h. HasRoomFor opening h asked) (sym log) (room opening stands);
      }

pages_of : (lsn : ℕ) (recs : List Record) (o : Option PageClaim) → page_of (option_map (raised_page lsn recs) o) ≡ page_of o
pages_of lsn recs None = refl
pages_of lsn recs (Some p) = refl

sessions_of : (own : ℕ) (o : Option SessionClaim) → option_map (λ (s : SessionClaim). s.session) (option_map (raised_session own) o) ≡ option_map (λ (s : SessionClaim). s.session) o
sessions_of own None = refl
sessions_of own (Some s) = refl

numbers_of : (lsn : ℕ) (recs : List Record) (o : Option MaintClaim) → option_map (λ (m : MaintClaim). m.number) (option_map (raised_maintenance lsn recs) o) ≡ option_map (λ (m : MaintClaim). m.number) o
numbers_of lsn recs None = refl
numbers_of lsn recs (Some m) = refl

new_of : (lsn : ℕ) (recs : List Record) (made old : Option PageClaim) → page_of (new_or (option_map (raised_page lsn recs) made) (option_map (raised_page lsn recs) old)) ≡ page_of (new_or made old)
new_of lsn recs None old = pages_of lsn recs old
new_of lsn recs (Some p) old = refl

-- a group behind which all rights are raised
pub enters_filled : (recs : List Record) (said : Option Said) (made : Option PageClaim) (x x' : Claims) (a a' : Account) (h h' : List Entry) (lsn : ℕ) → h' ≡ h ++ group_entries lsn recs said → x' ≡ raised x made lsn recs said
    → a' ≡ counted_group a (length (group_entries lsn recs said)) (own_entries x.s recs said) → of_sessions h' ≡ of_sessions h + own_entries x.s recs said → EntersFilled recs said made x x' a a' h h' lsn
enters_filled recs said made x x' a a' h h' lsn history rights counted belongs = record {
  own = own_entries x.s recs said;
  history = history;
  counted = counted;
  belongs = belongs;
  holders = record {
    a = ap (λ (x : Claims). page_of x.a) rights ∙ pages_of lsn recs x.a;
    b = ap (λ (x : Claims). page_of x.b) rights ∙ pages_of lsn recs x.b;
    s = ap (λ (x : Claims). option_map (λ (s : SessionClaim). s.session) x.s) rights ∙ sessions_of (own_entries x.s recs said) x.s;
    m = ap (λ (x : Claims). option_map (λ (m : MaintClaim). m.number) x.m) rights ∙ numbers_of lsn recs x.m;
  };
  place = ap (λ (x : Claims). page_of x.c) rights ∙ new_of lsn recs made x.c;
}

-- the End of a session's transaction
pub ends_filled : (end : End) (s s' : SessionClaim) (x : Claims) (a a' : Account) (h h' : List Entry) (lsn : ℕ) → x.s ≡ Some s → EndsSession end s s' a a' h h' lsn
    → EntersFilled (kinds.End end ∷ []) None None x (record x { s = Some s' }) a a' h h' lsn
ends_filled end s s' x a a' h h' lsn was e = record {
  own = 1;
  history = e.history;
  counted = e.counted;
  belongs = e.belongs;
  holders = record { a = refl; b = refl; s = ap (λ (s : SessionClaim). Some s.session) e.right ∙ sym (ap (option_map (λ (s : SessionClaim). s.session)) was); m = refl };
  place = refl;
}

-- that of a loser: every right stays as it is
pub loser_filled : (end : End) (x : Claims) (a a' : Account) (h h' : List Entry) (lsn : ℕ) → EndsLoser end a a' h h' lsn → EntersFilled (kinds.End end ∷ []) None None x x a a' h h' lsn
loser_filled end x a a' h h' lsn e = record {
  own = 0;
  history = e.history;
  counted = e.counted;
  belongs = let same = e.belongs in omega (arith, same);
  holders = record { a = refl; b = refl; s = refl; m = refl };
  place = refl;
}

place_of : (n : Option ℕ) (child : ℕ) (made old : Option PageClaim) → IsNewRight n child made → page_of (new_or made old) ≡ new_place n child (page_of old)
place_of None child made old is = ap (λ (m : Option PageClaim). page_of (new_or m old)) is
place_of (Some n) child None old is = absurd (cc is)
place_of (Some n) child (Some p) old is = is

-- records and an answer that were entered are those of the group
pub enters_now : (asked now : Group) (x x' : Claims) (a a' : Account) (h h' : List Entry) (child : ℕ) (made : Option PageClaim) → AreFilled child asked.recs now.recs → now ≡ record asked { recs = now.recs; lsn = now.lsn }
    → EntersFilled now.recs asked.said made x x' a a' h h' now.lsn → IsNewRight (made_by asked.recs) child made → (IsSome (made_by asked.recs) → IsTrue (is_child child)) → EntersNow asked now x x' a a' h h'
enters_now asked now x x' a a' h h' child made filling is e new numbered = record {
  child = child;
  own = e.own;
  filled = filling;
  is = is;
  history = e.history;
  counted = e.counted;
  belongs = e.belongs;
  holders = e.holders;
  made = e.place ∙ place_of (made_by asked.recs) child made x.c new;
  numbered = numbered;
}

pub filled_in : (asked now : Group) (a a' : Account) (h1 h3 : List Entry) (x0 x1 x3 x4 : Claims) → EntersNow asked now x1 x3 a a' h1 h3 → x1 ≡ x0 → x4 ≡ x3 → IsFilledIn asked now x0 x4
filled_in asked now a a' h1 h3 x0 x1 x3 x4 p first last = subst (λ (y : Claims × Claims). IsFilledIn asked now y.0 y.1) (λ i. (first i, sym last i)) (record {
  child = p.child;
  recs = p.filled;
  holders = p.holders;
  made = p.made;
  numbered = p.numbered;
})
