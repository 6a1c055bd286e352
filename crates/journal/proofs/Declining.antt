-- A request that is declined, since there is no room for its write.
use Rattle.std.proofs.Common.{◌≡◌, ℕ, ◌+◌, ◌≤◌, ◌<◌, List, [], ◌∷◌, ◌++◌, length, Option, Some, None, true, refl, sym, ap, ◌∙◌, subst, arith, append-nil}
use Rattle.std.specs.Prelude.{IfErr, IsSome, Result, Ok, Err}
use Rattle.books.specs.Rights.{SessionClaim}
use Rattle.front.specs.Seen.{PassSeen}
use Rattle.store_model.specs.declared.fault.Fault.{Fault}
use Rattle.store_model.specs.declared.fault.Fault.TheVariants as faults
use Rattle.store_model.specs.declared.reply.Outcome.{Outcome}
use Rattle.store_model.specs.declared.reply.Outcome.TheVariants as outcomes
use Rattle.store_model.specs.declared.request.Request.{Request}
use Rattle.wal_record.specs.Chains.{pages}
use Rattle.wal_record.specs.Checkpoints.{limit_of}
use Rattle.wal_record.specs.History.{life_log}
use Rattle.wal_record.specs.Legal.{MayDecline}
use Rattle.wal_record.specs.OpenWrites.{pending}
use Rattle.wal_record.specs.declared.record.Record.{Record}
use Rattle.wal_record.specs.declared.entry.Entry.{Entry}
use Rattle.wal_record.specs.declared.entry.Entry.TheVariants as entries
use Rattle.wal_record.proofs.Pushes.{log_same}
use Rattle.page_ops.specs.Asking.{LacksRoomFor, MayBeDeclined, needed}
use Rattle.page_ops.specs.Claims.{Claims, Agree, session_alone}
use Rattle.page_ops.specs.Groups.{HasSpeaker, declined_entries}
use Rattle.page_ops.specs.Names.{LedgerName}
use Rattle.page_ops.specs.Outcomes.{EntersGroup, IsAnswer, IsFull}
use Rattle.page_ops.specs.Seeing.{Account, known, Enters, IsConsistent, IsMoment, of_sessions}
use Rattle.page_ops.specs.declared.group.Group.{Group}
use Rattle.page_ops.specs.declared.group.Said.{Said}
use Rattle.page_ops.specs.declared.outcome.Entered.{Entered}
use Rattle.page_ops.specs.declared.outcome.Entered.TheVariants as entered
use Rattle.life_history.specs.Kept.{counted_more}
use Rattle.life_history.proofs.Entering.{entered_then}
use Rattle.life_history.proofs.Own.{consistent_entry}
use Rattle.journal.specs.Declined.{IsTaken, IsSame, IsDeclined}
use Rattle.journal.specs.declared.taken.Taken.{Taken}

abbrev pub declined : Said → Taken → Entry
declined said full = entries.Declined said.session said.tx said.request (outcomes.Full full.pages full.pending)

pub declined_consistent : (opens : List Record → Type 0) (h : List Entry) (said : Said) (full : Taken) → IsConsistent opens h → IsTaken opens h full → ((opening : List Record) → opens opening → MayBeDeclined opening h (Some said)) → IsConsistent opens (h ++ declined said full ∷ [])
declined_consistent opens h said full c told may = consistent_entry opens h (declined said full) c refl refl (λ log. refl) (λ opening stands.
    let is = told opening stands in
    subst (λ (x : ℕ × ℕ). MayDecline opening h said.session said.tx said.request (outcomes.Full x.0 x.1)) (λ i. (sym is.0 i, sym is.1 i)) (may opening stands))

-- the session of the right speaks
pub speaker_of : (o : Option SessionClaim) (p : Option Said) (s : SessionClaim) (said : Said) → HasSpeaker o p → o ≡ Some s → p ≡ Some said → (said.session ≡ s.session) × (said.tx ≡ s.tx)
speaker_of o p s said speaks is told = subst (λ (x : Option SessionClaim × Option Said). HasSpeaker x.0 x.1) (λ i. (is i, told i)) speaks

same_log : (opening : List Record) (h : List Entry) (said : Option Said) (why : Outcome) → life_log opening (h ++ declined_entries said why) ≡ life_log opening h
same_log opening h (Some s) why = log_same opening h (entries.Declined s.session s.tx s.request why) refl
same_log opening h None why = ap (life_log opening) (append-nil h)

one_declined : (said : Option Said) (why : Outcome) → IsSome said → length (declined_entries said why) ≡ 1
one_declined (Some s) why some = refl
one_declined None why some = absurd (cc some)

none_more : (a : Account) → a ≡ counted_more a 0
none_more a =
    let own : a.entries.amount ≡ a.entries.amount + 0 = omega arith in
    let belonging : a.session_entries.amount ≡ a.session_entries.amount + 0 = omega arith in
    λ i. record a { entries = record { parts = a.entries.parts; amount = own i }; session_entries = record { parts = a.session_entries.parts; amount = belonging i } }

module _ (opens : List Record → Type 0) (ledger sessions : LedgerName) (asked : Group) (a0 a1 a2 a3 a4 : Account) (s0 s1 s2 s4 : PassSeen Entry) (h1 h3 : List Entry) (x0 x1 x3 x4 : Claims)
    (first : Enters opens ledger sessions (known a0 s0 x0) [] (known a1 s1 x1)) (account : a1 ≡ a0) (checked : a2 ≡ a1) (claims : x1 ≡ x0) (log : s1.log ≡ h1) (later : s1.durable ≤ s2.durable)
    (after : Enters opens ledger sessions (known a3 s2 x3) [] (known a4 s4 x4)) (same : a4 ≡ a3) (seen : s4.log ≡ h3) where
  step : (es : List Entry) (n : ℕ) → h3 ≡ h1 ++ es → length es ≡ n → a3 ≡ counted_more a2 n → of_sessions h3 ≡ of_sessions h1 + n → Enters opens ledger sessions (known a0 s0 x0) es (known a4 s4 x4)
  step es n now count more own =
      let here : s4.log ≡ h1 ++ es = seen ∙ now in
      entered_then opens ledger sessions a0 a1 a4 s0 s1 s4 x0 x1 x4 h1 es n first account claims log here count (let d = after.durable in omega (arith, later, d))
      (same ∙ more ∙ ap (λ (a : Account). counted_more a n) checked) (subst (λ (l : List Entry). of_sessions l ≡ of_sessions h1 + n) now own)
      (subst (IsConsistent opens) here after.now.consistent) (subst (λ (l : List Entry). Agree opens l x4) here after.now.rights)

  nothing : IsSame x1 x3 a2 a3 h1 h3 → Enters opens ledger sessions (known a0 s0 x0) [] (known a4 s4 x4)
  nothing d = step [] 0 (d.history ∙ sym (append-nil h1)) refl (d.counted ∙ none_more a2) (ap of_sessions d.history ∙ omega arith)

  pub declined_group : (result : Result Entered Fault) → IsDeclined opens asked result x1 x3 a2 a3 h1 h3 → EntersGroup opens ledger sessions asked asked result (known a0 s0 x0) (known a4 s4 x4)
  declined_group (Ok entered.NoRoom) d = record { enters = nothing d.1; room = tt }
  declined_group (Err faults.Memory) d = record { enters = nothing d; room = tt }
  declined_group (Err (faults.Full p q at)) d = record {
    enters = step (declined_entries asked.said (outcomes.Full p q)) 1 d.history (one_declined asked.said (outcomes.Full p q) d.some) d.counted d.belongs;
    room = tt;
  }
  declined_group _ d = absurd d

pub declined_full : (opens : List Record → Type 0) (asked : Group) (x x' : Claims) (a a' : Account) (h h' seen : List Entry) (f : Fault) → IsDeclined opens asked (Err f) x x' a a' h h' → seen ≡ h' → asked.room ≡ true → ((opening : List Record) → opens opening → LacksRoomFor opening h asked) → IsFull opens seen asked f
declined_full opens asked x x' a a' h h' seen (faults.Full p q at) d is room lacks =
    let same : (opening : List Record) → life_log opening seen ≡ life_log opening h = λ opening. ap (life_log opening) (is ∙ d.history) ∙ same_log opening h asked.said (outcomes.Full p q) in (
      room,
      d.some,
      d.place ∙ ap (λ (l : List Entry). length l) (sym is),
      λ opening stands.
          let told = d.told opening stands in
          let log = same opening in (
            told.0 ∙ ap pages (sym log),
            told.1 ∙ ap pending (sym log),
            short asked.said d.some (limit_of (life_log opening seen)) (limit_of (life_log opening h)) p q (pages (life_log opening h)) (pending (life_log opening h)) (ap limit_of log) told.0 told.1 (lacks opening stands).1,
          ),
    )
  where
    short : (said : Option Said) → IsSome said → (l k p q m n : ℕ) → l ≡ k → p ≡ m → q ≡ n → k < m + n + needed said → l < p + q + 2
    short (Some s) some l k p q m n a b c low = omega (arith, a, b, c, low)
    short None some l k p q m n a b c low = absurd (cc some)
declined_full opens asked x x' a a' h h' seen _ d is room lacks = tt

pub declined_answer : (opens : List Record → Type 0) (asked : Group) (x x' : Claims) (a a' : Account) (h h' seen : List Entry) (e : Entered) → IsDeclined opens asked (Ok e) x x' a a' h h' → seen ≡ h' → asked.room ≡ true → ((opening : List Record) → opens opening → LacksRoomFor opening h asked) → IsAnswer opens seen asked e
declined_answer opens asked x x' a a' h h' seen entered.NoRoom d is room lacks =
    (d.0, room, λ opening stands. subst (λ (l : List Entry). LacksRoomFor opening l asked) (sym (is ∙ d.1.history)) (lacks opening stands))
declined_answer opens asked x x' a a' h h' seen _ d is room lacks = absurd d

pub full_of : (opens : List Record → Type 0) (asked : Group) (x x' : Claims) (a a' : Account) (h h' seen : List Entry) (r : Result Entered Fault) → IsDeclined opens asked r x x' a a' h h' → seen ≡ h' → asked.room ≡ true → ((opening : List Record) → opens opening → LacksRoomFor opening h asked) → IfErr r (IsFull opens seen asked)
full_of opens asked x x' a a' h h' seen (Ok e) d is room lacks = tt
full_of opens asked x x' a a' h h' seen (Err f) d is room lacks = declined_full opens asked x x' a a' h h' seen f d is room lacks

-- ---- for want of a meaning

pub refused_consistent : (opens : List Record → Type 0) (seen h : List Entry) (session tx : ℕ) (request : Request) (x0 x : SessionClaim) → session ≡ x.session → tx ≡ x.tx → x ≡ x0 → IsMoment opens seen (session_alone x) h
    → ((opening : List Record) (l : List Entry) → opens opening → IsMoment opens seen (session_alone x0) l → MayDecline opening l x0.session x0.tx request outcomes.OpRefused) → IsConsistent opens (h ++ entries.Declined session tx request outcomes.OpRefused ∷ [])
refused_consistent opens seen h session tx request x0 x own same claim m may = consistent_entry opens h (entries.Declined session tx request outcomes.OpRefused) m.consistent refl refl (λ log. refl) (λ opening stands.
    let law = may opening h stands (subst (λ (y : SessionClaim). IsMoment opens seen (session_alone y) h) claim m) in
    subst (λ (y : ℕ × ℕ). MayDecline opening h y.0 y.1 request outcomes.OpRefused) (λ i. (sym (own ∙ ap (λ (y : SessionClaim). y.session) claim) i, sym (same ∙ ap (λ (y : SessionClaim). y.tx) claim) i)) law)

-- nothing is told of an end
pub declined_ended : (opens : List Record → Type 0) (asked : Group) (x x' : Claims) (a a' : Account) (h h' : List Entry) (r : Result Entered Fault) → IsDeclined opens asked r x x' a a' h h' → a'.ended ≡ a.ended
declined_ended opens asked x x' a a' h h' (Ok entered.NoRoom) d = ap (λ (y : Account). y.ended) d.1.counted
declined_ended opens asked x x' a a' h h' (Ok _) d = absurd d
declined_ended opens asked x x' a a' h h' (Err faults.Memory) d = ap (λ (y : Account). y.ended) d.counted
declined_ended opens asked x x' a a' h h' (Err (faults.Full pages pending at)) d = ap (λ (y : Account). y.ended) d.counted
declined_ended opens asked x x' a a' h h' (Err _) d = absurd d
