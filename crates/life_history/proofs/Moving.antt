-- An entry by which a session's transaction goes on to another phase: its commit, and that this is acknowledged.
use Rattle.std.proofs.Common.{◌≡◌, ◌≢◌, ℕ, suc, eqb, cond, ◌+◌, ◌*◌, ◌≤◌, ◌<◌, ◌^◌, List, [], ◌∷◌, ◌++◌, Option, Some, Bool, true, false, refl, sym, ap, ◌∙◌, subst, arith, length-append, append-nil}
use Rattle.std.specs.Prelude.{max, nat_le}
use Rattle.std.proofs.lemmas.Bool.Decides.{nat_tests}
use Rattle.books.specs.Booking.{entry, entry_of, replaced}
use Rattle.books.specs.Rights.{SessionClaim, session_entry}
use Rattle.wal_record.specs.Books.{maintenance_step, maintenance_book, belongs, session_entries, unless_over, session_transaction}
use Rattle.wal_record.specs.Chains.{head, greatest}
use Rattle.wal_record.specs.History.{life_log, Phase, Live, Committed, Acknowledged, Ended, phase, phase_step, is_live, is_over, Beginning, beginnings, is_owner, begun_step, greatest_begun, session_step, last_begun}
use Rattle.wal_record.specs.declared.record.Record.{Record}
use Rattle.wal_record.specs.declared.record.Record.TheVariants as kinds
use Rattle.wal_record.specs.declared.entry.Entry.{Entry}
use Rattle.wal_record.specs.declared.entry.Entry.TheVariants as entries
use Rattle.wal_record.proofs.Pushes.{head_push, log_same, log_more, beginnings_push, begun_push, last_begun_push, phase_push, maintenance_push, session_entries_push}
use Rattle.log_laws.proofs.Central.{eqb_differ, eqb_self}
use Rattle.page_ops.specs.Claims.{SessionAgrees}
use Rattle.page_ops.specs.Seeing.{IsConsistent, is_of_session, of_sessions}
use Rattle.life_history.specs.Kept.{Numbers, BooksOf, AreBegun, IsKept, commit_entry, end_entry}
use Rattle.life_history.proofs.Beginnings.{one_owner, begun_over, begun_on, first_on, some_live}
use Rattle.life_history.proofs.Keeping.{of_sessions_push}
use Rattle.life_history.proofs.Own.{agreeing, begun_by, begun_once, consistent_entry, owner, owned_by_none, unless_live}
use Rattle.life_history.proofs.Sessions.{OthersStay, tx_same, sessions_after, fresh_after}

-- the entry belongs to this session alone, and by it this transaction goes on to a phase, and no other one to any
pub record IsMoveOf (h : List Entry) (session tx : ℕ) (next : Phase) (e : Entry) : Type 0 where
  pub own : belongs h session e ≡ true
  pub others : (m : ℕ) → m ≢ session → belongs h m e ≡ false
  pub counted : is_of_session h e ≡ true
  pub phases : (t : ℕ) (p : Phase) → phase_step t p e ≡ cond (eqb tx t) next p
  pub begins : beginnings (e ∷ []) ≡ []
  pub last : (m : ℕ) (t : Option ℕ) → session_step m t e ≡ t
  pub greatest : (n : ℕ) → begun_step n e ≡ n
  pub maint : (n : ℕ) → maintenance_step n e ≡ n

module _ (opens : List Record → Type 0) (h : List Entry) (n : Numbers) (b : BooksOf) (total of_session : ℕ) (k : IsKept opens h n b total of_session) (s : SessionClaim) (there : entry_of s.session b.sessions ≡ Some (session_entry s)) (some : 0 < s.tx) where
  agrees : SessionAgrees h s
  agrees = agreeing opens h n b total of_session k s there

  last_own : (last_begun h s.session ≡ Some s.tx) × (is_over (phase h s.tx) ≡ false)
  last_own = unless_live h (last_begun h s.session) s.tx agrees.tx some

  its_own : is_owner h s.session s.tx ≡ true
  its_own = owner opens h n b total of_session k s there some

  module _ (next : Phase) (e : Entry) (m : IsMoveOf h s.session s.tx next e) where
    abbrev done : List Entry
    done = h ++ e ∷ []

    abbrev left_tx : ℕ
    left_tx = cond (is_over next) 0 s.tx

    done_phase : (t : ℕ) → phase done t ≡ cond (eqb s.tx t) next (phase h t)
    done_phase t = phase_push h e t ∙ m.phases t (phase h t)

    done_begun : (x : ℕ) → last_begun done x ≡ last_begun h x
    done_begun x = last_begun_push h e x ∙ m.last x (last_begun h x)

    done_entries : s.entries + 1 ≡ session_entries done s.session
    done_entries =
        let one = session_entries_push h e s.session ∙ ap (λ (c : Bool). cond c (suc (session_entries h s.session)) (session_entries h s.session)) m.own in
        let before = agrees.entries in
        omega (arith, one, before)

    done_tx : left_tx ≡ session_transaction done s.session
    done_tx = sym (
        ap (unless_over done) (done_begun s.session ∙ last_own.0)
        ∙ ap (λ (p : Phase). cond (is_over p) 0 s.tx) (done_phase s.tx ∙ ap (λ (c : Bool). cond c next (phase h s.tx)) (eqb_self s.tx)))

    done_others : OthersStay h done s.session
    done_others = record {
      entries = λ x apart. session_entries_push h e x ∙ ap (λ (c : Bool). cond c (suc (session_entries h x)) (session_entries h x)) (m.others x apart);
      begun = λ x apart. done_begun x;
      tx = λ x apart. tx_same h done x (done_begun x) (λ t is.
          done_phase t ∙ ap (λ (c : Bool). cond c next (phase h t)) (eqb_differ s.tx t (λ same.
          one_owner _ _ _ _ _ k.begun x s.session s.tx apart (subst (λ (y : ℕ). is_owner h x y ≡ true) (sym same) (k.begun.owner x t is)) its_own)));
    }

    pub moved_agrees : SessionAgrees done (record { session = s.session; entries = s.entries + 1; tx = left_tx })
    moved_agrees = record { entries = done_entries; tx = done_tx }

    pub moved_counted : of_sessions done ≡ of_sessions h + 1
    moved_counted = let one = of_sessions_push h e ∙ ap (λ (c : Bool). cond c (suc (of_sessions h)) (of_sessions h)) m.counted in omega (arith, one)

    pub kept_moved : (left : ℕ) → AreBegun (beginnings h) (λ t. cond (eqb s.tx t) next (phase h t)) (last_begun h) n.tx left → IsConsistent opens done → n.entries + 1 + 2 * left < 2 ^ 63
        → ((opening : List Record) (p : ℕ) → head (life_log opening done) p ≡ head (life_log opening h) p)
        → IsKept opens done (record n { entries = n.entries + 1; live = left }) (record b { sessions = replaced (entry s.session (s.entries + 1) left_tx) b.sessions }) (total + 1) (of_session + 1)
    kept_moved left begun consistent room heads = record {
      consistent = consistent;
      entries = let was = k.entries in omega (arith, was, length-append h (e ∷ []));
      number = λ opening stands. k.number opening stands ∙ ap (λ (x : ℕ). suc (max (greatest opening) x)) (sym (begun_push h e ∙ m.greatest (greatest_begun h)));
      least = k.least;
      first = first_on opens h done n.first n.tx k.first (beginnings_push h e ∙ ap (λ bs. beginnings h ++ bs) m.begins ∙ append-nil (beginnings h));
      room = room;
      begun =
          subst (λ (x : List Beginning × (ℕ → Phase) × (ℕ → Option ℕ)). AreBegun x.0 x.1 x.2 n.tx left)
          (λ i. (sym (beginnings_push h e ∙ ap (λ bs. beginnings h ++ bs) m.begins ∙ append-nil (beginnings h)) i, (λ t. sym (done_phase t) i), (λ x. sym (done_begun x) i)))
          begun;
      fresh = λ x high. fresh_after h done b.sessions (replaced (entry s.session (s.entries + 1) left_tx) b.sessions) (session_entry s) (s.entries + 1) left_tx x (k.fresh x high) there refl done_others;
      books = record {
        pages = λ p x is opening stands. k.books.pages p x is opening stands ∙ sym (heads opening p);
        sessions = sessions_after h done b.sessions (replaced (entry s.session (s.entries + 1) left_tx) b.sessions) (session_entry s) (s.entries + 1) left_tx k.books.sessions there refl done_others done_entries done_tx;
        maint = λ p x is. k.books.maint p x is ∙ sym (maintenance_push h e ∙ m.maint (maintenance_book h));
      };
      counted = let was = k.counted in omega (arith, was, length-append h (e ∷ []));
      sessions_counted = let was = k.sessions_counted in let now = moved_counted in omega (arith, was, now);
    }

  -- ---- a commit

  pub is_counted : phase h s.tx ≡ Live → 1 ≤ n.live
  is_counted live = some_live _ _ _ _ _ k.begun s.tx live (begun_once opens h n b total of_session k s there some)

  pub is_small : s.tx ≤ 2 ^ 62
  is_small = by (nat_le s.tx (2 ^ 62)) refl
    where
      by : (c : Bool) → nat_le s.tx (2 ^ 62) ≡ c → s.tx ≤ 2 ^ 62
      by true e = grind (arith, nat_tests, e)
      by false e =
          let high : 2 ^ 62 < s.tx = grind (arith, nat_tests, e) in
          let none = k.begun.small s.tx high in
          let is = begun_once opens h n b total of_session k s there some in
          absurd (omega (arith, none, is))

  module _ (lsn prev : ℕ) where
    abbrev commit : Entry
    commit = commit_entry lsn s.tx prev

    commit_move : IsMoveOf h s.session s.tx Committed commit
    commit_move = record {
      own = its_own;
      others = λ x apart. owned_by_none opens h n b total of_session k s there some x apart;
      counted = begun_by h s.session s.tx its_own;
      phases = λ t p. refl;
      begins = refl;
      last = λ x t. refl;
      greatest = λ x. refl;
      maint = λ x. refl;
    }

    commit_heads : (opening : List Record) (p : ℕ) → head (life_log opening (h ++ commit ∷ [])) p ≡ head (life_log opening h) p
    commit_heads opening p =
        let r : Record = kinds.Commit (record { tx = s.tx; prev = prev }) in
        ap (λ l. head l p) (log_more opening h lsn r) ∙ head_push (life_log opening h) r p

    pub commit_kept : phase h s.tx ≡ Live → IsConsistent opens (h ++ commit ∷ []) → (left : ℕ) → left + 1 ≡ n.live
        → IsKept opens (h ++ commit ∷ []) (record n { entries = n.entries + 1; live = left }) (record b { sessions = replaced (entry s.session (s.entries + 1) s.tx) b.sessions }) (total + 1) (of_session + 1)
    commit_kept live consistent left less = kept_moved Committed commit commit_move left
        (begun_over _ _ _ _ _ k.begun s.tx left Committed refl refl live (begun_once opens h n b total of_session k s there some) less)
        consistent (let room = k.room in omega (arith, room, less)) commit_heads

    pub commit_agrees : SessionAgrees (h ++ commit ∷ []) (record { session = s.session; entries = s.entries + 1; tx = s.tx })
    commit_agrees = moved_agrees Committed commit commit_move

    pub commit_counted : of_sessions (h ++ commit ∷ []) ≡ of_sessions h + 1
    commit_counted = moved_counted Committed commit commit_move

  -- ---- an end

  module _ (lsn prev : ℕ) where
    abbrev ending : Entry
    ending = end_entry lsn s.tx prev

    end_move : IsMoveOf h s.session s.tx Ended ending
    end_move = record {
      own = its_own;
      others = λ x apart. owned_by_none opens h n b total of_session k s there some x apart;
      counted = begun_by h s.session s.tx its_own;
      phases = λ t p. refl;
      begins = refl;
      last = λ x t. refl;
      greatest = λ x. refl;
      maint = λ x. refl;
    }

    end_heads : (opening : List Record) (p : ℕ) → head (life_log opening (h ++ ending ∷ [])) p ≡ head (life_log opening h) p
    end_heads opening p =
        let r : Record = kinds.End (record { tx = s.tx; prev = prev }) in
        ap (λ l. head l p) (log_more opening h lsn r) ∙ head_push (life_log opening h) r p

    pub end_kept : phase h s.tx ≡ Live → IsConsistent opens (h ++ ending ∷ []) → (left : ℕ) → left + 1 ≡ n.live
        → IsKept opens (h ++ ending ∷ []) (record n { entries = n.entries + 1; live = left }) (record b { sessions = replaced (entry s.session (s.entries + 1) 0) b.sessions }) (total + 1) (of_session + 1)
    end_kept live consistent left less = kept_moved Ended ending end_move left
        (begun_over _ _ _ _ _ k.begun s.tx left Ended refl refl live (begun_once opens h n b total of_session k s there some) less)
        consistent (let room = k.room in omega (arith, room, less)) end_heads

    pub end_counted : of_sessions (h ++ ending ∷ []) ≡ of_sessions h + 1
    end_counted = moved_counted Ended ending end_move

  -- ---- its acknowledgement

  abbrev acked : Entry
  acked = entries.Acked s.session s.tx

  acked_move : IsMoveOf h s.session s.tx Acknowledged acked
  acked_move = record {
    own = eqb_self s.session;
    others = λ x apart. eqb_differ s.session x (λ same. apart (sym same));
    counted = refl;
    phases = λ t p. refl;
    begins = refl;
    last = λ x t. refl;
    greatest = λ x. refl;
    maint = λ x. refl;
  }

  pub acked_consistent : phase h s.tx ≡ Committed → IsConsistent opens (h ++ acked ∷ [])
  acked_consistent committed = consistent_entry opens h acked k.consistent refl refl (λ log. refl) (λ opening stands. record { told = k.consistent.told; owner = its_own; committed = committed })

  pub acked_kept : phase h s.tx ≡ Committed → n.entries + 2 * n.live + 1 < 2 ^ 63
      → IsKept opens (h ++ acked ∷ []) (record n { entries = n.entries + 1 }) (record b { sessions = replaced (entry s.session (s.entries + 1) 0) b.sessions }) (total + 1) (of_session + 1)
  acked_kept committed room = kept_moved Acknowledged acked acked_move n.live
      (begun_on _ _ _ _ _ k.begun s.tx Acknowledged refl refl (ap is_live committed))
      (acked_consistent committed) (omega (arith, room)) (λ opening p. ap (λ l. head l p) (log_same opening h acked refl))

  pub acked_agrees : SessionAgrees (h ++ acked ∷ []) (record { session = s.session; entries = s.entries + 1; tx = 0 })
  acked_agrees = moved_agrees Acknowledged acked acked_move

  pub acked_counted : of_sessions (h ++ acked ∷ []) ≡ of_sessions h + 1
  acked_counted = moved_counted Acknowledged acked acked_move
