-- What is kept where entries of one session are entered: a beginning, and entries by which no transaction begins or ends.
use Rattle.std.proofs.Common.{◌≡◌, ◌≢◌, ℕ, suc, eqb, cond, ◌+◌, ◌≤◌, ◌<◌, ◌^◌, List, [], ◌∷◌, ◌++◌, length, Option, Some, None, Bool, true, false, refl, sym, ap, ◌∙◌, subst, arith, length-append, append-nil}
use Rattle.std.specs.Prelude.{filter, max, IsTrue, ◌&&◌, ◌||◌}
use Rattle.std.proofs.lemmas.Bool.{eqb-true}
use Rattle.store_model.proofs.Bools.{false_unless}
use Rattle.std.specs.List.{list_any}
use Rattle.books.specs.Booking.{entry, entry_of, replaced}
use Rattle.books.specs.declared.entry.BookEntry.{BookEntry}
use Rattle.books.specs.Rights.{SessionClaim, session_entry}
use Rattle.wal_record.specs.Books.{maintenance_step, belongs, session_entries, unless_over, session_transaction}
use Rattle.wal_record.specs.Chains.{head, greatest}
use Rattle.wal_record.specs.History.{log_of, life_log, Phase, Live, phase, phase_step, is_live, is_over, live_count, Beginning, beginnings, is_owner, begun_step, greatest_begun, session_step, last_begun, IsFree}
use Rattle.wal_record.specs.Legal.{untold_step, split_leaf, split_step, FollowsSplit, EntryRule, IsAllowed, IsLegal}
use Rattle.wal_record.specs.Sound.{IsSound}
use Rattle.wal_record.specs.declared.page.PageState.{PageState}
use Rattle.wal_record.specs.declared.record.Record.{Record}
use Rattle.wal_record.specs.declared.entry.Entry.{Entry}
use Rattle.wal_record.specs.declared.entry.Entry.TheVariants.{Lock, Refused, Said, Declined, Began}
use Rattle.wal_record.proofs.Along.{AllAlong_back, by_pushes}
use Rattle.wal_record.proofs.Pushes.{log_same, beginnings_push, begun_push, untold_push, split_leaf_push, last_begun_push, phase_push, maintenance_push, session_entries_push}
use Rattle.log_laws.proofs.Central.{eqb_differ, eqb_self}
use Rattle.log_laws.proofs.Serial.{owner_new}
use Rattle.page_ops.specs.Claims.{SessionAgrees}
use Rattle.page_ops.specs.Seeing.{IsConsistent, is_begun, is_of_session, of_sessions}
use Rattle.life_history.specs.Kept.{Numbers, BooksOf, AreKept, IsFresh, AreBegun, IsKept, is_beginning, times, is_calm, is_of}
use Rattle.life_history.proofs.Beginnings.{own_time, one_owner, not_next, begun_began, first_began, first_on}
use Rattle.life_history.proofs.Sessions.{OthersStay, tx_same, sessions_after, fresh_after}
use Rattle.life_history.proofs.Keeping.{of_sessions_push, no_session}

-- ---- one entry more

pub allowed : (opening : List Record) (h : List Entry) (e : Entry) → IsLegal opening h → split_leaf opening h ≡ None → EntryRule opening h e → IsLegal opening (h ++ e ∷ [])
allowed opening h e legal none rule = AllAlong_back (IsAllowed opening) h e legal (record { split = subst (λ (s : Option PageState). FollowsSplit s e) (sym none) tt; rule = rule })

-- an entry that is no record
pub consistent_entry : (opens : List Record → Type 0) (h : List Entry) (e : Entry) → IsConsistent opens h → log_of (e ∷ []) ≡ [] → untold_step e ≡ None → ((log : List Record) → split_step log e ≡ None)
    → ((opening : List Record) → opens opening → EntryRule opening h e) → IsConsistent opens (h ++ e ∷ [])
consistent_entry opens h e c none told split rule = record {
  legal = λ opening stands. allowed opening h e (c.legal opening stands) (c.split opening stands) (rule opening stands);
  sound = λ opening stands. subst IsSound (sym (log_same opening h e none)) (c.sound opening stands);
  some = λ opening stands is. c.some opening stands (sym (log_same opening h e none) ∙ is);
  told = untold_push h e ∙ told;
  split = λ opening stands. split_leaf_push opening h e ∙ split (life_log opening h);
}

-- ---- the session's transaction

-- a transaction that isn't over
pub unless_live : (h : List Entry) (x : Option ℕ) (t : ℕ) → t ≡ unless_over h x → 0 < t → (x ≡ Some t) × (is_over (phase h t) ≡ false)
unless_live h None t is some = absurd (omega (arith, is, some))
unless_live h (Some u) t is some = by (is_over (phase h u)) refl is
  where
    by : (b : Bool) → is_over (phase h u) ≡ b → t ≡ cond b 0 u → (Some u ≡ Some t) × (is_over (phase h t) ≡ false)
    by true e is = absurd (omega (arith, is, some))
    by false e is = (ap Some (sym is), ap (λ (x : ℕ). is_over (phase h x)) is ∙ e)

-- a session without one may begin
free_if : (h : List Entry) (x : Option ℕ) → 0 ≡ unless_over h x → ((t : ℕ) → x ≡ Some t → 0 < t) → IsFree h x
free_if h None is above = tt
free_if h (Some t) is above = by (is_over (phase h t)) is (above t refl)
  where
    by : (b : Bool) → 0 ≡ cond b 0 t → 0 < t → IsTrue b
    by true is above = refl
    by false is above = absurd (omega (arith, is, above))

one_time : (n : ℕ) → 1 ≤ n → n ≤ 1 → n ≡ 1
one_time n least most = omega (arith, least, most)

-- a transaction with an owner was begun
begun_in : (bs : List Beginning) (s t : ℕ) → list_any (is_beginning s t) bs ≡ true → list_any (λ (b : Beginning). eqb b.tx t) bs ≡ true
begun_in [] s t o = absurd (cc o)
begun_in (b ∷ bs) s t o = by (eqb b.session s) (eqb b.tx t) o (begun_in bs s t)
  where
    by : (p q : Bool) → ((p && q) || list_any (is_beginning s t) bs) ≡ true → (list_any (is_beginning s t) bs ≡ true → list_any (λ (x : Beginning). eqb x.tx t) bs ≡ true) → (q || list_any (λ (x : Beginning). eqb x.tx t) bs) ≡ true
    by p true o more = refl
    by true false o more = more o
    by false false o more = more o

pub begun_by : (h : List Entry) (s t : ℕ) → is_owner h s t ≡ true → is_begun h t ≡ true
begun_by h s t o = begun_in (beginnings h) s t o

-- no session has more entries than the history
pub session_within : (s : ℕ) (h : List Entry) → session_entries h s ≤ length h
session_within s = by_pushes (λ (h : List Entry). session_entries h s ≤ length h) (let none = (no_session s).0 in omega (arith, none)) (λ h e before.
    let more = session_entries_push h e s in
    let step = one_more (belongs h s e) (session_entries h s) (length h) before in
    omega (arith, more, step, length-append h (e ∷ [])))
  where
    one_more : (c : Bool) (m most : ℕ) → m ≤ most → cond c (suc m) m ≤ most + 1
    one_more true m most within = omega (arith, within)
    one_more false m most within = omega (arith, within)

-- ---- entries of one session

-- the entry belongs to this session alone, and by it no transaction begins or ends
pub record IsCalmOf (h : List Entry) (session : ℕ) (e : Entry) : Type 0 where
  pub own : belongs h session e ≡ true
  pub others : (m : ℕ) → m ≢ session → belongs h m e ≡ false
  pub counted : is_of_session h e ≡ true
  pub phases : (t : ℕ) (p : Phase) → phase_step t p e ≡ p
  pub begins : beginnings (e ∷ []) ≡ []
  pub last : (m : ℕ) (t : Option ℕ) → session_step m t e ≡ t
  pub greatest : (n : ℕ) → begun_step n e ≡ n
  pub maint : (n : ℕ) → maintenance_step n e ≡ n

-- the history went on by so many entries, of which so many belong to this session and none to another one, and by which no
-- transaction began or ended
pub record Continues (h h' : List Entry) (session mine n : ℕ) : Type 0 where
  pub longer : length h' ≡ length h + n
  pub begins : beginnings h' ≡ beginnings h
  pub phases : (t : ℕ) → phase h' t ≡ phase h t
  pub last : (m : ℕ) → last_begun h' m ≡ last_begun h m
  pub greatest : greatest_begun h' ≡ greatest_begun h
  pub own : session_entries h' session ≡ session_entries h session + mine
  pub others : (m : ℕ) → m ≢ session → session_entries h' m ≡ session_entries h m
  pub counted : of_sessions h' ≡ of_sessions h + mine

pub continues_one : (h : List Entry) (session : ℕ) (e : Entry) → IsCalmOf h session e → Continues h (h ++ e ∷ []) session 1 1
continues_one h session e c = record {
  longer = length-append h (e ∷ []);
  begins = beginnings_push h e ∙ ap (λ bs. beginnings h ++ bs) c.begins ∙ append-nil (beginnings h);
  phases = λ t. phase_push h e t ∙ c.phases t (phase h t);
  last = λ m. last_begun_push h e m ∙ c.last m (last_begun h m);
  greatest = begun_push h e ∙ c.greatest (greatest_begun h);
  own = let one = session_entries_push h e session ∙ ap (λ (b : Bool). cond b (suc (session_entries h session)) (session_entries h session)) c.own in omega (arith, one);
  others = λ m apart. session_entries_push h e m ∙ ap (λ (b : Bool). cond b (suc (session_entries h m)) (session_entries h m)) (c.others m apart);
  counted = let one = of_sessions_push h e ∙ ap (λ (b : Bool). cond b (suc (of_sessions h)) (of_sessions h)) c.counted in omega (arith, one);
}

pub continues_none : (h : List Entry) (session : ℕ) → Continues h h session 0 0
continues_none h session = record {
  longer = omega arith;
  begins = refl;
  phases = λ t. refl;
  last = λ m. refl;
  greatest = refl;
  own = omega arith;
  others = λ m apart. refl;
  counted = omega arith;
}

pub continues_then : (h h1 h2 : List Entry) (session own own' n m : ℕ) → Continues h h1 session own n → Continues h1 h2 session own' m → Continues h h2 session (own + own') (n + m)
continues_then h h1 h2 session own own' n m a b = record {
  longer = let x = a.longer in let y = b.longer in omega (arith, x, y);
  begins = b.begins ∙ a.begins;
  phases = λ t. b.phases t ∙ a.phases t;
  last = λ m. b.last m ∙ a.last m;
  greatest = b.greatest ∙ a.greatest;
  own = let x = a.own in let y = b.own in omega (arith, x, y);
  others = λ m apart. b.others m apart ∙ a.others m apart;
  counted = let x = a.counted in let y = b.counted in omega (arith, x, y);
}

-- as many are live
pub continues_live : (h h' : List Entry) (session own n : ℕ) → Continues h h' session own n → live_count h' ≡ live_count h
continues_live h h' session own n c i = length (filter (λ (b : Beginning). is_live (c.phases b.tx i)) (c.begins i))

pub continues_tx : (h h' : List Entry) (session own n : ℕ) → Continues h h' session own n → (m : ℕ) → session_transaction h' m ≡ session_transaction h m
continues_tx h h' session own n c m = tx_same h h' m (c.last m) (λ t is. c.phases t)

pub continues_others : (h h' : List Entry) (session own n : ℕ) → Continues h h' session own n → OthersStay h h' session
continues_others h h' session own n c = record { entries = c.others; tx = λ m apart. continues_tx h h' session own n c m; begun = λ m apart. c.last m }

-- what is kept then, where the books have the numbers of the longer history
pub kept_then : (opens : List Record → Type 0) (h h' : List Entry) (n : Numbers) (b b' : BooksOf) (total of_session session own more : ℕ) → IsKept opens h n b total of_session → Continues h h' session own more → IsConsistent opens h'
    → n.entries < 2 ^ 62 → more ≤ 3 → AreKept opens h' b' → ((m : ℕ) → n.session ≤ m → IsFresh h' b'.sessions m)
    → IsKept opens h' (record n { entries = n.entries + more }) b' (total + more) (of_session + own)
kept_then opens h h' n b b' total of_session session own more k c consistent low few books fresh = record {
  consistent = consistent;
  entries = let was = k.entries in let now = c.longer in omega (arith, was, now);
  number = λ opening stands. k.number opening stands ∙ ap (λ (m : ℕ). suc (max (greatest opening) m)) (sym c.greatest);
  least = k.least;
  first = first_on opens h h' n.first n.tx k.first c.begins;
  room = let most = k.begun.most in omega (arith, low, few, most);
  begun = subst (λ (x : List Beginning × (ℕ → Phase) × (ℕ → Option ℕ)). AreBegun x.0 x.1 x.2 n.tx n.live) (λ i. (sym c.begins i, (λ t. sym (c.phases t) i), (λ m. sym (c.last m) i))) k.begun;
  fresh = fresh;
  books = books;
  counted = let was = k.counted in let now = c.longer in omega (arith, was, now);
  sessions_counted = let was = k.sessions_counted in let now = c.counted in omega (arith, was, now);
}

module _ (opens : List Record → Type 0) (h : List Entry) (n : Numbers) (b : BooksOf) (total of_session : ℕ) (k : IsKept opens h n b total of_session) (s : SessionClaim) where
  -- the book of sessions has the session's entry
  abbrev IsThere : Type 0
  IsThere = entry_of s.session b.sessions ≡ Some (session_entry s)

  -- so its right agrees
  pub agreeing : IsThere → SessionAgrees h s
  agreeing there = let at = k.books.sessions s.session (session_entry s) there in record { entries = at.0; tx = at.1 }

  module _ (there : IsThere) where
    agrees : SessionAgrees h s
    agrees = agreeing there

    -- its transaction is its own
    pub owner : 0 < s.tx → is_owner h s.session s.tx ≡ true
    owner some = k.begun.owner s.session s.tx (unless_live h (last_begun h s.session) s.tx agrees.tx some).0

    pub owned_by_none : 0 < s.tx → (m : ℕ) → m ≢ s.session → is_owner h m s.tx ≡ false
    owned_by_none some m apart = false_unless (is_owner h m s.tx) (λ other. one_owner _ _ _ _ _ k.begun m s.session s.tx apart other (owner some))

    -- which was begun once
    pub begun_once : 0 < s.tx → times s.tx (beginnings h) ≡ 1
    begun_once some =
        let least = own_time s.session s.tx (beginnings h) (owner some) in
        one_time (times s.tx (beginnings h)) least (k.begun.once s.tx)

    -- an entry of its own is one of this session alone
    pub calm_of : 0 < s.tx → (e : Entry) → is_calm e ≡ true → is_of s.session s.tx e ≡ true → IsCalmOf h s.session e
    calm_of some (Lock t range mode) calm own =
        let same = eqb-true t s.tx own in
        record {
          own = ap (is_owner h s.session) same ∙ owner some;
          others = λ m apart. ap (is_owner h m) same ∙ owned_by_none some m apart;
          counted = ap (is_begun h) same ∙ begun_by h s.session s.tx (owner some);
          phases = λ t p. refl;
          begins = refl;
          last = λ m t. refl;
          greatest = λ n. refl;
          maint = λ n. refl;
        }
    calm_of some (Refused t range mode holder) calm own =
        let same = eqb-true t s.tx own in
        record {
          own = ap (is_owner h s.session) same ∙ owner some;
          others = λ m apart. ap (is_owner h m) same ∙ owned_by_none some m apart;
          counted = ap (is_begun h) same ∙ begun_by h s.session s.tx (owner some);
          phases = λ t p. refl;
          begins = refl;
          last = λ m t. refl;
          greatest = λ n. refl;
          maint = λ n. refl;
        }
    calm_of some (Said session t request reply) calm own =
        let same = eqb-true session s.session own in
        record {
          own = own;
          others = λ m apart. ap (λ x. eqb x m) same ∙ eqb_differ s.session m (λ e. apart (sym e));
          counted = refl;
          phases = λ t p. refl;
          begins = refl;
          last = λ m t. refl;
          greatest = λ n. refl;
          maint = λ n. refl;
        }
    calm_of some (Declined session t request why) calm own =
        let same = eqb-true session s.session own in
        record {
          own = own;
          others = λ m apart. ap (λ x. eqb x m) same ∙ eqb_differ s.session m (λ e. apart (sym e));
          counted = refl;
          phases = λ t p. refl;
          begins = refl;
          last = λ m t. refl;
          greatest = λ n. refl;
          maint = λ n. refl;
        }
    calm_of some _ calm own = absurd (cc calm)

    module _ (h' : List Entry) (own more : ℕ) (c : Continues h h' s.session own more) where
      pub agrees_then : SessionAgrees h' (record { session = s.session; entries = s.entries + own; tx = s.tx })
      agrees_then = record { entries = let was = agrees.entries in let now = c.own in omega (arith, was, now); tx = agrees.tx ∙ sym (continues_tx h h' s.session own more c s.session) }

      -- the book of sessions, with the session's new numbers
      pub sessions_then : (m : ℕ) (e : BookEntry) → entry_of m (replaced (entry s.session (s.entries + own) s.tx) b.sessions) ≡ Some e → (e.first ≡ session_entries h' m) × (e.second ≡ session_transaction h' m)
      sessions_then = sessions_after h h' b.sessions (replaced (entry s.session (s.entries + own) s.tx) b.sessions) (session_entry s) (s.entries + own) s.tx k.books.sessions there refl (continues_others h h' s.session own more c)
          agrees_then.entries agrees_then.tx

      pub fresh_then : (m : ℕ) → n.session ≤ m → IsFresh h' (replaced (entry s.session (s.entries + own) s.tx) b.sessions) m
      fresh_then m high = fresh_after h h' b.sessions (replaced (entry s.session (s.entries + own) s.tx) b.sessions) (session_entry s) (s.entries + own) s.tx m (k.fresh m high) there refl (continues_others h h' s.session own more c)

    -- ---- a beginning

    abbrev pub beginning : Entry
    beginning = Began s.session n.tx

    abbrev pub began : List Entry
    began = h ++ beginning ∷ []

    began_rule : s.tx ≡ 0 → n.live < 64 → (opening : List Record) → opens opening → EntryRule opening h beginning
    began_rule none few opening stands = record {
      told = k.consistent.told;
      number = k.number opening stands;
      room = let live = k.begun.counted in omega (arith, live, few);
      free = free_if h (last_begun h s.session) (sym none ∙ agrees.tx) (λ t is. let high = owner_new opening h (k.consistent.legal opening stands) s.session t (k.begun.owner s.session t is) in omega (arith, high));
    }

    pub began_consistent : s.tx ≡ 0 → n.live < 64 → IsConsistent opens began
    began_consistent none few = consistent_entry opens h beginning k.consistent refl refl (λ log. refl) (began_rule none few)

    pub began_entries : s.entries + 1 ≡ session_entries began s.session
    began_entries = let one = session_entries_push h beginning s.session ∙ ap (λ (c : Bool). cond c (suc (session_entries h s.session)) (session_entries h s.session)) (eqb_self s.session) in let before = agrees.entries in omega (arith, one, before)

    pub began_tx : n.tx ≡ session_transaction began s.session
    began_tx = sym (
        ap (unless_over began) (last_begun_push h beginning s.session ∙ ap (λ (c : Bool). cond c (Some n.tx) (last_begun h s.session)) (eqb_self s.session))
        ∙ ap (λ (p : Phase). cond (is_over p) 0 n.tx) (phase_push h beginning n.tx ∙ ap (λ (c : Bool). cond c Live (phase h n.tx)) (eqb_self n.tx)))

    began_others : OthersStay h began s.session
    began_others =
        let begun = λ (m : ℕ) (apart : m ≢ s.session). last_begun_push h beginning m ∙ ap (λ (c : Bool). cond c (Some n.tx) (last_begun h m)) (eqb_differ s.session m (λ same. apart (sym same))) in
        record {
          entries = λ m apart. session_entries_push h beginning m ∙ ap (λ (c : Bool). cond c (suc (session_entries h m)) (session_entries h m)) (eqb_differ s.session m (λ same. apart (sym same)));
          begun = begun;
          tx = λ m apart. tx_same h began m (begun m apart) (λ t is. phase_push h beginning t ∙ ap (λ (c : Bool). cond c Live (phase h t)) (eqb_differ n.tx t (not_next _ _ _ _ _ k.begun m t is)));
        }

    pub kept_began : s.tx ≡ 0 → n.live < 64 → n.entries < 2 ^ 62 → n.tx < 2 ^ 62
        → IsKept opens began (record n { entries = n.entries + 1; tx = n.tx + 1; live = n.live + 1 }) (record b { sessions = replaced (entry s.session (s.entries + 1) n.tx) b.sessions }) (total + 1) (of_session + 1)
    kept_began none few short small =
        let same : (opening : List Record) → life_log opening began ≡ life_log opening h = λ opening. log_same opening h beginning refl in
        record {
          consistent = began_consistent none few;
          entries = omega (arith, k.entries, length-append h (beginning ∷ []));
          number = λ opening stands. let b = begun_push h beginning in let is = k.number opening stands in omega (arith, b, is);
          least = omega arith;
          first = first_began opens h began n.first n.tx (record { session = s.session; tx = n.tx }) k.first refl (beginnings_push h beginning);
          room = omega (arith, short, few);
          begun =
              subst (λ (x : List Beginning × (ℕ → Phase) × (ℕ → Option ℕ)). AreBegun x.0 x.1 x.2 (n.tx + 1) (n.live + 1))
              (λ i. (sym (beginnings_push h beginning) i, (λ t. sym (phase_push h beginning t) i), (λ m. sym (last_begun_push h beginning m) i)))
              (begun_began _ _ _ _ _ k.begun s.session (omega (arith, small)) few);
          fresh = λ m high. fresh_after h began b.sessions (replaced (entry s.session (s.entries + 1) n.tx) b.sessions) (session_entry s) (s.entries + 1) n.tx m (k.fresh m high) there refl began_others;
          books = record {
            pages = λ m x is opening stands. k.books.pages m x is opening stands ∙ ap (λ (l : List Record). head l m) (sym (same opening));
            sessions = sessions_after h began b.sessions (replaced (entry s.session (s.entries + 1) n.tx) b.sessions) (session_entry s) (s.entries + 1) n.tx k.books.sessions there refl began_others began_entries began_tx;
            maint = λ m x is. k.books.maint m x is ∙ sym (maintenance_push h beginning);
          };
          counted = omega (arith, k.counted, length-append h (beginning ∷ []));
          sessions_counted = let one = of_sessions_push h beginning in let before = k.sessions_counted in omega (arith, one, before);
        }
