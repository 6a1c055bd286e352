-- What the calls keep.
use Rattle.std.proofs.Common.{◌≡◌, ◌≢◌, ℕ, suc, cond, ◌+◌, ◌≤◌, List, [], ◌∷◌, ◌++◌, length, Some, None, refl, sym, ap, ◌∙◌, subst, arith, length-append, append-nil}
use Rattle.std.proofs.lemmas.Bool.Decides.{nat_tests}
use native.Mathlib.Decide.{ℕ_discrete}
use mathlib.Core.Logic.{dite}
use Rattle.books.specs.Booking.{entry, entry_of, replaced}
use Rattle.books.specs.declared.entry.BookEntry.{BookEntry}
use Rattle.books.specs.Rights.{SessionClaim, session_entry}
use Rattle.books.proofs.Keeping.{entry_of-added, entry_of-other, entry_of-replaced}
use Rattle.wal_record.specs.Books.{session_entries, unless_over}
use Rattle.wal_record.specs.History.{life_log, Idle, Live, phase, greatest_begun, last_begun}
use Rattle.wal_record.specs.Legal.{split_leaf}
use Rattle.wal_record.specs.Sound.{IsSound}
use Rattle.wal_record.specs.declared.record.Record.{Record}
use Rattle.wal_record.specs.declared.entry.Entry.{Entry}
use Rattle.wal_record.proofs.Along.{along_push}
use Rattle.store_model.specs.Along as Along
use Rattle.life_laws.proofs.Start.{nothing_told, nothing_legal}
use Rattle.page_ops.specs.Seeing.{is_of_session, of_sessions}
use Rattle.life_history.specs.Kept.{Numbers, BooksOf, AreKept, IsFresh, AreBegun, IsKept, Begins}
use Rattle.life_history.proofs.Sessions.{fresh_after}

pub some_is : {A : Type 0} (a b : A) → Some a ≡ Some b → a ≡ b
some_is a b e = cc e

-- ---- a right that comes back as it was

-- a book whose entry gets the values that it has has no other entries than before
same_entries : (es es' : List BookEntry) (right : BookEntry) (first second : ℕ) → entry_of right.number es ≡ Some right → es' ≡ replaced (entry right.number first second) es → first ≡ right.first → second ≡ right.second
    → (n : ℕ) (x : BookEntry) → entry_of n es' ≡ Some x → entry_of n es ≡ Some x
same_entries es es' right first second there now one two n x is =
    let new = entry right.number first second in
    let same : new ≡ right = λ i. record { number = right.number; first = one i; second = two i } in
    let at : entry_of n (replaced new es) ≡ Some x = ap (λ l. entry_of n l) (sym now) ∙ is in
    dite (ℕ_discrete n right.number)
    (λ here. let found = entry_of-replaced new es right there in
    ap (λ k. entry_of k es) here ∙ there ∙ ap Some (sym same) ∙ sym found ∙ ap (λ k. entry_of k (replaced new es)) (sym here) ∙ at)
    (λ apart. sym (entry_of-other n new es apart) ∙ at)

fresh_same : (es es' : List BookEntry) (right : BookEntry) (first second : ℕ) → entry_of right.number es ≡ Some right → es' ≡ replaced (entry right.number first second) es → (h : List Entry) (s : ℕ) → IsFresh h es s → IsFresh h es' s
fresh_same es es' right first second there now h s k = fresh_after h h es es' right first second s k there now (record { entries = λ m apart. refl; tx = λ m apart. refl; begun = λ m apart. refl })

pub kept_pages : (opens : List Record → Type 0) (h : List Entry) (n : Numbers) (ps ps' ss ms : List BookEntry) (total of_session : ℕ) (right : BookEntry) (first second : ℕ)
    → IsKept opens h n (record { pages = ps; sessions = ss; maint = ms }) total of_session → entry_of right.number ps ≡ Some right → ps' ≡ replaced (entry right.number first second) ps → first ≡ right.first → second ≡ right.second
    → IsKept opens h n (record { pages = ps'; sessions = ss; maint = ms }) total of_session
kept_pages opens h n ps ps' ss ms total of_session right first second k there now one two =
    record {
      consistent = k.consistent;
      entries = k.entries;
      number = k.number;
      least = k.least;
      first = k.first;
      room = k.room;
      begun = k.begun;
      fresh = k.fresh;
      counted = k.counted;
      sessions_counted = k.sessions_counted;
      books = record { pages = λ m x is. k.books.pages m x (same_entries ps ps' right first second there now one two m x is); sessions = k.books.sessions; maint = k.books.maint };
    }

pub kept_sessions : (opens : List Record → Type 0) (h : List Entry) (n : Numbers) (ps ss ss' ms : List BookEntry) (total of_session : ℕ) (right : BookEntry) (first second : ℕ)
    → IsKept opens h n (record { pages = ps; sessions = ss; maint = ms }) total of_session → entry_of right.number ss ≡ Some right → ss' ≡ replaced (entry right.number first second) ss → first ≡ right.first → second ≡ right.second
    → IsKept opens h n (record { pages = ps; sessions = ss'; maint = ms }) total of_session
kept_sessions opens h n ps ss ss' ms total of_session right first second k there now one two =
    record {
      consistent = k.consistent;
      entries = k.entries;
      number = k.number;
      least = k.least;
      first = k.first;
      room = k.room;
      begun = k.begun;
      fresh = λ s above. fresh_same ss ss' right first second there now h s (k.fresh s above);
      counted = k.counted;
      sessions_counted = k.sessions_counted;
      books = record { pages = k.books.pages; sessions = λ m x is. k.books.sessions m x (same_entries ss ss' right first second there now one two m x is); maint = k.books.maint };
    }

pub kept_maint : (opens : List Record → Type 0) (h : List Entry) (n : Numbers) (ps ss ms ms' : List BookEntry) (total of_session : ℕ) (right : BookEntry) (first second : ℕ)
    → IsKept opens h n (record { pages = ps; sessions = ss; maint = ms }) total of_session → entry_of right.number ms ≡ Some right → ms' ≡ replaced (entry right.number first second) ms → first ≡ right.first → second ≡ right.second
    → IsKept opens h n (record { pages = ps; sessions = ss; maint = ms' }) total of_session
kept_maint opens h n ps ss ms ms' total of_session right first second k there now one two =
    record {
      consistent = k.consistent;
      entries = k.entries;
      number = k.number;
      least = k.least;
      first = k.first;
      room = k.room;
      begun = k.begun;
      fresh = k.fresh;
      counted = k.counted;
      sessions_counted = k.sessions_counted;
      books = record { pages = k.books.pages; sessions = k.books.sessions; maint = λ m x is. k.books.maint m x (same_entries ms ms' right first second there now one two m x is) };
    }

pub kept_watched : (opens : List Record → Type 0) (h h' : List Entry) (n : Numbers) (ps ps' ss ss' ms ms' : List BookEntry) (total total' of_session of_session' : ℕ) (s : SessionClaim) (entries tx : ℕ)
    → IsKept opens h n (record { pages = ps; sessions = ss; maint = ms }) total of_session → entry_of s.session ss ≡ Some (session_entry s) → ss' ≡ replaced (entry s.session entries tx) ss → entries ≡ s.entries → tx ≡ s.tx
    → (ps' ≡ ps) × (ms' ≡ ms) → h' ≡ h → (total' ≡ total) × (of_session' ≡ of_session) → IsKept opens h' n (record { pages = ps'; sessions = ss'; maint = ms' }) total' of_session'
kept_watched opens h h' n ps ps' ss ss' ms ms' total total' of_session of_session' s entries tx k there now one two others same totals =
    subst (λ (x : List Entry × List BookEntry × List BookEntry × ℕ × ℕ). IsKept opens x.0 n (record { pages = x.1; sessions = ss'; maint = x.2 }) x.3 x.4)
    (λ i. (sym same i, sym others.0 i, sym others.1 i, sym totals.0 i, sym totals.1 i))
    (kept_sessions opens h n ps ss ss' ms total of_session (session_entry s) entries tx k there now one two)

-- ---- a session more

pub entry_of-apart : (m : ℕ) (new : BookEntry) (es : List BookEntry) → m ≢ new.number → entry_of m (es ++ new ∷ []) ≡ entry_of m es
entry_of-apart m new [] apart = grind (arith, nat_tests, apart)
entry_of-apart m new (e ∷ es) apart = grind (arith, nat_tests, apart, entry_of-apart m new es apart)

pub kept_opened : (opens : List Record → Type 0) (h : List Entry) (count session tx first live total of_session : ℕ) (ps ss ss' ms : List BookEntry)
    → IsKept opens h (record { entries = count; session = session; tx = tx; first = first; live = live }) (record { pages = ps; sessions = ss; maint = ms }) total of_session
    → ss' ≡ ss ++ entry session 0 0 ∷ []
    → IsKept opens h (record { entries = count; session = session + 1; tx = tx; first = first; live = live }) (record { pages = ps; sessions = ss'; maint = ms }) total of_session
kept_opened opens h count session tx first live total of_session ps ss ss' ms k now =
    let new = entry session 0 0 in
    let own = k.fresh session (omega arith) in
    let other : (m : ℕ) → m ≢ session → entry_of m ss' ≡ entry_of m ss = λ m apart. ap (λ l. entry_of m l) now ∙ entry_of-apart m new ss apart in
    record {
      consistent = k.consistent;
      entries = k.entries;
      number = k.number;
      least = k.least;
      first = k.first;
      room = k.room;
      begun = k.begun;
      fresh = λ m above. let was = k.fresh m (omega (arith, above)) in record { book = other m (λ same. absurd (omega (arith, above, same))) ∙ was.book; entries = was.entries; begun = was.begun };
      counted = k.counted;
      sessions_counted = k.sessions_counted;
      books = record {
        pages = k.books.pages;
        sessions = λ m x is. dite (ℕ_discrete m session)
            (λ here.
            let found : entry_of session ss' ≡ Some new = ap (λ l. entry_of session l) now ∙ entry_of-added new ss own.book in
            let same : new ≡ x = some_is _ _ (sym found ∙ ap (λ q. entry_of q ss') (sym here) ∙ is) in
            (ap (λ (e : BookEntry). e.first) (sym same) ∙ sym (ap (λ q. session_entries h q) here ∙ own.entries), ap (λ (e : BookEntry). e.second) (sym same) ∙ sym (ap (unless_over h) (ap (λ q. last_begun h q) here ∙ own.begun))))
            (λ apart. k.books.sessions m x (sym (other m apart) ∙ is));
        maint = k.books.maint;
      };
    }

-- ---- counting

pub of_sessions_push : (h : List Entry) (e : Entry) → of_sessions (h ++ e ∷ []) ≡ cond (is_of_session h e) (suc (of_sessions h)) (of_sessions h)
unfolding of_sessions
of_sessions_push h e = along_push _ _ h e

pub not_empty : {A : Type 0} (xs : List A) (x : A) → xs ++ x ∷ [] ≡ [] → ⊥
not_empty xs x is = absurd (omega (arith, length-append xs (x ∷ []), ap length is))

-- ---- the start

nothing_split : (opening : List Record) → split_leaf opening [] ≡ None
unfolding split_leaf Along.along
nothing_split opening = refl

nothing_of_sessions : 0 ≡ of_sessions []
unfolding of_sessions Along.along
nothing_of_sessions = refl

nothing_begun : greatest_begun [] ≡ 0
unfolding greatest_begun Along.along
nothing_begun = refl

nothing_live : (t : ℕ) → phase [] t ≡ Idle
unfolding phase Along.along
nothing_live t = refl

pub no_session : (s : ℕ) → (session_entries [] s ≡ 0) × (last_begun [] s ≡ None)
unfolding session_entries last_begun Along.along
no_session s = (refl, refl)

idle : Idle ≡ Live → ⊥
idle e = absurd (cc e)

none_begun : (next : ℕ) → AreBegun [] (phase []) (last_begun []) next 0
none_begun next = record {
  once = λ t. omega arith;
  below = λ t above. refl;
  small = λ t above. refl;
  started = λ t some. absurd (omega (arith, some));
  owner = λ s t is. absurd (cc (is, (no_session s).1));
  counted = refl;
  most = omega arith;
}

pub kept_new : (opens : List Record → Type 0) (b : BooksOf) (ss : List BookEntry) (next : ℕ) → AreKept opens [] b → b.sessions ≡ [] → ss ≡ b.sessions ++ entry 0 0 0 ∷ [] → 1 ≤ next → ((opening : List Record) → opens opening → Begins opening next)
    → IsKept opens [] (record { entries = 0; session = 1; tx = next; first = next; live = 0 }) (record b { sessions = ss }) 0 0
kept_new opens b ss next books none spare least opened =
    let is : ss ≡ [] ++ entry 0 0 0 ∷ [] = spare ∙ ap (λ (es : List BookEntry). es ++ entry 0 0 0 ∷ []) none in
    let same : (opening : List Record) → life_log opening [] ≡ opening = λ opening. append-nil opening in
    record {
      consistent = record {
        legal = λ opening stands. nothing_legal opening;
        sound = λ opening stands. subst IsSound (sym (same opening)) (opened opening stands).sound;
        some = λ opening stands is. (opened opening stands).some (sym (same opening) ∙ is);
        told = nothing_told;
        split = λ opening stands. nothing_split opening;
      };
      entries = refl;
      number = λ opening stands. let n = (opened opening stands).number in let z = nothing_begun in omega (arith, n, z);
      least = least;
      first = record { least = omega arith; opening = λ opening stands. (opened opening stands).number; begun = λ t low. refl };
      room = omega arith;
      begun = none_begun next;
      fresh = λ s above. record { book = ap (entry_of s) is ∙ entry_of-apart s (entry 0 0 0) [] (λ same. absurd (omega (arith, above, same))); entries = (no_session s).0; begun = (no_session s).1 };
      books = record {
        pages = books.pages;
        sessions = λ n e found.
            dite (ℕ_discrete n 0)
            (λ here.
            let at : entry_of 0 ss ≡ Some (entry 0 0 0) = ap (entry_of 0) is ∙ entry_of-added (entry 0 0 0) [] refl in
            let same : entry 0 0 0 ≡ e = some_is _ _ (sym at ∙ ap (λ q. entry_of q ss) (sym here) ∙ found) in
            (ap (λ (x : BookEntry). x.first) (sym same) ∙ sym (no_session n).0, ap (λ (x : BookEntry). x.second) (sym same) ∙ sym (ap (unless_over []) (no_session n).1)))
            (λ apart. absurd (cc (sym (entry_of-apart n (entry 0 0 0) [] apart) ∙ sym (ap (entry_of n) is) ∙ found)));
        maint = books.maint;
      };
      counted = refl;
      sessions_counted = nothing_of_sessions;
    }
