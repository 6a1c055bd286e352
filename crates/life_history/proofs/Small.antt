-- Which entries the books of pages and of maintenance have.
use Rattle.std.proofs.Common.{◌≡◌, ℕ, ◌+◌, ◌≤◌, List, [], ◌∷◌, ◌++◌, Some, None, refl, sym, ap, ◌∙◌, arith}
use native.Mathlib.Decide.{ℕ_discrete}
use mathlib.Core.Logic.{dite}
use Rattle.books.specs.Booking.{entry, entry_of, replaced}
use Rattle.books.specs.declared.entry.BookEntry.{BookEntry}
use Rattle.books.proofs.Keeping.{entry_of-added, entry_of-other}
use Rattle.wal_record.specs.Books.{page_book}
use Rattle.wal_record.specs.declared.entry.Entry.{Entry}
use Rattle.wal_record.specs.declared.record.Record.{Record}
use Rattle.life_history.specs.Kept.{Numbers, IsKept, IsSmall}
use Rattle.life_history.proofs.Keeping.{entry_of-apart, some_is}

-- a number without an entry stays so
pub none_replaced : (es : List BookEntry) (right new : BookEntry) (n : ℕ) → entry_of right.number es ≡ Some right → new.number ≡ right.number → entry_of n es ≡ None → entry_of n (replaced new es) ≡ None
none_replaced es right new n there same none =
    entry_of-other n new es (λ here. absurd (cc (sym none ∙ ap (λ m. entry_of m es) (here ∙ same) ∙ there))) ∙ none

-- and a number with one had one
pub some_before : (es : List BookEntry) (right new : BookEntry) (n : ℕ) (e : BookEntry) → entry_of right.number es ≡ Some right → new.number ≡ right.number → entry_of n (replaced new es) ≡ Some e → (was : BookEntry) × (entry_of n es ≡ Some was)
some_before es right new n e there same is = dite (ℕ_discrete n new.number)
    (λ here. (right, ap (λ m. entry_of m es) (here ∙ same) ∙ there))
    (λ apart. (e, sym (entry_of-other n new es apart) ∙ is))

pub small_same : (page : ℕ) (ps ps' ss ss' ms ms' : List BookEntry) → ps' ≡ ps → ms' ≡ ms → IsSmall page (record { pages = ps; sessions = ss; maint = ms }) → IsSmall page (record { pages = ps'; sessions = ss'; maint = ms' })
small_same page ps ps' ss ss' ms ms' same same' k = record {
  pages = λ n high. ap (entry_of n) same ∙ k.pages n high;
  maint = λ n e is. k.maint n e (sym (ap (entry_of n) same') ∙ is);
}

pub small_pages : (page : ℕ) (ps ps' ss ms : List BookEntry) (right : BookEntry) (first second : ℕ) → entry_of right.number ps ≡ Some right → ps' ≡ replaced (entry right.number first second) ps
    → IsSmall page (record { pages = ps; sessions = ss; maint = ms }) → IsSmall page (record { pages = ps'; sessions = ss; maint = ms })
small_pages page ps ps' ss ms right first second there now k = record {
  pages = λ n high. ap (entry_of n) now ∙ none_replaced ps right (entry right.number first second) n there refl (k.pages n high);
  maint = k.maint;
}

pub small_maint : (page : ℕ) (ps ss ms ms' : List BookEntry) (right : BookEntry) (first second : ℕ) → entry_of right.number ms ≡ Some right → ms' ≡ replaced (entry right.number first second) ms
    → IsSmall page (record { pages = ps; sessions = ss; maint = ms }) → IsSmall page (record { pages = ps; sessions = ss; maint = ms' })
small_maint page ps ss ms ms' right first second there now k = record {
  pages = k.pages;
  maint = λ n e is. let was = some_before ms right (entry right.number first second) n e there refl (sym (ap (entry_of n) now) ∙ is) in k.maint n was.0 was.1;
}

-- a page more, which has no record yet
pub kept_page : (opens : List Record → Type 0) (h : List Entry) (n : Numbers) (ps ps' ss ms : List BookEntry) (total of_session page : ℕ) → IsKept opens h n (record { pages = ps; sessions = ss; maint = ms }) total of_session
    → entry_of page ps ≡ None → ((opening : List Record) → opens opening → page_book opening h page ≡ 0) → ps' ≡ ps ++ entry page 0 0 ∷ [] → IsKept opens h n (record { pages = ps'; sessions = ss; maint = ms }) total of_session
kept_page opens h n ps ps' ss ms total of_session page k none fresh now = record {
  consistent = k.consistent;
  entries = k.entries;
  number = k.number;
  least = k.least;
  first = k.first;
  room = k.room;
  begun = k.begun;
  fresh = k.fresh;
  counted = k.counted;
  sessions_counted = k.sessions_counted;
  books = record {
    pages = λ m x is opening stands. dite (ℕ_discrete m page)
        (λ here.
        let found : entry_of page ps' ≡ Some (entry page 0 0) = ap (entry_of page) now ∙ entry_of-added (entry page 0 0) ps none in
        let same : entry page 0 0 ≡ x = some_is _ _ (sym found ∙ ap (λ q. entry_of q ps') (sym here) ∙ is) in
        ap (λ (e : BookEntry). e.first) (sym same) ∙ sym (ap (page_book opening h) here ∙ fresh opening stands))
        (λ apart. k.books.pages m x (sym (ap (entry_of m) now ∙ entry_of-apart m (entry page 0 0) ps apart) ∙ is) opening stands);
    sessions = k.books.sessions;
    maint = k.books.maint;
  };
}

-- the book then
pub small_opened : (page new : ℕ) (ps ps' ss ms : List BookEntry) → page ≤ new → ps' ≡ ps ++ entry new 0 0 ∷ [] → IsSmall page (record { pages = ps; sessions = ss; maint = ms }) → IsSmall (new + 1) (record { pages = ps'; sessions = ss; maint = ms })
small_opened page new ps ps' ss ms high now k = record {
  pages = λ n above. ap (entry_of n) now ∙ entry_of-apart n (entry new 0 0) ps (λ same. absurd (omega (arith, above, same))) ∙ k.pages n (omega (arith, high, above));
  maint = k.maint;
}
