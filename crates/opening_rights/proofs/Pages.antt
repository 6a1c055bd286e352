-- Pages whose rights are at home, one by one.
use Rattle.std.proofs.Common.{◌≡◌, ℕ, ◌+◌, ◌<◌, ◌≤◌, List, [], ◌∷◌, ◌++◌, Option, Some, None, refl, sym, ap, ◌∙◌, subst, arith, append-nil}
use Rattle.std.specs.Prelude.{IfSome, IsTrue}
use Rattle.std.proofs.lemmas.Bool.Decides.{nat_tests}
use native.Mathlib.Decide.{ℕ_discrete}
use mathlib.Core.Logic.{dite}
use Rattle.books.specs.Booking.{entry, entry_of, replaced}
use Rattle.books.specs.Rights.{PageClaim}
use Rattle.books.specs.declared.entry.BookEntry.{BookEntry}
use Rattle.books.proofs.Keeping.{entry_of-added}
use Rattle.store_model.specs.Along as Along
use Rattle.page_index.specs.Index.{Index, home_of, written_of, Notes, Rehomes}
use Rattle.page_ops.specs.Claims.{IsInRange}
use Rattle.store_model.specs.declared.limits.TheConstants.{MOST_PAGES}
use Rattle.wal_record.specs.Rules.{is_number, is_page}
use Rattle.wal_record.specs.Books.{maintenance_book}
use Rattle.wal_record.specs.Chains.{head}
use Rattle.wal_record.specs.Upkeep.{written_lsn}
use Rattle.wal_record.specs.declared.record.Record.{Record}
use Rattle.life_history.proofs.Keeping.{entry_of-apart, some_is}
use Rattle.life_history.specs.Kept.{AreKept, IsSmall}
use Rattle.opening_rights.specs.Opened.{ArePagesOf, HaveHeads, Homes, NoneAbove}

-- ---- one page

-- the last entry of its number becomes this one
pub replaced_last : (n first : ℕ) (es : List BookEntry) → entry_of n es ≡ None → replaced (entry n first 0) (es ++ entry n 0 0 ∷ []) ≡ es ++ entry n first 0 ∷ []
replaced_last n first [] none = grind (arith, nat_tests)
replaced_last n first (e ∷ es) none = grind (arith, nat_tests, none, replaced_last n first es)

-- a right comes home, and then its page is noted as written
pub homes : (old mid new : Index) (page lsn written : ℕ) (right : PageClaim) → right ≡ record { page = page; lsn = lsn } → Rehomes old mid right.page (Some right) → Notes mid new page written → Homes old new page lsn written
homes old mid new page lsn written right is home notes =
    let at : right.page ≡ page = ap (λ (r : PageClaim). r.page) is in
    record {
      limit = notes.limit ∙ home.limit;
      home = notes.homes page ∙ ap (home_of mid) (sym at) ∙ home.home ∙ ap Some is;
      written = notes.written;
      others = λ q apart. notes.homes q ∙ home.others q (λ same. apart (same ∙ at));
      others_written = λ q apart. notes.others q apart ∙ home.written q;
    }

-- ---- page by page

pub none_more : (count lsn : ℕ) (book : List BookEntry) → NoneAbove count book → NoneAbove (count + 1) (book ++ entry (count + 1) lsn 0 ∷ [])
none_more count lsn book none p above = entry_of-apart p (entry (count + 1) lsn 0) book (λ same. absurd (omega (arith, same, above))) ∙ none p (omega (arith, above))

heads_more : (log : List Record) (count : ℕ) (book : List BookEntry) → NoneAbove count book → HaveHeads log book → HaveHeads log (book ++ entry (count + 1) (head log (count + 1)) 0 ∷ [])
heads_more log count book none heads p e found =
    let new = entry (count + 1) (head log (count + 1)) 0 in
    dite (ℕ_discrete p (count + 1))
    (λ here.
    let at : entry_of (count + 1) (book ++ new ∷ []) ≡ Some new = entry_of-added new book (none (count + 1) (omega arith)) in
    let same : new ≡ e = some_is _ _ (sym at ∙ ap (λ q. entry_of q (book ++ new ∷ [])) (sym here) ∙ found) in
    ap (λ (x : BookEntry). x.first) (sym same) ∙ ap (head log) (sym here))
    (λ apart. heads p e (sym (entry_of-apart p new book apart) ∙ found))

pub pages_more : (log : List Record) (count lsn written : ℕ) (old new : Index) (book : List BookEntry) → lsn ≡ head log (count + 1) → written ≡ written_lsn log (count + 1) → NoneAbove count book → Homes old new (count + 1) lsn written
    → ArePagesOf log count old book → ArePagesOf log (count + 1) new (book ++ entry (count + 1) lsn 0 ∷ [])
pages_more log count lsn written old new book heads notes none homes first =
    record {
      rights = record {
        home = λ p low high. dite (ℕ_discrete p (count + 1))
            (λ here. ap (home_of new) here ∙ homes.home ∙ (λ i. Some (record { page = sym here i; lsn = (heads ∙ ap (head log) (sym here)) i })))
            (λ apart. homes.others p apart ∙ first.rights.home p low (omega (arith, high, apart)));
        away = λ p above. homes.others p (λ same. absurd (omega (arith, same, above))) ∙ first.rights.away p (omega (arith, above));
        written = λ p low high. dite (ℕ_discrete p (count + 1))
            (λ here. ap (written_of new) here ∙ homes.written ∙ notes ∙ ap (written_lsn log) (sym here))
            (λ apart. homes.others_written p apart ∙ first.rights.written p low (omega (arith, high, apart)));
        unwritten = λ p above. homes.others_written p (λ same. absurd (omega (arith, same, above))) ∙ first.rights.unwritten p (omega (arith, above));
      };
      heads = subst (λ (n : ℕ). HaveHeads log (book ++ entry (count + 1) n 0 ∷ [])) (sym heads) (heads_more log count book none first.heads);
    }

pub no_pages : (log : List Record) (index : Index) → ((p : ℕ) → home_of index p ≡ None) → ((p : ℕ) → written_of index p ≡ 0) → ArePagesOf log 0 index []
no_pages log index out none =
    record {
      rights = record { home = λ p low high. absurd (omega (arith, low, high)); away = λ p above. out p; written = λ p low high. absurd (omega (arith, low, high)); unwritten = λ p above. none p };
      heads = λ p e found. absurd (cc found);
    }

-- ---- numbers in their ranges

-- the page behind so many is one that a store may have
pub numbered : (count pages : ℕ) → count < pages → pages ≤ MOST_PAGES → IsTrue (is_page (count + 1))
numbered count pages below most = grind (arith, nat_tests, below, most)

pub none_in_range : (index : Index) → ((page : ℕ) → home_of index page ≡ None) → (page : ℕ) → IfSome (home_of index page) IsInRange
none_in_range index out page = subst (λ (o : Option PageClaim). IfSome o IsInRange) (sym (out page)) tt

-- one more right is at home
pub ranges_more : (old new : Index) (page lsn written : ℕ) → Homes old new page lsn written → IsTrue (is_page page) → IsTrue (is_number lsn)
    → ((q : ℕ) → IfSome (home_of old q) IsInRange) → (q : ℕ) → IfSome (home_of new q) IsInRange
ranges_more old new page lsn written homes here number before q = dite (ℕ_discrete q page)
    (λ same. subst (λ (o : Option PageClaim). IfSome o IsInRange) (sym (ap (home_of new) same ∙ homes.home)) (here, number))
    (λ apart. subst (λ (o : Option PageClaim). IfSome o IsInRange) (sym (homes.others q apart)) (before q))

-- ---- the books

nothing_kept : maintenance_book [] ≡ 0
unfolding maintenance_book Along.along
nothing_kept = refl

module _ (opens : List Record → Type 0) (ps ss ms was : List BookEntry) (none : ss ≡ []) (empty : was ≡ []) (opened : ms ≡ was ++ entry 0 0 0 ∷ []) where
  maint : ms ≡ [] ++ entry 0 0 0 ∷ []
  maint = opened ∙ ap (λ (es : List BookEntry). es ++ entry 0 0 0 ∷ []) empty

  pub begin_kept : ((opening : List Record) → opens opening → HaveHeads opening ps) → AreKept opens [] (record { pages = ps; sessions = ss; maint = ms })
  begin_kept heads =
      record {
        pages = λ n e found opening stands. heads opening stands n e found ∙ ap (λ (log : List Record). head log n) (sym (append-nil opening));
        sessions = λ n e found. absurd (cc (sym found ∙ ap (entry_of n) none));
        maint = λ n e found. dite (ℕ_discrete n 0)
            (λ here.
            let at : entry_of 0 ms ≡ Some (entry 0 0 0) = ap (entry_of 0) maint ∙ entry_of-added (entry 0 0 0) [] refl in
            let same : entry 0 0 0 ≡ e = some_is _ _ (sym at ∙ ap (λ q. entry_of q ms) (sym here) ∙ found) in
            ap (λ (x : BookEntry). x.first) (sym same) ∙ sym nothing_kept)
            (λ apart. absurd (cc (sym (entry_of-apart n (entry 0 0 0) [] apart) ∙ sym (ap (entry_of n) maint) ∙ found)));
      }

  pub begin_small : (count : ℕ) → NoneAbove count ps → IsSmall (count + 1) (record { pages = ps; sessions = ss; maint = ms })
  begin_small count none =
      record {
        pages = λ n above. none n (omega (arith, above));
        maint = λ n e found. dite (ℕ_discrete n 0)
            (λ here. here)
            (λ apart. absurd (cc (sym (entry_of-apart n (entry 0 0 0) [] apart) ∙ sym (ap (entry_of n) maint) ∙ found)));
      }
