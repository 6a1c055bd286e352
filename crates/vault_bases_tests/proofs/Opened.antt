-- The books of a life that begins, in which the right to maintenance is given out.
use Rattle.std.proofs.Common.{◌≡◌, ℕ, Bool, true, false, cond, eqb, List, [], ◌∷◌, ◌++◌, Some, None, refl, sym, ap, ◌∙◌}
use Rattle.std.proofs.lemmas.Bool.{eqb-true}
use Rattle.books.specs.Booking.{entry, entry_of}
use Rattle.books.specs.declared.entry.BookEntry.{BookEntry}
use Rattle.store_model.specs.Along.{along}
use Rattle.wal_record.specs.Books.{maintenance_book}
use Rattle.wal_record.specs.declared.record.Record.{Record}
use Rattle.life_history.specs.Kept.{AreKept, IsSmall}

pub none_named : maintenance_book [] ≡ 0
unfolding maintenance_book along
none_named = refl

one_entry : (n : ℕ) (e : BookEntry) → entry_of n (entry 0 0 0 ∷ []) ≡ Some e → e.first ≡ 0
one_entry n e found = by (eqb 0 n) found
  where
    by : (b : Bool) → cond b (Some (entry 0 0 0)) None ≡ Some e → e.first ≡ 0
    by true found = let same : entry 0 0 0 ≡ e = cc found in ap (λ (x : BookEntry). x.first) (sym same)
    by false found = absurd (cc found)

pub kept : (opens : List Record → Type 0) → ((opening : List Record) → opens opening → ⊥) → (pages sessions before maint : List BookEntry) → sessions ≡ [] → before ≡ [] → maint ≡ before ++ entry 0 0 0 ∷ []
    → AreKept opens [] (record { pages = pages; sessions = sessions; maint = maint })
kept opens untold pages sessions before maint none empty opened =
    let one : maint ≡ entry 0 0 0 ∷ [] = opened ∙ ap (λ (es : List BookEntry). es ++ entry 0 0 0 ∷ []) empty in
    record {
      pages = λ n e found opening stands. absurd (untold opening stands);
      sessions = λ n e found. absurd (cc (sym found ∙ ap (entry_of n) none));
      maint = λ n e found. one_entry n e (sym (ap (entry_of n) one) ∙ found) ∙ sym none_named;
    }

is_zero : (n : ℕ) (e : BookEntry) → entry_of n (entry 0 0 0 ∷ []) ≡ Some e → n ≡ 0
is_zero n e found = by (eqb 0 n) refl found
  where
    by : (b : Bool) → eqb 0 n ≡ b → cond b (Some (entry 0 0 0)) None ≡ Some e → n ≡ 0
    by true same found = sym (eqb-true 0 n same)
    by false same found = absurd (cc found)

pub small : (pages sessions before maint : List BookEntry) → pages ≡ [] → before ≡ [] → maint ≡ before ++ entry 0 0 0 ∷ [] → IsSmall 1 (record { pages = pages; sessions = sessions; maint = maint })
small pages sessions before maint none empty opened =
    let one : maint ≡ entry 0 0 0 ∷ [] = opened ∙ ap (λ (es : List BookEntry). es ++ entry 0 0 0 ∷ []) empty in
    record { pages = λ n low. ap (entry_of n) none; maint = λ n e found. is_zero n e (sym (ap (entry_of n) one) ∙ found) }
