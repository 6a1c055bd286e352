use Rattle.std.proofs.Common.{◌≡◌, ℕ, eqb, cond, List, [], ◌∷◌, ◌++◌, Some, None, Bool, true, false, refl, ap, ◌∙◌, eq-eqb}
use Rattle.books.specs.Booking.{entry, entry_of, replaced}
use Rattle.books.specs.declared.entry.BookEntry.{BookEntry}
use Rattle.buffer_pool_tests.proofs.life.first_right.Goals as goal

-- the last entry alone has its number
replaced_last : (n first : ℕ) (es : List BookEntry) → entry_of n es ≡ None → replaced (entry n first 0) (es ++ entry n 0 0 ∷ []) ≡ es ++ entry n first 0 ∷ []
replaced_last n first [] none = ap (λ (b : Bool). cond b (entry n first 0) (entry n 0 0) ∷ []) (eq-eqb n n refl)
replaced_last n first (e ∷ es) none = by (eqb e.number n) (replaced_last n first es) none
  where
    by : (b : Bool) → (entry_of n es ≡ None → replaced (entry n first 0) (es ++ entry n 0 0 ∷ []) ≡ es ++ entry n first 0 ∷ []) → cond b (Some e) (entry_of n es) ≡ None → cond b (entry n first 0) e ∷ replaced (entry n first 0) (es ++ entry n 0 0 ∷ []) ≡ e ∷ (es ++ entry n first 0 ∷ [])
    by true rest h = absurd (cc h)
    by false rest h = ap (λ (xs : List BookEntry). e ∷ xs) (rest h)

pub returns-clause-book : goal.returns-clause-book
returns-clause-book g c =
    c.set.ensures.book
    ∙ (λ i. replaced (entry ((c.open-right.ensures.right i).number) 5 0) (c.open-right.ensures.book i))
    ∙ replaced_last c.args.page 5 c.args.book.now c.requires.none
