-- A page that is split: its lower half, and how long that is.
use Rattle.std.proofs.Common.{◌≡◌, ℕ, ◌+◌, ◌<◌, ◌≤◌, true, false, leb, List, length, Option, Some, None, refl, sym, ap, subst, ◌∙◌, arith}
use Rattle.std.specs.Prelude.{IsTrue}
use Rattle.std.proofs.lemmas.Bool.Decides.{nat_tests}
use Rattle.store_model.specs.Range.{is_below}
use Rattle.store_model.proofs.Bools.{both_true}
use Rattle.wal_record.specs.State.{text_of, is_text, high_size, rows_size, state_size, page_room, KeepsState}
use Rattle.wal_record.specs.Images.{CanSplit, lower_half, lower_rows, has_rows}
use Rattle.wal_record.specs.declared.page.PageState.{PageState}
use Rattle.wal_record.specs.declared.page.Rows.{Rows}
use Rattle.wal_record.specs.declared.record.Split.{Split}
use Rattle.page_rows.specs.Redo.{Changed, IsCut, CanCut, IsSameFrame, first_rows}
use Rattle.page_rows.proofs.Cuts.{not_empty}
use Rattle.page_rows.proofs.Changes.{changed_never}

module _ (x : Split) (s : PageState) where
  abbrev at : Option (List ℕ)
  at = x.child_state.low

  pub no_frame : (IsSameFrame x.child_state s → ⊥) → Changed (CanSplit x) (lower_half x) s s false
  no_frame other = changed_never (CanSplit x) (lower_half x) s (λ can. other (can.level, can.high, can.foster))

  pub no_cut : (CanCut at s.rows x.child_state.rows → ⊥) → Changed (CanSplit x) (lower_half x) s s false
  no_cut other = changed_never (CanSplit x) (lower_half x) s (λ can. other (can.upper, can.goes, can.stays))

  le_true : (m n : ℕ) → leb m n ≡ true → m ≤ n
  le_true m n h = grind (arith, nat_tests)

  there : (o end : Option (List ℕ)) → is_below o end ≡ true → o ≡ Some (text_of o)
  there None end h = absurd cc
  there (Some t) end h = refl

  -- the key of the new page is a key
  pub is_a_key : (m : ℕ) → KeepsState x.child_state → IsCut at s.rows x.child_state.rows m → (1 ≤ length (text_of at)) × (length (text_of at) ≤ 64)
  is_a_key m keeps cut =
      let low : at ≡ Some (text_of at) = there at x.child_state.high keeps.fences in (
        not_empty (text_of at) s.rows (subst (λ (o : Option (List ℕ)). IsTrue (has_rows (lower_rows o s.rows))) low cut.stays),
        le_true (length (text_of at)) 64 (both_true (is_text (text_of at)) (is_text (text_of x.child_state.high)) keeps.texts).0,
      )

  module _ (m : ℕ) (key : List ℕ) (cut : IsCut at s.rows x.child_state.rows m) (k : key ≡ text_of at) where
    -- how long the lower half is
    size_is : (n : ℕ) → n ≡ 10 + length (text_of s.low) + high_size s.high + length key + rows_size (first_rows m s.rows) → state_size (lower_half x s) ≡ n
    size_is n e =
        let rows : rows_size (lower_rows at s.rows) ≡ rows_size (first_rows m s.rows) = ap rows_size cut.keeps in
        let len : length key ≡ length (text_of at) = ap length k in
        omega (arith, e, rows, len)

    pub too_long : (n : ℕ) → n ≡ 10 + length (text_of s.low) + high_size s.high + length key + rows_size (first_rows m s.rows) → page_room < n → Changed (CanSplit x) (lower_half x) s s false
    too_long n e over = (λ can. let same = size_is n e in omega (arith, same, over), refl)

    pub halved : (n : ℕ) → n ≡ 10 + length (text_of s.low) + high_size s.high + length key + rows_size (first_rows m s.rows) → n ≤ page_room → IsSameFrame x.child_state s → (rows : Rows) → rows ≡ first_rows m s.rows
        → Changed (CanSplit x) (lower_half x) s (record { level = s.level; low = s.low; high = s.high; foster = Some (record { key = key; child = x.child }); rows = rows }) true
    halved n e fits frame rows r =
        let same = size_is n e in (
          record { level = frame.0; high = frame.1; foster = frame.2; upper = cut.others; goes = cut.goes; stays = cut.stays },
          omega (arith, same, fits),
          (λ i. record { level = s.level; low = s.low; high = s.high; foster = Some (record { key = k i; child = x.child }); rows = (r ∙ sym cut.keeps) i }),
        )
