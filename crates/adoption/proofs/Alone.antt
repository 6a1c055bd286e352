-- Whoever enters alone finds nothing between its own entries.
use Rattle.std.proofs.Common.{◌≡◌, ◌≢◌, ℕ, ◌+◌, ◌≤◌, Bool, true, List, [], ◌∷◌, ◌++◌, length, Option, Some, None, refl, sym, ap, subst, ◌∙◌, arith, length-append, inl, inr}
use Rattle.std.specs.List.{list_all}
use Rattle.store_model.specs.Along.{along}
use Rattle.wal_record.specs.History.{log_of, life_log}
use Rattle.wal_record.specs.Images.{image}
use Rattle.wal_record.specs.declared.page.PageState.{PageState}
use Rattle.wal_record.specs.declared.record.Record.{Record}
use Rattle.wal_record.specs.declared.record.Record.TheVariants as kinds
use Rattle.wal_record.specs.declared.entry.Entry.{Entry}
use Rattle.wal_record.specs.declared.entry.Entry.TheVariants.{Rec, Repaired}
use Rattle.foster_laws.specs.Paths.{TidyTo}
use Rattle.foster_laws.specs.PathRecords.{is_upkeep_record}
use Rattle.foster_laws.proofs.PathRecords.{path_upkeep_law}
use Rattle.page_ops.specs.Gains.{Goes}
use Rattle.page_ops.specs.Names.{LedgerName}
use Rattle.page_ops.specs.Seeing.{Known, IsAmong, Upholds, is_upkeep}
use Rattle.page_ops.proofs.Staying.{longer_log}
use Rattle.adoption.specs.Descents.{IsAlone}

-- ---- entries among others

among_length : (es xs : List Entry) → IsAmong es xs → length es ≤ length xs
among_length [] xs h = omega arith
among_length (e ∷ es) [] h = absurd h
among_length (e ∷ es) (x ∷ xs) h = elim h [
  | inl g ↦ let n = among_length es xs g.1 in omega (arith, n)
  | inr g ↦ let n = among_length (e ∷ es) xs g in omega (arith, n)
]

among_same : (es xs : List Entry) → IsAmong es xs → length xs ≤ length es → xs ≡ es
among_same [] [] h n = refl
among_same [] (x ∷ xs) h n = absurd (omega (arith, n))
among_same (e ∷ es) [] h n = absurd h
among_same (e ∷ es) (x ∷ xs) h n = elim h [
  | inl g ↦ let rest = among_same es xs g.1 (omega (arith, n)) in λ i. sym g.0 i ∷ rest i
  | inr g ↦ let m = among_length (e ∷ es) xs g in absurd (omega (arith, n, m))
]

-- ---- alone

module _ (ledger : LedgerName) (kind : Entry → Bool) (first k : Known) (alone : IsAlone ledger first) (goes : Goes kind first k) where
  seen_most : k.account.entries.amount ≤ length k.log
  seen_most =
      let n : length k.log ≡ length first.log + length goes.gained = ap (λ (l : List Entry). length l) goes.is ∙ length-append first.log goes.gained in
      let m = among_length goes.own goes.gained goes.among in
      let c = goes.counted in
      let s = alone.seen in
      omega (arith, n, m, c, s)

  pub alone_then : IsAlone ledger k
  alone_then = record { whole = goes.keeps.entry_parts ∙ alone.whole; seen = seen_most }

  -- what a call enters is all that comes
  pub own_alone : (opens : List Record → Type 0) (sessions : LedgerName) (kind' : Entry → Bool) (k' : Known) (u : Upholds opens ledger sessions kind' k k') → k'.log ≡ k.log ++ u.own
  own_alone opens sessions kind' k' u =
      let all : length k'.log ≡ k'.account.entries.amount = u.totals.all (u.keeps.entry_parts ∙ goes.keeps.entry_parts ∙ alone.whole) in
      let n : length k'.log ≡ length k.log + length u.gained = ap (λ (l : List Entry). length l) u.is ∙ length-append k.log u.gained in
      let c = u.counted in
      let m = seen_most in
      u.is ∙ ap (λ (l : List Entry). k.log ++ l) (among_same u.own u.gained u.among (omega (arith, all, n, c, m)))

-- ---- upkeep

upkeep_log : (es : List Entry) → list_all is_upkeep es ≡ true → list_all is_upkeep_record (log_of es) ≡ true
upkeep_log [] h = refl
upkeep_log (Repaired page ∷ es) h = upkeep_log es h
upkeep_log (Rec lsn (kinds.Written w) ∷ es) h = upkeep_log es h
upkeep_log (Rec lsn (kinds.Restored r) ∷ es) h = upkeep_log es h
upkeep_log (_ ∷ es) h = absurd cc

no_image : (p : ℕ) → image [] p ≡ None
unfolding image along
no_image p = refl

none_is : (s : PageState) → ◌≡◌ {A = Option PageState} None (Some s) → ⊥
none_is s e = cc

pub some_log : (log : List Record) (p : ℕ) (s : PageState) → image log p ≡ Some s → log ≢ []
some_log log p s is e = none_is s (sym (no_image p) ∙ ap (λ (l : List Record). image l p) (sym e) ∙ is)

module _ (opens : List Record → Type 0) (ledger sessions : LedgerName) (kind : Entry → Bool) (first k k' : Known) (alone : IsAlone ledger first) (goes : Goes kind first k) (u : Upholds opens ledger sessions is_upkeep k k') (opening : List Record) where
  log_then : life_log opening k'.log ≡ life_log opening k.log ++ log_of u.own
  log_then = ap (life_log opening) (own_alone ledger kind first k alone goes opens sessions is_upkeep k' u) ∙ longer_log opening k.log u.own

  pub same_images : (p : ℕ) → image (life_log opening k'.log) p ≡ image (life_log opening k.log) p
  same_images p = ap (λ (l : List Record). image l p) log_then ∙ (path_upkeep_law (life_log opening k.log) (log_of u.own) [] 1).image (upkeep_log u.own u.kinds) p

  -- the path to a page stays tidy meanwhile
  pub tidy_looked : (key : List ℕ) (p : ℕ) (s : PageState) → image (life_log opening k.log) p ≡ Some s → TidyTo (life_log opening k.log) key p → TidyTo (life_log opening k'.log) key p
  tidy_looked key p s is tidy = subst (λ (l : List Record). TidyTo l key p) (sym log_then) ((path_upkeep_law (life_log opening k.log) (log_of u.own) key p).tidy (some_log (life_log opening k.log) p s is) (upkeep_log u.own u.kinds) tidy)
