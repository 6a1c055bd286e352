-- The listed transactions go on with each record.
use Rattle.std.proofs.Common.{◌≡◌, ◌≢◌, ℕ, ◌+◌, ◌<◌, ◌≤◌, zero, suc, Bool, true, false, cond, eqb, List, [], ◌∷◌, ◌++◌, map, length, Option, Some, None, refl, sym, ap, ◌∙◌, arith, inl, inr}
use Rattle.std.specs.Prelude.{max, ◌^◌, ◌-◌, nat_le}
use Rattle.std.proofs.Math.Nat.{le-max_left, le-max_right}
use Rattle.std.proofs.lemmas.Bool.{cases_eq}
use Rattle.std.proofs.lemmas.Bool.Decides.{nat_tests}
use Rattle.store_model.specs.Along.{along}
use Rattle.store_model.proofs.Bools.{both_true}
use Rattle.wal_record.specs.Rules.{is_number}
use Rattle.wal_record.specs.Chains.{Link, link_of, is_link_of, tx_of, tx_or_none, last, greatest}
use Rattle.wal_record.specs.OpenWrites.{key_of, open_step, open_writes, open_list, without_last, has_items, is_loser, losers}
use Rattle.wal_record.specs.Checkpoints.{last_open, unfinished}
use Rattle.wal_record.specs.Sound.{IsLawful, AreLawful}
use Rattle.wal_record.specs.declared.record.OpenWrite.{OpenWrite}
use Rattle.wal_record.specs.declared.record.Unfinished.{Unfinished}
use Rattle.wal_record.specs.declared.record.Record.{Record}
use Rattle.wal_record.specs.declared.record.Record.TheVariants as kinds
use Rattle.wal_record.proofs.Along.{by_pushes}
use Rattle.wal_record.proofs.Pushes.{lawful_front, open_push, open_list_push, last_push, greatest_push}
use Rattle.log_laws.specs.Places.{AllPlaced}
use Rattle.log_laws.proofs.Central.{eqb_self, eqb_differ}
use Rattle.log_laws.proofs.Places.{places}
use Rattle.log_laws.proofs.Serial.{no_loser}
use Rattle.listing_laws.specs.Summary.{writes_in, put, without, put_open, transactions_step}
use Rattle.listing_laws.proofs.Listing.{listing, listing_same, wider, found, none_found, put_in, taken_out}

-- ---- the two lists of open writes

some_placed : (log : List Record) (ws : List OpenWrite) (rs : List Record) → AllPlaced log ws rs → has_items ws ≡ has_items rs
some_placed log [] [] h = refl
some_placed log [] (r ∷ rs) h = absurd h
some_placed log (w ∷ ws) [] h = absurd h
some_placed log (w ∷ ws) (r ∷ rs) h = refl

pub some_open : (log : List Record) (t : ℕ) → is_loser log t ≡ has_items (open_list log t)
some_open log t = sym (some_placed log (open_list log t) (open_writes log t) (places log t).placed)

pub nothing : {A : Type 0} → (xs : List A) → has_items xs ≡ false → xs ≡ []
nothing [] h = refl
nothing (x ∷ xs) h = absurd cc

pub none_listed : (log : List Record) (t : ℕ) → greatest log < t → open_list log t ≡ []
none_listed log t h = nothing (open_list log t) (sym (some_open log t) ∙ no_loser log t h)

-- the lists of others stay
elsewhere : {A : Type 0} → (t : ℕ) (x : A) (ws : List A) (r : Record) → tx_of r ≢ t → open_step t x ws r ≡ ws
elsewhere t x ws (kinds.Write w) h = ap (λ (b : Bool). cond b (ws ++ x ∷ []) ws) (eqb_differ w.tx t h)
elsewhere t x ws (kinds.Apply a) h = ap (λ (b : Bool). cond b (ws ++ x ∷ []) ws) (eqb_differ a.tx t h)
elsewhere t x ws (kinds.Undo u) h = ap (λ (b : Bool). cond b (without_last ws) ws) (eqb_differ u.tx t h)
elsewhere t x ws (kinds.Commit c) h = ap (λ (b : Bool). cond b [] ws) (eqb_differ c.tx t h)
elsewhere t x ws (kinds.End e) h = ap (λ (b : Bool). cond b [] ws) (eqb_differ e.tx t h)
elsewhere t x ws _ h = refl

-- ---- numbers of transactions

number_above : (n : ℕ) → is_number n ≡ true → 1 ≤ n
number_above n h = let l : nat_le 1 n ≡ true = (both_true (nat_le 1 n) (nat_le n (2 ^ 63 - 1)) h).0 in grind (arith, nat_tests)

abbrev NamesSome : Option Link → Type 0
NamesSome None = Unit {0}
NamesSome (Some l) = 1 ≤ l.tx

pub linked : (log : List Record) (r : Record) → IsLawful log r → NamesSome (link_of r)
linked log (kinds.Write w) l = number_above w.tx l.fields.tx
linked log (kinds.Apply w) l = number_above w.tx l.fields.tx
linked log (kinds.Undo w) l = number_above w.tx l.fields.tx
linked log (kinds.Commit w) l = number_above w.tx l.fields.tx
linked log (kinds.End w) l = number_above w.tx l.fields.tx
linked log _ l = tt

nothing_open : (t : ℕ) → open_writes [] t ≡ []
unfolding open_writes along
nothing_open t = refl

step_of_none : (ws : List Record) (r : Record) → NamesSome (link_of r) → ws ≡ [] → open_step 0 r ws r ≡ []
step_of_none ws (kinds.Write w) h e = ap (λ (b : Bool). cond b (ws ++ kinds.Write w ∷ []) ws) (eqb_differ w.tx 0 (λ d. omega (arith, h, d))) ∙ e
step_of_none ws (kinds.Apply w) h e = ap (λ (b : Bool). cond b (ws ++ kinds.Apply w ∷ []) ws) (eqb_differ w.tx 0 (λ d. omega (arith, h, d))) ∙ e
step_of_none ws (kinds.Undo w) h e = ap (λ (b : Bool). cond b (without_last ws) ws) (eqb_differ w.tx 0 (λ d. omega (arith, h, d))) ∙ e
step_of_none ws (kinds.Commit w) h e = ap (λ (b : Bool). cond b [] ws) (eqb_differ w.tx 0 (λ d. omega (arith, h, d))) ∙ e
step_of_none ws (kinds.End w) h e = ap (λ (b : Bool). cond b [] ws) (eqb_differ w.tx 0 (λ d. omega (arith, h, d))) ∙ e
step_of_none ws _ h e = e

-- the number 0 names none
pub none_of_zero : (log : List Record) → AreLawful log → open_writes log 0 ≡ []
none_of_zero = by_pushes (λ (log : List Record). AreLawful log → open_writes log 0 ≡ []) (λ _. nothing_open 0)
    (λ log r before lawful.
    let parts = lawful_front log r lawful in
    open_push log r 0 ∙ step_of_none (open_writes log 0) r (linked log r parts.1) (before parts.0))

-- ---- what a log lists

abbrev pub listed : List Record → List Unfinished
listed log = map (unfinished log) (losers log)

-- the open writes of a transaction are found there
pub writes_listed : (log : List Record) → AreLawful log → (t : ℕ) → writes_in t (listed log) ≡ open_list log t
writes_listed log lawful zero =
    none_found (is_loser log) (unfinished log) (λ t. refl) 0 1 (greatest log) (omega arith)
    ∙ sym (nothing (open_list log 0) (sym (some_open log 0) ∙ ap has_items (none_of_zero log lawful)))
writes_listed log lawful (suc t) = elim (cases_eq (greatest log - t) 0) [
  | inl e ↦ past (omega (arith, e))
  | inr d ↦ found (is_loser log) (unfinished log) (λ q. refl) (suc t) 1 (greatest log) (omega arith) (omega (arith, d)) ∙ by (is_loser log (suc t)) refl
]
  where
    by : (b : Bool) → is_loser log (suc t) ≡ b → cond b (open_list log (suc t)) [] ≡ open_list log (suc t)
    by true e = refl
    by false e = sym (nothing (open_list log (suc t)) (sym (some_open log (suc t)) ∙ e))

    past : greatest log < suc t → writes_in (suc t) (listed log) ≡ open_list log (suc t)
    past h =
        ap (writes_in (suc t)) (sym (wider (is_loser log) (unfinished log) 1 (greatest log) (suc t) (omega (arith, h)) (λ q l. no_loser log q (omega (arith, l)))))
        ∙ found (is_loser log) (unfinished log) (λ q. refl) (suc t) 1 (suc t) (omega arith) (omega arith)
        ∙ by (is_loser log (suc t)) refl

-- ---- a record more

module _ (log : List Record) (r : Record) where
  abbrev now : List Record
  now = log ++ r ∷ []

  abbrev most : ℕ
  most = max (greatest log) (tx_of r)

  before_wide : listing (is_loser log) (unfinished log) 1 most ≡ listed log
  before_wide = wider (is_loser log) (unfinished log) 1 (greatest log) most (le-max_left (greatest log) (tx_of r)) (λ q l. no_loser log q (omega (arith, l)))

  now_wide : listing (is_loser now) (unfinished now) 1 most ≡ listed now
  now_wide = ap (listing (is_loser now) (unfinished now) 1) (sym (greatest_push log r))

  other_test : (q : ℕ) → tx_of r ≢ q → is_loser now q ≡ is_loser log q
  other_test q d = ap has_items (open_push log r q ∙ elsewhere q r (open_writes log q) r d)

  list_kept : (q : ℕ) → tx_of r ≢ q → open_list now q ≡ open_list log q
  list_kept q d = open_list_push log r q ∙ elsewhere q (record { lsn = length log + 1; key = key_of r }) (open_list log q) r d

  other_last : (q : ℕ) (l : Option Link) → tx_or_none l ≢ q → cond (is_link_of q l) (length log + 1) (last log q) ≡ last log q
  other_last q None d = refl
  other_last q (Some l) d = ap (λ (b : Bool). cond b (length log + 1) (last log q)) (eqb_differ l.tx q d)

  other : (q : ℕ) → tx_of r ≢ q → unfinished now q ≡ unfinished log q
  other q d = λ i. record { tx = q; last = (last_push log r q ∙ other_last q (link_of r) d) i; undo_next = last_open (list_kept q d i); writes = list_kept q d i }

  unlinked_last : (q : ℕ) → link_of r ≡ None → last now q ≡ last log q
  unlinked_last q e = last_push log r q ∙ ap (λ (l : Option Link). cond (is_link_of q l) (length log + 1) (last log q)) e

  -- of a record that names a transaction
  module _ (l : Link) (is : link_of r ≡ Some l) (some : 1 ≤ l.tx) (ws : List OpenWrite) (list : open_list now l.tx ≡ ws) where
    named : tx_of r ≡ l.tx
    named = ap tx_or_none is

    this : record { tx = l.tx; last = length log + 1; undo_next = last_open ws; writes = ws } ≡ unfinished now l.tx
    this = λ i. record { tx = l.tx; last = sym newest i; undo_next = last_open (sym list i); writes = sym list i }
      where
        newest : last now l.tx ≡ length log + 1
        newest = last_push log r l.tx ∙ ap (λ (k : Option Link). cond (is_link_of l.tx k) (length log + 1) (last log l.tx)) is ∙ ap (λ (b : Bool). cond b (length log + 1) (last log l.tx)) (eqb_self l.tx)

    tested : is_loser now l.tx ≡ has_items ws
    tested = some_open now l.tx ∙ ap has_items list

    pub moved : put_open (length log + 1) l.tx ws (listed log) ≡ listed now
    moved = ap (put_open (length log + 1) l.tx ws) (sym before_wide) ∙ by (has_items ws) tested ∙ now_wide
      where
        apart : (q : ℕ) → l.tx ≢ q → tx_of r ≢ q
        apart q d e = d (sym named ∙ e)

        by : (b : Bool) → is_loser now l.tx ≡ b
            → cond b (put (record { tx = l.tx; last = length log + 1; undo_next = last_open ws; writes = ws }) (listing (is_loser log) (unfinished log) 1 most)) (without l.tx (listing (is_loser log) (unfinished log) 1 most)) ≡ listing (is_loser now) (unfinished now) 1 most
        by true e =
            ap (λ (u : Unfinished). put u (listing (is_loser log) (unfinished log) 1 most)) this
            ∙ put_in (is_loser log) (is_loser now) (unfinished log) (unfinished now) (λ t. refl) (λ t. refl) l.tx (λ q d. other_test q (apart q d)) (λ q d. other q (apart q d)) e 1 most some
            (let u = le-max_right (greatest log) (tx_of r) in let n = named in omega (arith, u, n))
        by false e = taken_out (is_loser log) (is_loser now) (unfinished log) (unfinished now) (λ t. refl) (λ t. refl) l.tx (λ q d. other_test q (apart q d)) (λ q d. other q (apart q d)) e 1 most some

  -- of one that names none
  module _ (is : link_of r ≡ None) (kept : (q : ℕ) → open_list now q ≡ open_list log q) where
    pub stays : listed log ≡ listed now
    stays =
        sym before_wide
        ∙ listing_same (is_loser log) (is_loser now) (unfinished log) (unfinished now) 1 most (λ q l. some_open now q ∙ ap has_items (kept q) ∙ sym (some_open log q))
        (λ q l. λ i. record { tx = q; last = unlinked_last q is i; undo_next = last_open (kept q i); writes = kept q i })
        ∙ now_wide

module _ (log : List Record) (lawful : AreLawful log) where
  abbrev lsn : ℕ
  lsn = length log + 1

  added : (tx : ℕ) (key : List ℕ) (r : Record) → open_list (log ++ r ∷ []) tx ≡ cond (eqb tx tx) (open_list log tx ++ record { lsn = lsn; key = key } ∷ []) (open_list log tx)
      → open_list (log ++ r ∷ []) tx ≡ writes_in tx (listed log) ++ record { lsn = lsn; key = key } ∷ []
  added tx key r e =
      e
      ∙ ap (λ (b : Bool). cond b (open_list log tx ++ record { lsn = lsn; key = key } ∷ []) (open_list log tx)) (eqb_self tx)
      ∙ ap (λ (ws : List OpenWrite). ws ++ record { lsn = lsn; key = key } ∷ []) (sym (writes_listed log lawful tx))

  pub transactions_more : (r : Record) → IsLawful log r → transactions_step lsn (listed log) r ≡ listed (log ++ r ∷ [])
  transactions_more (kinds.Write w) l = moved log (kinds.Write w) (record { tx = w.tx; prev = w.prev }) refl (linked log (kinds.Write w) l) _ (added w.tx w.key (kinds.Write w) (open_list_push log (kinds.Write w) w.tx))
  transactions_more (kinds.Apply w) l = moved log (kinds.Apply w) (record { tx = w.tx; prev = w.prev }) refl (linked log (kinds.Apply w) l) _ (added w.tx w.key (kinds.Apply w) (open_list_push log (kinds.Apply w) w.tx))
  transactions_more (kinds.Undo u) l = moved log (kinds.Undo u) (record { tx = u.tx; prev = u.prev }) refl (linked log (kinds.Undo u) l) _
      (open_list_push log (kinds.Undo u) u.tx
      ∙ ap (λ (b : Bool). cond b (without_last (open_list log u.tx)) (open_list log u.tx)) (eqb_self u.tx)
      ∙ ap without_last (sym (writes_listed log lawful u.tx)))
  transactions_more (kinds.Commit c) l = moved log (kinds.Commit c) (record { tx = c.tx; prev = c.prev }) refl (linked log (kinds.Commit c) l) []
      (open_list_push log (kinds.Commit c) c.tx ∙ ap (λ (b : Bool). cond b [] (open_list log c.tx)) (eqb_self c.tx))
  transactions_more (kinds.End c) l = moved log (kinds.End c) (record { tx = c.tx; prev = c.prev }) refl (linked log (kinds.End c) l) []
      (open_list_push log (kinds.End c) c.tx ∙ ap (λ (b : Bool). cond b [] (open_list log c.tx)) (eqb_self c.tx))
  transactions_more (kinds.Format x) l = stays log (kinds.Format x) refl (open_list_push log (kinds.Format x))
  transactions_more (kinds.Split x) l = stays log (kinds.Split x) refl (open_list_push log (kinds.Split x))
  transactions_more (kinds.Adopt x) l = stays log (kinds.Adopt x) refl (open_list_push log (kinds.Adopt x))
  transactions_more (kinds.Grow x) l = stays log (kinds.Grow x) refl (open_list_push log (kinds.Grow x))
  transactions_more (kinds.Purge x) l = stays log (kinds.Purge x) refl (open_list_push log (kinds.Purge x))
  transactions_more (kinds.Written x) l = stays log (kinds.Written x) refl (open_list_push log (kinds.Written x))
  transactions_more (kinds.Checkpoint x) l = stays log (kinds.Checkpoint x) refl (open_list_push log (kinds.Checkpoint x))
  transactions_more (kinds.BackupDone x) l = stays log (kinds.BackupDone x) refl (open_list_push log (kinds.BackupDone x))
  transactions_more (kinds.RunDone x) l = stays log (kinds.RunDone x) refl (open_list_push log (kinds.RunDone x))
  transactions_more (kinds.Lost x) l = stays log (kinds.Lost x) refl (open_list_push log (kinds.Lost x))
  transactions_more (kinds.Restored x) l = stays log (kinds.Restored x) refl (open_list_push log (kinds.Restored x))
