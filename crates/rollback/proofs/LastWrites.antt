-- The last open write of a transaction, and what takes it back.
use Rattle.std.proofs.Common.{◌≡◌, ℕ, zero, suc, ◌-◌, List, [], ◌∷◌, ◌++◌, length, Option, Some, None, false, refl, sym, ap, subst, ◌∙◌, arith}
use Rattle.std.specs.List.{slice_get}
use Rattle.store_model.specs.Lists.{last_of}
use Rattle.wal_record.specs.History.{life_log}
use Rattle.wal_record.specs.OpenWrites.{open_writes}
use Rattle.wal_record.specs.Sound.{UndoRule}
use Rattle.wal_record.specs.declared.record.Record.{Record}
use Rattle.wal_record.specs.declared.entry.Entry.{Entry}
use Rattle.leaf_writes.specs.Changes.{is_told}
use Rattle.leaf_writes.specs.MayChange.{undo_of}
use Rattle.leaf_writes.specs.declared.change.Change.{Change}
use Rattle.leaf_writes.specs.declared.change.How.TheVariants as hows
use Rattle.rollback.specs.Undoes.{TakesBackLast, TakesBackWrite}

at_end : (ws : List Record) (n : ℕ) (w : Record) → length ws ≡ suc n → Some w ≡ slice_get ws n → (front : List Record) × (ws ≡ front ++ w ∷ [])
at_end [] n w len is = absurd (cc is)
at_end (x ∷ []) zero w len is = let same : w ≡ x = cc is in ([], λ i. sym same i ∷ [])
at_end (x ∷ y ∷ ys) zero w len is = absurd (omega (arith, len))
at_end (x ∷ xs) (suc n) w len is = let rest = at_end xs n w (omega (arith, len)) is in (x ∷ rest.0, ap (λ (l : List Record). x ∷ l) rest.1)

last_some : (ws : List Record) (w : Record) → Some w ≡ last_of ws → (front : List Record) × (ws ≡ front ++ w ∷ [])
last_some [] w is = absurd (cc is)
last_some (x ∷ xs) w is =
    let n : length (x ∷ xs) - 1 ≡ length xs = omega arith in
    at_end (x ∷ xs) (length xs) w refl (is ∙ ap (slice_get (x ∷ xs)) n)

-- a list with items has a last one
some_last : (ws : List Record) (n : ℕ) → length ws ≡ suc n → None ≡ slice_get ws n → ⊥
some_last [] n len is = absurd (omega (arith, len))
some_last (x ∷ xs) zero len is = cc is
some_last (x ∷ xs) (suc n) len is = some_last xs n (omega (arith, len)) is

pub last_none : (ws : List Record) → None ≡ last_of ws → ws ≡ []
last_none [] is = refl
last_none (x ∷ xs) is =
    let n : length (x ∷ xs) - 1 ≡ length xs = omega arith in
    absurd (some_last (x ∷ xs) (length xs) refl (is ∙ ap (slice_get (x ∷ xs)) n))

-- the transaction has none
pub nothing_open : (opens : List Record → Type 0) (h : List Entry) (tx : ℕ) (found : Option Record) → found ≡ None → ((opening : List Record) → opens opening → found ≡ last_of (open_writes (life_log opening h) tx)) → (opening : List Record) → opens opening
    → open_writes (life_log opening h) tx ≡ []
nothing_open opens h tx found none last opening stands = last_none (open_writes (life_log opening h) tx) (sym none ∙ last opening stands)

-- the undo of the last one
pub takes_last : (opens : List Record → Type 0) (h : List Entry) (tx : ℕ) (found : Option Record) (w : Record) (c : Change) → found ≡ Some w → ((opening : List Record) → opens opening → found ≡ last_of (open_writes (life_log opening h) tx)) → TakesBackWrite tx w c → TakesBackLast opens h c
takes_last opens h tx found w c some last t = record {
  next = t.next;
  how = t.how;
  place = t.place;
  last = λ opening stands. subst (λ (n : ℕ). UndoRule (open_writes (life_log opening h) n) (undo_of n c.key c.new t.next)) (sym t.tx)
      (let split = last_some (open_writes (life_log opening h) tx) w (sym some ∙ last opening stands) in record { front = split.0; back = w; split = split.1; takes = t.takes });
}

-- an undo asks for no room
pub no_room : (c : Change) (next : ℕ) → c.how ≡ hows.Undo next → is_told c.how ≡ false
no_room c next is = ap is_told is
