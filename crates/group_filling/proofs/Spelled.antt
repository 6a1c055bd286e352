-- The records of a group, filled in, have a spelling, and how long it is.
use Rattle.std.proofs.Common.{◌≡◌, ℕ, ◌≤◌, List, [], ◌∷◌, length, Option, false, refl, sym, subst}
use Rattle.std.specs.Prelude.{All}
use Rattle.std.proofs.lemmas.List.Elements.{All-nil, All-cons}
use Rattle.page_ops.specs.Groups.{Each, Numbers, filled, IsSpelled, AreFilledFrom}
use Rattle.wal_record.specs.Rules.{HasSpelling}
use Rattle.wal_record.specs.declared.record.Record.{Record}
use Rattle.wal_record.specs.declared.record.Record.TheVariants as kinds
use Rattle.log_manager.specs.Payload.{bytes_of}
use Rattle.wal_record.specs.Checkpoints.{is_checkpoint}
use Rattle.group_filling.proofs.Sizes.{group_size}
use Rattle.group_filling.specs.Fitting.{AreInRange}

-- the fields that stay keep their rules, and those that are filled in are in range
pub spelled_filled : (made : Option ℕ) (n : Numbers) (r : Record) → IsSpelled made r → AreInRange (filled made n r) → HasSpelling (filled made n r)
spelled_filled made n (kinds.Write w) k x = record { tx = k.tx; prev = x.0; page = x.1; page_prev = x.2; key = k.key; old = k.old; new = k.new; change = k.change }
spelled_filled made n (kinds.Apply a) k x = record { tx = k.tx; prev = x.0; page = x.1; page_prev = x.2; key = k.key; operator = k.operator; argument = k.argument; old = k.old }
spelled_filled made n (kinds.Undo u) k x = record { tx = k.tx; prev = x.0; page = x.1; page_prev = x.2; key = k.key; restores = k.restores; undo_next = k.undo_next }
spelled_filled made n (kinds.End e) k x = record { tx = k.tx; prev = x }
spelled_filled made n (kinds.Split s) k x = record { page = k.page; page_prev = x.0; child = x.1; child_state = k.child_state }
spelled_filled made n (kinds.Adopt a) k x = record { parent = k.parent; parent_prev = x.0; fosterer = k.fosterer; fosterer_prev = x.1; child = k.child; key = k.key }
spelled_filled made n (kinds.Grow g) k x = record { page_prev = x.0; child = x.1; child_state = k.child_state }
spelled_filled made n (kinds.Purge g) k x = record { page = k.page; page_prev = x }
spelled_filled made n (kinds.Checkpoint c) k x = absurd x
spelled_filled made n (kinds.Lost l) k x = record { pages = x }
spelled_filled made n _ k x = k

pub all_spelled : (made : Option ℕ) (new : ℕ) (asked now : List Record) → AreFilledFrom made new asked now → Each (IsSpelled made) asked → Each AreInRange now → Each HasSpelling now
all_spelled made new [] [] f k x = tt
all_spelled made new [] (y ∷ ys) f k x = absurd f
all_spelled made new (r ∷ rs) [] f k x = absurd f
all_spelled made new (r ∷ rs) (y ∷ ys) f k x = (
  subst HasSpelling (sym f.0.2) (spelled_filled made f.0.0 r k.0 (subst AreInRange f.0.2 x.0)),
  all_spelled made new rs ys f.1 k.1 x.1,
)

pub each_all : {A : Type 0} (P : A → Type 0) (xs : List A) → Each P xs → All P xs
each_all P [] e = All-nil P
each_all P (x ∷ xs) e = All-cons P x xs e.0 (each_all P xs e.1)

no_checkpoints : (recs : List Record) → Each AreInRange recs → Each (λ r. is_checkpoint r ≡ false) recs
no_checkpoints [] x = tt
no_checkpoints (r ∷ rs) x = (by r x.0, no_checkpoints rs x.1)
  where
    by : (r : Record) → AreInRange r → is_checkpoint r ≡ false
    by (kinds.Checkpoint c) x = absurd x
    by _ x = refl

-- a filled group can be added to a log
pub spelled_group : (made : Option ℕ) (new : ℕ) (asked now : List Record) → AreFilledFrom made new asked now → Each (IsSpelled made) asked → length now ≤ 2 → Each AreInRange now → All HasSpelling now × (length (bytes_of now) ≤ 4194304)
spelled_group made new asked now f k few x =
    let each = all_spelled made new asked now f k x in
    (each_all HasSpelling now each, group_size now few each (no_checkpoints now x))
