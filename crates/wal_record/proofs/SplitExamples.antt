-- A full leaf is split for a write that didn't fit into it, at the lawful place, and then the write comes.
use Rattle.std.proofs.Common.{ℕ, false, List, [], ◌∷◌, Some, None, refl, arith, replicate}
use Rattle.store_model.specs.Along.{along}
use Rattle.store_model.specs.Range.{point}
use Rattle.store_model.specs.declared.range.Mode.TheVariants.{Exclusive}
use Rattle.wal_record.specs.declared.page.PageState.{PageState}
use Rattle.wal_record.specs.declared.page.LeafRow.{LeafRow}
use Rattle.wal_record.specs.declared.page.Rows.TheVariants.{Leaf}
use Rattle.wal_record.specs.declared.record.Record.{Record}
use Rattle.wal_record.specs.declared.record.Record.TheVariants as kinds
use Rattle.wal_record.specs.declared.entry.Entry.{Entry}
use Rattle.wal_record.specs.declared.entry.Entry.TheVariants.{Rec, Lock, Began}
use Rattle.wal_record.specs.State.{KeepsState}
use Rattle.wal_record.specs.Chains.{head, pages, last, greatest}
use Rattle.wal_record.specs.OpenWrites.{open_writes, pending}
use Rattle.wal_record.specs.Images.{applied, image, CanApply}
use Rattle.wal_record.specs.Sound.{IsLawful}
use Rattle.wal_record.specs.Legal.{untold, split_leaf, IsAllowed, FollowsSplit}
use Rattle.wal_record.proofs.ExampleLogs.{format}
use Rattle.wal_record.proofs.SoundExamples.{at_two}

-- a value of 256 bytes
abbrev big : List ℕ
big = replicate 256 118

abbrev put : ℕ → ℕ → ℕ → Record
put byte prev page_prev = kinds.Write (record { tx = 1; prev = prev; page = 1; page_prev = page_prev; key = byte ∷ []; old = None; new = Some big })

abbrev row : ℕ → LeafRow
row byte = record { key = byte ∷ []; tombstone = false; value = big }

-- fifteen rows, of a to o, that leave no room for a sixteenth
abbrev full_log : List Record
full_log = format ∷ put 97 0 1 ∷ put 98 2 2 ∷ put 99 3 3 ∷ put 100 4 4 ∷ put 101 5 5 ∷ put 102 6 6 ∷ put 103 7 7 ∷ put 104 8 8 ∷ put 105 9 9 ∷ put 106 10 10 ∷ put 107 11 11 ∷ put 108 12 12 ∷ put 109 13 13 ∷ put 110 14 14 ∷ put 111 15 15 ∷ []

-- the rows from i on
abbrev upper : PageState
upper = record { level = 0; low = Some (105 ∷ []); high = None; foster = None; rows = Leaf (row 105 ∷ row 106 ∷ row 107 ∷ row 108 ∷ row 109 ∷ row 110 ∷ row 111 ∷ []) }

abbrev split : Record
split = kinds.Split (record { page = 1; page_prev = 16; child = 2; child_state = upper })

abbrev put_p : Record
put_p = kinds.Write (record { tx = 2; prev = 0; page = 2; page_prev = 17; key = 112 ∷ []; old = None; new = Some big })

abbrev before : List Entry
before = Began 7 2 ∷ Lock 2 (point (112 ∷ [])) Exclusive ∷ []

upper_keeps : KeepsState upper
upper_keeps = record { level = refl; fences = refl; texts = refl; foster = refl; rows = (refl, refl, refl); size = omega arith }

split_lawful : IsLawful full_log split
unfolding image along applied CanApply head last pages pending greatest open_writes
split_lawful = record {
  first = refl;
  chain = tt;
  heads = (refl, tt);
  upkeep = tt;
  place = refl;
  value = tt;
  fields = record { page = refl; page_prev = refl; child = refl; child_state = upper_keeps };
  applicable = at_two split full_log 1 2
      (record { can = ((λ e. (_, refl, record { level = refl; high = refl; foster = refl; upper = refl; goes = refl; stays = refl })), λ e. absurd (omega (arith, e))); fits = (_, refl, omega arith) })
      (record { can = ((λ e. absurd (omega (arith, e))), λ e. refl); fits = (_, refl, omega arith) });
  room = record { most = omega arith; next = λ e. absurd (omega arith) };
}

split_legal : IsAllowed full_log before (Rec 17 split)
unfolding untold split_leaf image along applied
split_legal = record { split = tt; rule = record { told = refl; place = refl; lawful = split_lawful; rule = (_, refl, record { at = refl; crowded = refl }) } }

abbrev behind : List Entry
behind = Began 7 2 ∷ Lock 2 (point (112 ∷ [])) Exclusive ∷ Rec 17 split ∷ []

-- the write that comes then didn't fit into the leaf as it was
follows : FollowsSplit (split_leaf full_log behind) (Rec 18 put_p)
unfolding split_leaf image applied along
follows = record { own = refl; full = refl }
