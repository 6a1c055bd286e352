-- Groups that ask for the same, whatever numbers stand in the fields that the journal fills in.
use Rattle.std.specs.Prelude.{◌≡◌, ℕ, List, [], ◌∷◌, Option}
use Rattle.books.specs.Rights.{PageClaim}
use Rattle.wal_record.specs.declared.record.Record.{Record}
use Rattle.wal_record.specs.declared.entry.Entry.{Entry}
use Rattle.page_ops.specs.declared.group.Group.{Group}
use Rattle.page_ops.specs.Groups.{Numbers, filled, made_by}
use Rattle.page_ops.specs.Asking.{IsAskable}

-- record by record the journal makes the same of both, by whatever numbers; the new page goes by these in them
abbrev pub AreAlike : Option ℕ → Option ℕ → List Record → List Record → Type 0
AreAlike made made' [] [] = Unit {0}
AreAlike made made' (r ∷ rs) (x ∷ xs) = ((n : Numbers) → filled made n r ≡ filled made' n x) × AreAlike made made' rs xs
AreAlike made made' _ _ = ⊥

-- the LSN in a group is the journal's to fill in, too
pub record IsSameGroup (g other : Group) : Type 0 where
  pub records : AreAlike (made_by g.recs) (made_by other.recs) g.recs other.recs
  pub said : g.said ≡ other.said
  pub room : g.room ≡ other.room

-- so a caller writes any number where it doesn't know the one that stands in the log
pub record AlikeLaw (opening : List Record) (h : List Entry) (g other : Group) : Type 0 where
  pub asks : IsSameGroup g other → (a : Option PageClaim) → IsAskable opening h a g → IsAskable opening h a other
