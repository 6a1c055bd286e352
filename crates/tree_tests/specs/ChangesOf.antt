-- Changes of a row that has a known value.
use Rattle.std.specs.Prelude.{◌≡◌, ℕ, List, Option, is_some, IsTrue}
use Rattle.store_model.specs.Operator.{meaning}
use Rattle.wal_record.specs.Rules.{is_change, is_lsn_or_none}
use Rattle.leaf_writes.specs.declared.change.Change.{Change}
use Rattle.leaf_writes.specs.declared.change.How.{How}
use Rattle.leaf_writes.specs.declared.change.How.TheVariants as hows

-- by which the value becomes this one
abbrev pub IsHow : How → Option (List ℕ) → Option (List ℕ) → Type 0
IsHow (hows.Write o) old new = (o ≡ old) × IsTrue (is_change o new)
IsHow (hows.Apply o operator argument) old new = (o ≡ old) × (new ≡ meaning operator o argument) × IsTrue (is_some new)
IsHow (hows.Undo undo_next) old new = IsTrue (is_lsn_or_none undo_next)

pub record IsChangeOf (t : ℕ) (k : List ℕ) (old : Option (List ℕ)) (c : Change) : Type 0 where
  pub tx : c.tx ≡ t
  pub key : c.key ≡ k
  pub how : IsHow c.how old c.new
