-- The entering law: what the leaf of a key promises of the next write and the next undo.
use Rattle.std.specs.Prelude.{◌≡◌, ◌≢◌, ℕ, List, [], ◌∷◌, ◌++◌}
use Rattle.std.specs.FinMap as finite
use Rattle.wal_record.specs.OpenWrites.{open_writes, key_of, old_of}
use Rattle.wal_record.specs.Contents.{current}
use Rattle.wal_record.specs.Images.{image, CanWrite, CanUndo}
use Rattle.wal_record.specs.Tree.{LeafOf}
use Rattle.wal_record.specs.Sound.{AreLawful}
use Rattle.wal_record.specs.declared.record.Record.{Record}

pub record LeafLaw (log : List Record) : Type 0 where
  -- a write of a key that names its current value is applicable there, but for its room
  pub can_write : AreLawful log → log ≢ [] → (key : List ℕ) (a : LeafOf (image log) key) → CanWrite key (finite.get (current log) key) a.state
  -- and so is the undo of a last open write
  pub can_undo : AreLawful log → log ≢ [] → (t : ℕ) (front : List Record) (w : Record) → open_writes log t ≡ front ++ w ∷ [] → (a : LeafOf (image log) (key_of w)) → CanUndo (key_of w) (old_of w) a.state
