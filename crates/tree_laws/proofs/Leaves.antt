-- What the leaf of a key promises.
use Rattle.std.proofs.Common.{◌≡◌, ◌≢◌, ℕ, List, [], ◌∷◌, ◌++◌, ap, ◌∙◌}
use Rattle.std.specs.Prelude.{is_some, ◌||◌}
use Rattle.std.specs.FinMap.{get}
use Rattle.wal_record.specs.OpenWrites.{open_writes, key_of, old_of}
use Rattle.wal_record.specs.Contents.{current}
use Rattle.wal_record.specs.Images.{image, CanWrite, CanUndo}
use Rattle.wal_record.specs.Tree.{LeafOf}
use Rattle.wal_record.specs.Sound.{AreLawful}
use Rattle.wal_record.specs.declared.record.Record.{Record}
use Rattle.log_laws.proofs.EnteringLaws as entering
use Rattle.tree_laws.specs.Entering.{LeafLaw}
use Rattle.tree_laws.proofs.Whole.{tree}

module _ (log : List Record) (sound : AreLawful log) (some : log ≢ []) where
  can_write : (key : List ℕ) (a : LeafOf (image log) key) → CanWrite key (get (current log) key) a.state
  can_write key a = record { at = record { leaf = a.leaf; own = a.own }; value = (tree log sound some).values key a }

  can_undo : (t : ℕ) (front : List Record) (w : Record) → open_writes log t ≡ front ++ w ∷ [] → (a : LeafOf (image log) (key_of w)) → CanUndo (key_of w) (old_of w) a.state
  can_undo t front w split a = record {
    at = record { leaf = a.leaf; own = a.own };
    there = ap (λ v. is_some (old_of w) || is_some v) ((tree log sound some).values (key_of w) a) ∙ entering.can_undo log sound t front w split;
  }

pub leaves : (log : List Record) → LeafLaw log
leaves log = record { can_write = can_write log; can_undo = can_undo log }
